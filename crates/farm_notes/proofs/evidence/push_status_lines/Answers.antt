use Rattle.std.proofs.Common.{arith, length, slice_index, string_bytes}
use Rattle.pool_settings.specs.Names.{name_at}
use Rattle.farm_notes.specs.Evidence as spec
use Rattle.farm_notes.proofs.Numbered.{one_written}
use Rattle.farm_notes.proofs.evidence.push_status_lines.Goals as goal

pub loop-number-preserved : goal.loop-number-preserved
loop-number-preserved c =
    let names = c.args.settings.now.functions in
    let waiting = c.args.waiting.now in
    let k = c.loop-number.number in
    one_written (λ f. spec.status_line (name_at names f) (slice_index waiting f)) (length names) k (string_bytes c.loop-number.out) _ _
    (omega arith) (rw (c.function_name-name.ensures.name, c.new.ensures) at c.in_ok-push_status_line.ensures) c.loop-number.invariant
