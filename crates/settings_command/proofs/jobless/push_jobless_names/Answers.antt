use Rattle.std.proofs.Common.{arith, length, string_bytes}
use Rattle.settings_command.specs.Remarks as spec
use Rattle.settings_command.proofs.Numbered.{one_written}
use Rattle.settings_command.proofs.jobless.push_jobless_names.Goals as goal

pub loop-number-preserved : goal.loop-number-preserved
loop-number-preserved c =
    let p = c.args.settings.now in
    let k = c.loop-number.number in
    one_written (spec.jobless_name p) (length p.functions) k (string_bytes c.loop-number.out) _ _ (omega arith) (rw c.new.ensures at c.in_ok-push_if_jobless.ensures)
    c.loop-number.invariant
