use Rattle.std.proofs.Common.{arith, map, string_bytes}
use Rattle.pool_settings.specs.Slots.{slots}
use Rattle.farm_notes.specs.Evidence as spec
use Rattle.farm_notes.proofs.Numbered.{one_written}
use Rattle.farm_notes.proofs.evidence.lost_workers.Goals as goal

pub loop-number-preserved : goal.loop-number-preserved
loop-number-preserved c =
    let settings = c.args.settings.now in
    one_written (spec.lost_at settings c.args.input.now) (slots settings) c.loop-number.number (map string_bytes c.loop-number.lost.items) _ _
    (omega arith) (rw c.new.ensures at c.in_ok-push_if_lost.ensures) c.loop-number.invariant
