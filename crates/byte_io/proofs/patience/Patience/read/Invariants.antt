use Rattle.std.proofs.Common.{◌-◌, ◌≤◌, []}
use Rattle.byte_io.specs.Pieces.{brought}
use Rattle.byte_io.specs.Sides.{Meets}
use Rattle.byte_io.proofs.patience.Patience.read.Given as goal

-- all that came so far is timeouts
abbrev pub invariant-loop-count : goal.invariant-loop-count
invariant-loop-count g l = record {
  met :
      Meets (g.S.Device.input l.fn.source)
      (brought [] (l.self-inside.timeouts - l.initial.self-inside.timeouts) (g.S.Device.input l.source).has_ended)
      (g.S.Device.input l.source);
  since : l.initial.self-inside.timeouts ≤ l.self-inside.timeouts;
  few : l.self-inside.timeouts ≤ 64;
}

abbrev pub decreases-loop-count : goal.decreases-loop-count
decreases-loop-count g l = 64 - l.self-inside.timeouts
