use Rattle.std.proofs.Common.{◌≤◌, ◌-◌, length}
use Rattle.byte_io.specs.Pieces.{brought}
use Rattle.byte_io.specs.Sides.{Meets}
use Rattle.devices.proofs.input.read_whole.Given as goal

-- the bytes so far are what the source gave
abbrev pub invariant-loop-bytes : goal.invariant-loop-bytes
invariant-loop-bytes g l = record {
  met :
      Meets (g.R.Device.input l.fn.source) (brought l.bytes.items l.patience (g.R.Device.input l.source).has_ended)
      (g.R.Device.input l.source);
  patient : l.patience ≤ 64;
  few : length l.bytes.items ≤ 16777216;
}

abbrev pub decreases-loop-bytes : goal.decreases-loop-bytes
decreases-loop-bytes g l = 16777216 - length l.bytes.items
