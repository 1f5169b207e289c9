use Rattle.std.proofs.Common.{◌≡◌, ◌≤◌, ◌-◌, ℕ, List, Option, length, take}
use Rattle.byte_io.specs.Sides.{and_then}
use Rattle.http_jobs.specs.Clock.{InTime, shown_then}
use Rattle.http_jobs.proofs.sending.send_what_fits.Given as goal

-- what has gone out is the prefix of that length
abbrev pub invariant-loop-count : goal.invariant-loop-count
invariant-loop-count g l = record {
  gone_out : (g.L.Device.output l.link).got ≡ and_then (g.L.Device.output l.fn.link).got (take l.count l.bytes);
  unfailed : (g.L.Device.output l.link).failures ≡ (g.L.Device.output l.fn.link).failures;
  unread : g.L.Device.input l.link ≡ g.L.Device.input l.fn.link;
  within : l.count ≤ length l.bytes;
  shown : (times : List (Option ℕ)) × (g.C.Clock.shown l.clock ≡ shown_then (g.C.Clock.shown l.fn.clock) times) × InTime l.deadline times;
}

abbrev pub decreases-loop-count : goal.decreases-loop-count
decreases-loop-count g l = length l.bytes - l.count
