use Rattle.std.proofs.Common.{◌≡◌, ◌+◌, ◌≤◌, length}
use Rattle.http1.specs.declared.conn.Limits.{Limits}
use Rattle.http_jobs.specs.Meanwhile.{HasRead, IsReading, Moment, moment}
use Rattle.http_jobs.specs.Reasons.{Seen}
use Rattle.http_jobs.proofs.answers.receive.Given as goal

-- what was read so far is no whole response, and each turn read something or waited
abbrev pub invariant-loop-turn : goal.invariant-loop-turn
invariant-loop-turn g l = record {
  reading : IsReading l.reader;
  unfailed : (g.L.Device.input l.link).failures ≡ (g.L.Device.input l.fn.link).failures;
  unwritten : g.L.Device.output l.link ≡ g.L.Device.output l.fn.link;
  read : (limits : Limits) (first : Moment) (seen : Seen)
      → HasRead limits l.bounds.deadline first seen (moment (g.L.Device.input l.fn.link) (g.C.Clock.shown l.fn.clock)) l.fn.reader
      → (now : Seen) × HasRead limits l.bounds.deadline first now (moment (g.L.Device.input l.link) (g.C.Clock.shown l.clock)) l.reader
      × (l._turn ≤ length now.read + now.lulls);
}
