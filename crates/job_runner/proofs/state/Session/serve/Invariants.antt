use Rattle.std.proofs.Common.{◌≡◌, ℕ, ◌-◌, ◌*◌, ◌≤◌, List, length}
use Rattle.byte_io.specs.Sides.{and_then}
use Rattle.job_runner.specs.Told.{AreTold}
use Rattle.job_runner.specs.Listening.{Reads}
use Rattle.job_runner.specs.Holding.{SameParts}
use Rattle.job_runner.specs.Loop.{session_in, HasServed}
use Rattle.job_runner.proofs.state.Session.serve.Given as goal

abbrev pub invariant-loop-made : goal.invariant-loop-made
invariant-loop-made g l = record {
  within : l.made ≤ l.turns;
  serving : (read : List ℕ) × ((g.L.Device.input l.self.link.now).given ≡ and_then (g.L.Device.input l.fn.self.link.now).given read) × (length read ≤ 4096 * l.made)
      × HasServed (session_in l.worker (g.L.Device.output l.fn.self.link.now).got read) (AreTold g.J.Jobs.tells g.J.Jobs.prepares l.fn.self.jobs.now l.self.jobs.now) (g.L.Device.output l.self.link.now).got l.inbox.reader l.self.state (g.P.PoolPort.book l.self.port.now);
  turns : Reads 4096 l.made l.made (g.L.Device.input l.fn.self.link.now) (g.L.Device.input l.self.link.now);
  read_failures : (g.L.Device.input l.self.link.now).failures ≡ (g.L.Device.input l.fn.self.link.now).failures;
  write_failures : (g.L.Device.output l.self.link.now).failures ≡ (g.L.Device.output l.fn.self.link.now).failures;
  parts : SameParts l.fn.self l.self;
  losses : (g.P.PoolPort.book l.self.port.now).losses ≡ 0;
}

abbrev pub decreases-loop-made : goal.decreases-loop-made
decreases-loop-made g l = l.turns - l.made
