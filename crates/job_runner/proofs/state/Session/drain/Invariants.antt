use Rattle.std.proofs.Common.{◌≡◌, length}
use Rattle.job_runner.specs.Holding.{SameParts, Stands, Start}
use Rattle.job_runner.proofs.state.Session.drain.Given as goal

abbrev pub invariant-loop-message : goal.invariant-loop-message
invariant-loop-message g l = record {
  serving : (start : Start g.row.J.Denot) → Stands g.L.Device.output g.P.PoolPort.book g.J.Jobs.tells g.J.Jobs.prepares l.worker start l.fn.reader l.fn.self
      → Stands g.L.Device.output g.P.PoolPort.book g.J.Jobs.tells g.J.Jobs.prepares l.worker start l.reader l.self;
  input : g.L.Device.input l.self.link.now ≡ g.L.Device.input l.fn.self.link.now;
  failures : (g.L.Device.output l.self.link.now).failures ≡ (g.L.Device.output l.fn.self.link.now).failures;
  parts : SameParts l.fn.self l.self;
  losses : (g.P.PoolPort.book l.self.port.now).losses ≡ (g.P.PoolPort.book l.fn.self.port.now).losses;
}

abbrev pub decreases-loop-message : goal.decreases-loop-message
decreases-loop-message g l = length l.reader.messages
