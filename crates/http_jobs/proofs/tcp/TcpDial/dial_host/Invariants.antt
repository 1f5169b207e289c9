use Rattle.std.proofs.Common.{◌≡◌}
use Rattle.http_jobs.proofs.tcp.TcpDial.dial_host.Given as goal

abbrev pub invariant-loop-address : goal.invariant-loop-address
invariant-loop-address g l = l.self.host ≡ l.fn.self.host
