use Rattle.std.proofs.Common.{◌≡◌, List}
use Rattle.std.specs.Prelude.{nat_lt}
use Rattle.http_jobs.specs.Serving.{DialCall, then_called}
use Rattle.drain_command.specs.Drain.{AfterTries}
use Rattle.drain_command.proofs.asking.ask_page.Given as goal

abbrev pub invariant-loop-count : goal.invariant-loop-count
invariant-loop-count g l =
    (calls : List DialCall) × (g.D.Dial.calls l.dial ≡ then_called (g.D.Dial.calls l.fn.dial) calls)
    × AfterTries (nat_lt 0 l.count) calls
