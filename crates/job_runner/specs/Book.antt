-- What a port reports of its calls.
use Rattle.std.specs.Prelude.{ℕ, ◌+◌, List, [], ◌∷◌, ◌++◌, Option, Some, None, Result, Ok, Err}
use Rattle.worker_state.specs.OrderParts.{OrderParts}
use Rattle.worker_state.specs.declared.cause.Cause.{Cause}
use Rattle.job_runner.specs.declared.port.Gone as gone
use Rattle.pool_core.specs.declared.answer.StayOrRetire.{StayOrRetire}
use Rattle.pool_core.specs.declared.answer.StayOrRetire.TheVariants as after
use Rattle.job_runner.specs.declared.port.GrabRefusal.{GrabRefusal}
use Rattle.job_runner.specs.declared.port.GrabRefusal.TheVariants as refused
use Rattle.job_runner.specs.declared.port.PortAnswer.{PortAnswer}
use Rattle.job_runner.specs.declared.port.PortAnswer.TheVariants as answer

pub record Ledger : Type 0 where
  -- how many calls of each kind succeeded
  pub grabs : ℕ
  pub begins : ℕ
  pub reports : ℕ
  -- how many calls of `lose` were made, and the cause of the last
  pub losses : ℕ
  pub last_loss : Option Cause
  -- the orders that it answered, in their order
  pub orders : List OrderParts
  -- the last answer of a call other than `lose`
  pub last_answer : Option PortAnswer

abbrev pub after_order : Ledger → OrderParts → Ledger
after_order b order = record b { orders = b.orders ++ order ∷ []; last_answer = Some (answer.Ordered order) }

abbrev pub after_grab : Ledger → Result ℕ GrabRefusal → Ledger
after_grab b (Ok ticket) = record b { grabs = b.grabs + 1; last_answer = Some (answer.Grabbed ticket) }
after_grab b (Err refused.Gone) = record b { last_answer = Some answer.Gone }
after_grab b (Err refused.HistoryFull) = record b { last_answer = Some answer.HistoryFull }
after_grab b (Err refused.Memory) = record b { last_answer = Some answer.Memory }

abbrev pub after_begin : Ledger → Result (Unit {0}) gone.Gone → Ledger
after_begin b (Ok done) = record b { begins = b.begins + 1; last_answer = Some answer.Began }
after_begin b (Err g) = record b { last_answer = Some answer.Gone }

abbrev pub after_report : Ledger → Result StayOrRetire gone.Gone → Ledger
after_report b (Ok after.Stay) = record b { reports = b.reports + 1; last_answer = Some answer.Stay }
after_report b (Ok after.Retire) = record b { reports = b.reports + 1; last_answer = Some answer.Retire }
after_report b (Err g) = record b { last_answer = Some answer.Gone }

abbrev pub after_loss : Ledger → Cause → Ledger
after_loss b cause = record b { losses = b.losses + 1; last_loss = Some cause }

abbrev pub no_calls : Ledger
no_calls = record { grabs = 0; begins = 0; reports = 0; losses = 0; last_loss = None; orders = []; last_answer = None }
