-- The calls of a port, and what they come to.
use Rattle.job_runner.specs.Book.{Ledger, no_calls, after_order, after_grab, after_begin, after_report, after_loss}
use Rattle.job_runner.specs.declared.port.GrabRefusal.{GrabRefusal}
use Rattle.job_runner.specs.declared.port.GrabRefusal.TheVariants as refused
use Rattle.pool_core.specs.declared.error.GrabError.{GrabError}
use Rattle.pool_core.specs.declared.error.GrabError.TheVariants as grab
use Rattle.pool_supervisor.specs.declared.calls.Call.{Call}
use Rattle.pool_supervisor.specs.declared.calls.Call.TheVariants as call
use Rattle.pool_supervisor.specs.declared.calls.Calls.{Calls, New, Then'}

-- What a session is answered for a grab that the pool refused: a worker that has a job is not what its session takes it for.
abbrev pub grab_refusal_of : GrabError → GrabRefusal
grab_refusal_of grab.Gone = refused.Gone
grab_refusal_of grab.Busy = refused.Gone
grab_refusal_of grab.HistoryFull = refused.HistoryFull
grab_refusal_of grab.Memory = refused.Memory

abbrev pub after_call : Ledger → Call → Ledger
after_call book (call.Order order) = after_order book order
after_call book (call.Grab answer) = after_grab book answer
after_call book (call.Begin answer) = after_begin book answer
after_call book (call.Report answer) = after_report book answer
after_call book (call.Lose cause) = after_loss book cause

-- what a port reports after these calls
abbrev pub book_of : Calls → Ledger
book_of New = no_calls
book_of (Then' shape before call) = after_call (book_of before) call
