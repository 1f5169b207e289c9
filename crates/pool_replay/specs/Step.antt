-- One command: a call of the pool, or the word that there is no pass or no view, and what is printed.
use Rattle.std.specs.Prelude.{ℕ, ◌≡◌, List, Option, Some, None, Result, Ok, Err, Bool, true, false, IfOk, IfSome, slice_get}
use Rattle.std.specs.FinSet as set
use Rattle.plan_model.specs.Certificate.{Certificate}
use Rattle.plan_model.specs.Shown.{Shown}
use Rattle.gear_status.specs.Status.{Line}
use Rattle.level_search.specs.Steady.{IsSteady}
use Rattle.pool_settings.specs.Settings.{Settings}
use Rattle.worker_state.specs.declared.slot.WorkerName.{WorkerName}
use Rattle.worker_state.specs.declared.order.Order.{Order}
use Rattle.worker_state.specs.declared.cause.Cause.{Cause}
use Rattle.worker_state.specs.declared.job.EndKind.{EndKind}
use Rattle.pool_core.specs.declared.error.JoinError.{JoinError}
use Rattle.pool_core.specs.declared.error.LoadError.{LoadError}
use Rattle.pool_core.specs.declared.error.RoundError.{RoundError}
use Rattle.pool_core.specs.declared.error.ViewError.{ViewError}
use Rattle.pool_core.specs.declared.error.AdoptError.{AdoptError}
use Rattle.pool_core.specs.declared.error.GrabError.{GrabError}
use Rattle.pool_core.specs.declared.error.BeginError.{BeginError}
use Rattle.pool_core.specs.declared.error.ReportError.{ReportError}
use Rattle.pool_core.specs.declared.error.LoseError.{LoseError}
use Rattle.pool_core.specs.declared.error.ExpireError.{ExpireError}
use Rattle.pool_core.specs.declared.error.ChapterError.{ChapterError}
use Rattle.pool_core.specs.declared.event.Chapter.{Chapter}
use Rattle.pool_core.specs.declared.answer.StayOrRetire.{StayOrRetire}
use Rattle.pool_core.specs.declared.answer.Ran.{Ran}
use Rattle.refusal.specs.Label.{due}
use Rattle.pool_core.specs.CallRefusals.{is_view_memory, load_label, round_label, adopt_label, begin_label, lose_label, expire_label}
use Rattle.pool_core.specs.Book.{Book, IsInputOf, view_refusal, totals_of, kept_standing}
use Rattle.pool_core.specs.Calls as call
use Rattle.pool_commands.specs.declared.command.Command.{Command}
use Rattle.pool_commands.specs.declared.command.Command.TheVariants as command
use Rattle.pool_replay.specs.declared.desk.Desk.{Desk}
use Rattle.pool_replay.specs.Passes.{worker_cmp}
use Rattle.pool_replay.specs.Lines.{ok_line, join_line, ran_or, view_line, grab_line, report_line, job_line, order_line}
use Rattle.pool_core.specs.Totals.{totals_line}
use Rattle.pool_replay.specs.Lines.{chapter_line, no_pass, no_view}

-- what a view sees, with an answer that is shown for it and keeps the plan before if that is still best
abbrev pub Sees : Book → Result Certificate ViewError → Type 0
Sees book result =
    IfOk result (λ seen. IsInputOf book seen.input × Shown seen.input seen.answer
    × IfSome book.state.previous (λ plan. IsSteady seen.input plan seen.answer))
    × (due is_view_memory result ≡ view_refusal book)

-- ---- what is kept between two commands: the pool, the workers that have a pass, and the last view

-- the pass that a join gave is kept
abbrev pub with_joined : {E : Type 0} → set.FinSet worker_cmp → Result WorkerName E → set.FinSet worker_cmp
with_joined passes (Ok worker) = set.insert passes worker
with_joined passes (Err e) = passes

-- a view takes the place of an older one; a refused one takes no place
abbrev pub with_viewed : {E : Type 0} → Option Certificate → Result Certificate E → Option Certificate
with_viewed old (Ok viewed) = Some viewed
with_viewed old (Err e) = old

-- nothing has changed
abbrev pub Prints : List ℕ → Desk → List ℕ → Desk → Type 0
Prints text old line new = (line ≡ text) × (new ≡ old)

-- ---- the commands: the desk before, the line that is printed, and the desk after

abbrev pub TellsJoin : Settings → ℕ → Desk → List ℕ → Desk → Type 0
TellsJoin settings slot old line new =
    (result : Result WorkerName JoinError) × call.Joins slot old.pool new.pool result × (line ≡ join_line settings result)
    × (new.passes ≡ with_joined old.passes result) × (new.viewed ≡ old.viewed)

abbrev pub TellsLoad : List Line → Desk → List ℕ → Desk → Type 0
TellsLoad load old line new =
    (result : Result (Unit {0}) LoadError) × call.Loads load old.pool new.pool result × (line ≡ ok_line load_label result)
    × (new.passes ≡ old.passes) × (new.viewed ≡ old.viewed)

abbrev pub TellsRound : Desk → List ℕ → Desk → Type 0
TellsRound old line new =
    (result : Result Ran RoundError) × call.Rounds old.pool new.pool result × (line ≡ ran_or round_label result)
    × (new.passes ≡ old.passes) × (new.viewed ≡ old.viewed)

abbrev pub TellsView : Desk → List ℕ → Desk → Type 0
TellsView old line new =
    (result : Result Certificate ViewError) × Sees old.pool result × (line ≡ view_line result)
    × (new.viewed ≡ with_viewed old.viewed result) × (new.passes ≡ old.passes) × (new.pool ≡ old.pool)

-- an adoption spends the view, also if it is refused
abbrev pub TellsAdoption : Option Certificate → Desk → List ℕ → Desk → Type 0
TellsAdoption None old line new = Prints no_view old line new
TellsAdoption (Some viewed) old line new =
    (result : Result Ran AdoptError) × call.Adopts viewed old.pool new.pool result × (line ≡ ran_or adopt_label result)
    × (new.viewed ≡ None) × (new.passes ≡ old.passes)

abbrev pub TellsGrab : WorkerName → List ℕ → List ℕ → ℕ → Desk → List ℕ → Desk → Type 0
TellsGrab worker handle function now old line new =
    (result : Result ℕ GrabError) × call.Grabs worker handle function now old.pool new.pool result × (line ≡ grab_line result)
    × (new.passes ≡ old.passes) × (new.viewed ≡ old.viewed)

abbrev pub TellsBegin : WorkerName → ℕ → Desk → List ℕ → Desk → Type 0
TellsBegin worker ticket old line new =
    (result : Result (Unit {0}) BeginError) × call.Begins worker ticket old.pool new.pool result × (line ≡ ok_line begin_label result)
    × (new.passes ≡ old.passes) × (new.viewed ≡ old.viewed)

abbrev pub TellsReport : WorkerName → ℕ → EndKind → Desk → List ℕ → Desk → Type 0
TellsReport worker ticket end old line new =
    (result : Result StayOrRetire ReportError) × call.Reports worker ticket end old.pool new.pool result × (line ≡ report_line result)
    × (new.passes ≡ old.passes) × (new.viewed ≡ old.viewed)

-- a loss takes the pass, also if it is refused
abbrev pub TellsLoss : WorkerName → Cause → Desk → List ℕ → Desk → Type 0
TellsLoss worker cause old line new =
    (result : Result (Unit {0}) LoseError) × call.Loses worker cause old.pool new.pool result × (line ≡ ok_line lose_label result)
    × (new.passes ≡ set.remove old.passes worker) × (new.viewed ≡ old.viewed)

-- this needs no pass
abbrev pub TellsExpiry : WorkerName → ℕ → Desk → List ℕ → Desk → Type 0
TellsExpiry worker now old line new =
    (result : Result (Unit {0}) ExpireError) × call.Expires worker now old.pool new.pool result × (line ≡ ok_line expire_label result)
    × (new.passes ≡ old.passes) × (new.viewed ≡ old.viewed)

abbrev pub TellsOrder : Settings → ℕ → Desk → List ℕ → Desk → Type 0
TellsOrder settings slot old line new =
    (order : Order) × (slice_get old.pool.state.orders slot ≡ Some order) × Prints (order_line settings order) old line new

-- the chapter that has ended is given up once its line is made; passes and the view stay
abbrev pub TellsChapter : Desk → List ℕ → Desk → Type 0
TellsChapter old line new =
    (result : Result Chapter ChapterError) × call.EndsChapter old.pool new.pool result × (line ≡ chapter_line result)
    × (new.passes ≡ old.passes) × (new.viewed ≡ old.viewed)

-- with the worker's pass, or the word that there is none
abbrev pub IfPass : Bool → (Desk → List ℕ → Desk → Type 0) → Desk → List ℕ → Desk → Type 0
IfPass true Steps old line new = Steps old line new
IfPass false Steps old line new = Prints no_pass old line new

abbrev pub WithPass : WorkerName → (Desk → List ℕ → Desk → Type 0) → Desk → List ℕ → Desk → Type 0
WithPass worker Steps old line new = IfPass (set.contains old.passes worker) Steps old line new

abbrev pub StepOf : Settings → Command → Desk → List ℕ → Desk → Type 0
StepOf settings (command.Join slot) = TellsJoin settings slot
StepOf settings (command.Load load) = TellsLoad load
StepOf settings command.Round = TellsRound
StepOf settings command.View = TellsView
StepOf settings command.Adopt = λ old. TellsAdoption old.viewed old
StepOf settings (command.Grab worker handle function now) = WithPass worker (TellsGrab worker handle function now)
StepOf settings (command.Begin worker ticket) = WithPass worker (TellsBegin worker ticket)
StepOf settings (command.Report worker ticket end) = WithPass worker (TellsReport worker ticket end)
StepOf settings (command.Lose worker cause) = WithPass worker (TellsLoss worker cause)
StepOf settings (command.Expire worker now) = TellsExpiry worker now
StepOf settings (command.Job ticket) = λ old. Prints (job_line settings (kept_standing old.pool ticket)) old
StepOf settings (command.Order slot) = TellsOrder settings slot
StepOf settings command.Totals = λ old. Prints (totals_line (totals_of old.pool)) old
StepOf settings command.Chapter = TellsChapter
