-- What the steps of an attempt look at in the pool.
use Rattle.std.specs.Prelude.{◌≡◌, ℕ, ◌*◌, ◌<◌, Bool, List, length, Option, None, Some, Result, IfSome}
use Rattle.byte_io.specs.Sides.{Input, Met, Meets}
use Rattle.gear_status.specs.Status.{Line}
use Rattle.gear_status.specs.Stream.{AnswersStatus}
use Rattle.gear_status.specs.declared.error.StatusError.{StatusError}
use Rattle.plan_model.specs.Certificate.{Certificate}
use Rattle.plan_model.specs.Planning.{Instance}
use Rattle.level_search.specs.Steady.{IsSteady}
use Rattle.worker_state.specs.Slots.{last_generation}
use Rattle.worker_state.specs.declared.slot.WorkerName.{WorkerName}
use Rattle.pool_settings.specs.Planning.{instance_of}
use Rattle.pool_settings.specs.Settings.{Settings}
use Rattle.relaxed_plan.specs.Relaxed.{let_off_of}
use Rattle.pool_core.specs.Machine.{State, slot_in}
use Rattle.pool_core.specs.Book.{Book, IsInputOf, expire_refusal, grab_refusal, ran_of}
use Rattle.pool_core.specs.Calls.{EndsChapter, Grabs}
use Rattle.pool_core.specs.declared.error.ChapterError.{ChapterError}
use Rattle.pool_core.specs.declared.error.GrabError.{GrabError}
use Rattle.pool_core.specs.declared.error.GrabError.TheVariants as grab
use Rattle.pool_core.specs.declared.event.Chapter.{Chapter}
use Rattle.pool_supervisor.specs.Lines.{attempt_of}
use Rattle.pool_supervisor.specs.Reached.{IsReached}
use Rattle.pool_supervisor.specs.declared.attempt.Attempt.{Attempt}
use Rattle.pool_supervisor.specs.declared.attempts.Until.{Until}
use Rattle.pool_supervisor.specs.declared.attempts.Until.TheVariants.{Rounds, Ended}

-- An attempt ends the chapter: of a run of so many attempts if more than half of what the history may have is used, and of one until its
-- watch ends it if there is any event.
abbrev pub IsChapterDue : Until → Book → Type 0
IsChapterDue (Rounds rounds) book = book.settings.history < 2 * length book.events
IsChapterDue Ended book = 0 < length book.events

-- A job ends the chapter: in a run until its watch ends it, if the history has events and no room for a job of the worker.
abbrev pub IsCutDue : Until → WorkerName → Book → Type 0
IsCutDue until worker book = (until ≡ Ended) × (grab_refusal book worker ≡ Some grab.HistoryFull) × (0 < length book.events)

-- The worker's job was booked or refused: at once if no cut of the history was due, and else after the chapter was ended, or the pool
-- refused to end it.
abbrev pub GrabsOrCuts : Until → WorkerName → List ℕ → List ℕ → ℕ → Book → Book → Result ℕ GrabError
    → Option (Result Chapter ChapterError) → Type 0
GrabsOrCuts until worker handle function now old new answer None =
    (IsCutDue until worker old → ⊥) × Grabs worker handle function now old new answer
GrabsOrCuts until worker handle function now old new answer (Some cut) =
    (between : Book) × IsCutDue until worker old × EndsChapter old between cut × Grabs worker handle function now between new answer

-- the worker in the slot, or the last one that was
abbrev pub worker_of : State → ℕ → WorkerName
worker_of state slot = record { slot = slot; generation = last_generation (slot_in state.slots slot) }

-- the slot's worker has a job, which it does not report yet, and that job is late by this clock
abbrev pub IsLate : Book → ℕ → ℕ → Type 0
IsLate book now slot = expire_refusal book (worker_of book.state slot) now ≡ None

-- how many jobs are forgotten in one hold of the lock, at the most
abbrev pub most_forgotten : ℕ
most_forgotten = 1024

-- The input is one of these settings.
abbrev pub IsMadeOf : Settings → Instance → Type 0
IsMadeOf settings input = (live : List Bool) × (waiting : List ℕ) × (input ≡ instance_of settings live waiting)

-- The input is one of these settings, but the least numbers of these functions are 0.
abbrev pub IsLetOffOf : Settings → List ℕ → Instance → Type 0
IsLetOffOf settings let_off input =
    (live : List Bool) × (waiting : List ℕ) × (input ≡ let_off_of (instance_of settings live waiting) let_off)

-- What was viewed of a pool of these settings, in a state that a history leads to: its input, and the plan before it.
abbrev pub IsViewOf : Settings → Instance × Option (List (ℕ × Option ℕ)) → Type 0
IsViewOf settings viewed =
    (book : Book) × (book.settings ≡ settings) × IsReached settings book.state × IsInputOf book viewed.0 × (viewed.1 ≡ book.state.previous)

-- An answer for the input that was viewed, which keeps the plan before it if that is best and full.
abbrev pub AnswersView : Instance × Option (List (ℕ × Option ℕ)) → Certificate → Type 0
AnswersView viewed certified =
    (certified.input ≡ viewed.0) × IfSome viewed.1 (λ plan. IsSteady viewed.0 plan certified.answer)

-- The attempt came to a round with an answer to what was viewed of a pool of these settings.
abbrev pub AnswersPool : Settings → Attempt → Type 0
AnswersPool settings line =
    (viewed : Instance × Option (List (ℕ × Option ℕ))) × (certified : Certificate) × (state : State) × IsViewOf settings viewed
    × AnswersView viewed certified × (line ≡ attempt_of (ran_of certified.answer state))

-- What was read of the link means this load, or is why there is none.
abbrev pub Reads : Result (List Line) StatusError → Input → Input → Type 0
Reads answer old new = (met : Met) × Meets old met new × AnswersStatus met answer
