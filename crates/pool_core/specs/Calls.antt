-- What each call of a pool does: one event, with what the call reports of it, or the refusal that is due.
use Rattle.std.specs.Prelude.{◌≡◌, ℕ, ◌+◌, List, Option, Result, Ok, Err, true, false, None, Some, IfOk, OnOk, OnErr}
use Rattle.std.specs.Prelude.{IfSome, OnSome, IfNone, is_some}
use Rattle.std.specs.Result.{result_err}
use Rattle.refusal.specs.Label.{due}
use Rattle.gear_status.specs.Status.{Line}
use Rattle.plan_model.specs.Certificate.{Certificate}
use Rattle.plan_model.specs.Planning.{Instance}
use Rattle.plan_model.specs.declared.answer.Answer.{Answer}
use Rattle.worker_state.specs.Slots.{last_generation, is_open}
use Rattle.worker_state.specs.declared.slot.WorkerName.{WorkerName}
use Rattle.worker_state.specs.declared.job.EndKind.{EndKind}
use Rattle.worker_state.specs.declared.cause.Cause.{Cause}
use Rattle.worker_state.specs.declared.cause.Cause.TheVariants.{Late}
use Rattle.pool_core.specs.declared.event.Event.{Event}
use Rattle.pool_core.specs.declared.event.Event.TheVariants as event
use Rattle.pool_core.specs.declared.event.Chapter.{Chapter}
use Rattle.pool_core.specs.declared.event.Forgotten.{Forgotten}
use Rattle.pool_core.specs.declared.answer.StayOrRetire.{StayOrRetire}
use Rattle.pool_core.specs.declared.answer.Ran.{Ran}
use Rattle.pool_core.specs.declared.error.JoinError.{JoinError}
use Rattle.pool_core.specs.declared.error.LoadError.{LoadError}
use Rattle.pool_core.specs.declared.error.RoundError.{RoundError}
use Rattle.pool_core.specs.declared.error.ViewError.{ViewError}
use Rattle.pool_core.specs.declared.error.AdoptError.{AdoptError}
use Rattle.pool_core.specs.declared.error.AdoptError.TheVariants as adopt
use Rattle.pool_core.specs.declared.error.GrabError.{GrabError}
use Rattle.pool_core.specs.declared.error.BeginError.{BeginError}
use Rattle.pool_core.specs.declared.error.ReportError.{ReportError}
use Rattle.pool_core.specs.declared.error.LoseError.{LoseError}
use Rattle.pool_core.specs.declared.error.ExpireError.{ExpireError}
use Rattle.pool_core.specs.declared.error.ChapterError.{ChapterError}
use Rattle.pool_core.specs.CallRefusals.{is_join_memory, is_load_memory, is_round_memory, is_view_memory, is_grab_memory, is_chapter_memory}
use Rattle.pool_core.specs.Machine.{slot_in, next_ticket, standing_in, job_at}
use Rattle.pool_core.specs.Kept.{IsChapter}
use Rattle.pool_core.specs.Book.{Book, IsStep, IsInputOf, KeepsPlan, has_round, join_refusal, load_refusal, round_refusal, view_refusal}
use Rattle.pool_core.specs.Book.{grab_refusal, begin_refusal, report_refusal, lose_refusal, expire_refusal, chapter_refusal, stay_or_retire}
use Rattle.pool_core.specs.Book.{ran_of, next_chapter, has_closed_prefix, forget_first}

-- The call is this event, or it is refused and changes nothing.
abbrev pub Makes : {A E : Type 0} → Event → Book → Book → Result A E → Type 0
Makes event old new result = OnOk result (IsStep event old new) × OnErr result (new ≡ old)

-- the worker that comes next in the slot
abbrev pub next_worker : Book → ℕ → WorkerName
next_worker book slot = record { slot = slot; generation = last_generation (slot_in book.state.slots slot) + 1 }

abbrev pub Joins : ℕ → Book → Book → Result WorkerName JoinError → Type 0
Joins slot old new result =
    Makes (event.Join slot) old new result
    × IfOk result (λ pass. pass ≡ next_worker old slot)
    × (due is_join_memory result ≡ join_refusal old slot)

abbrev pub Loads : List Line → Book → Book → Result (Unit {0}) LoadError → Type 0
Loads load old new result =
    Makes (event.Load load) old new result
    × (due is_load_memory result ≡ load_refusal old)

-- A round with an answer, which keeps the plan before if that is best and full.
abbrev pub IsRound : Book → Book → Ran → Type 0
IsRound old new ran =
    (answer : Answer) × IsStep (event.Round answer) old new × KeepsPlan old answer × (ran ≡ ran_of answer old.state)

abbrev pub Rounds : Book → Book → Result Ran RoundError → Type 0
Rounds old new result =
    IfOk result (IsRound old new)
    × OnErr result (new ≡ old)
    × (due is_round_memory result ≡ round_refusal old)

-- A view changes nothing.
abbrev pub Views : Book → Result (Instance × Option (List (ℕ × Option ℕ))) ViewError → Type 0
Views book result =
    IfOk result (λ seen. IsInputOf book seen.0 × (seen.1 ≡ book.state.previous))
    × (due is_view_memory result ≡ view_refusal book)

-- what an adoption says of the input that was offered
abbrev pub AnswersOffer : {A : Type 0} → Book → Instance → Result A AdoptError → Type 0
AnswersOffer book input (Ok x) = IsInputOf book input × (has_round book ≡ true)
AnswersOffer book input (Err adopt.NoLoad) = book.state.load ≡ None
AnswersOffer book input (Err adopt.Stale) = (is_some book.state.load ≡ true) × (IsInputOf book input → ⊥)
AnswersOffer book input (Err adopt.HistoryFull) = IsInputOf book input × (has_round book ≡ false)
AnswersOffer book input (Err adopt.Memory) = IsInputOf book input × (has_round book ≡ true)

abbrev pub Adopts : Certificate → Book → Book → Result Ran AdoptError → Type 0
Adopts certified old new result =
    Makes (event.Round certified.answer) old new result
    × IfOk result (λ ran. ran ≡ ran_of certified.answer old.state)
    × AnswersOffer old certified.input result

abbrev pub Grabs : WorkerName → List ℕ → List ℕ → ℕ → Book → Book → Result ℕ GrabError → Type 0
Grabs worker handle function now old new result =
    Makes (event.Grab worker handle function now) old new result
    × IfOk result (λ ticket. ticket ≡ next_ticket old.state)
    × (due is_grab_memory result ≡ grab_refusal old worker)

abbrev pub Begins : WorkerName → ℕ → Book → Book → Result (Unit {0}) BeginError → Type 0
Begins worker ticket old new result =
    Makes (event.Begin worker ticket) old new result
    × (result_err result ≡ begin_refusal old worker ticket)

abbrev pub Reports : WorkerName → ℕ → EndKind → Book → Book → Result StayOrRetire ReportError → Type 0
Reports worker ticket end old new result =
    Makes (event.Reported worker ticket end) old new result
    × IfOk result (λ told. told ≡ stay_or_retire old worker)
    × (result_err result ≡ report_refusal old worker ticket)

abbrev pub Loses : WorkerName → Cause → Book → Book → Result (Unit {0}) LoseError → Type 0
Loses worker cause old new result =
    Makes (event.Lost worker cause) old new result
    × (result_err result ≡ lose_refusal old worker)

abbrev pub Expires : WorkerName → ℕ → Book → Book → Result (Unit {0}) ExpireError → Type 0
Expires worker now old new result =
    Makes (event.Lost worker Late) old new result
    × (result_err result ≡ expire_refusal old worker now)

-- What is handed out is the job of the first ticket that was not forgotten, if it is reported or lost; that ticket is forgotten from then
-- on. If the job goes on, or no such ticket was given, nothing is handed out. This is no event.
abbrev pub Forgets : Book → Book → Option Forgotten → Type 0
Forgets old new result =
    IfSome result (λ f. (f.ticket ≡ old.forgotten + 1) × (job_at old.state.jobs f.ticket ≡ Some f.job))
    × IfSome result (λ f. (standing_in old.state.standings f.ticket ≡ Some f.standing) × (is_open f.standing ≡ false))
    × (is_some result ≡ has_closed_prefix old)
    × OnSome result (new ≡ forget_first old)
    × IfNone result (new ≡ old)

-- The chapter has all events so far and the next number, and the state goes on. This is no event.
abbrev pub EndsChapter : Book → Book → Result Chapter ChapterError → Type 0
EndsChapter old new result =
    IfOk result (λ chapter. (chapter.events.items ≡ old.events) × (chapter.number ≡ old.chapters + 1))
    × IfOk result (λ chapter. IsChapter old.settings old.chapters chapter.events.items new.state)
    × OnOk result (new ≡ next_chapter old)
    × OnErr result (new ≡ old)
    × (due is_chapter_memory result ≡ chapter_refusal old)
