-- What contracts see of a pool, and what its calls answer.
use Rattle.std.specs.Prelude.{◌≡◌, ℕ, ◌+◌, ◌&&◌, nat_lt, nat_le, List, [], ◌∷◌, ◌++◌, length, Option, None, Some, is_some}
use Rattle.std.specs.Prelude.{Bool, false, not, if◌then◌else◌, slice_index, count_by, IfSome}
use Rattle.pool_settings.specs.Settings.{Settings}
use Rattle.worker_state.specs.declared.slot.Slot.{Slot}
use Rattle.worker_state.specs.declared.order.Order.{Order}
use Rattle.worker_state.specs.declared.slot.WorkerName.{WorkerName}
use Rattle.worker_state.specs.declared.job.Standing.{Standing}
use Rattle.worker_state.specs.Limits.{max_generation, max_rounds, max_chapters, max_tickets}
use Rattle.worker_state.specs.Slots.{is_live, last_generation, run_count, is_running, is_reporting, is_open, is_reported, is_lost}
use Rattle.pool_core.specs.declared.event.Event.{Event}
use Rattle.pool_core.specs.declared.event.Job.{Job}
use Rattle.pool_core.specs.declared.error.JoinError.{JoinError}
use Rattle.pool_core.specs.declared.error.JoinError.TheVariants as join
use Rattle.pool_core.specs.declared.error.LoadError.{LoadError}
use Rattle.pool_core.specs.declared.error.LoadError.TheVariants as load
use Rattle.pool_core.specs.declared.answer.Totals.{Totals}
use Rattle.pool_core.specs.declared.answer.Ran.{Ran}
use Rattle.pool_core.specs.declared.error.RoundError.{RoundError}
use Rattle.pool_core.specs.declared.error.RoundError.TheVariants as round
use Rattle.plan_model.specs.declared.answer.Answer.{Answer}
use Rattle.plan_model.specs.declared.answer.Answer.TheVariants as answers
use Rattle.plan_model.specs.Planning.{Instance}
use Rattle.level_search.specs.Steady.{IsSteady}
use Rattle.gear_status.specs.Status.{Line}
use Rattle.pool_core.specs.declared.error.ChapterError.{ChapterError}
use Rattle.pool_core.specs.declared.error.ChapterError.TheVariants as chapter
use Rattle.pool_core.specs.declared.error.ViewError.{ViewError}
use Rattle.pool_core.specs.declared.error.ViewError.TheVariants as view
use Rattle.pool_core.specs.declared.error.GrabError.{GrabError}
use Rattle.pool_core.specs.declared.error.GrabError.TheVariants as grab
use Rattle.pool_core.specs.declared.error.BeginError.{BeginError}
use Rattle.pool_core.specs.declared.error.BeginError.TheVariants as begin
use Rattle.pool_core.specs.declared.error.ReportError.{ReportError}
use Rattle.pool_core.specs.declared.error.ReportError.TheVariants as report
use Rattle.pool_core.specs.declared.error.LoseError.{LoseError}
use Rattle.pool_core.specs.declared.error.LoseError.TheVariants as lose
use Rattle.pool_core.specs.declared.error.ExpireError.{ExpireError}
use Rattle.pool_core.specs.declared.error.ExpireError.TheVariants as expire
use Rattle.pool_core.specs.declared.answer.StayOrRetire.{StayOrRetire}
use Rattle.pool_core.specs.declared.answer.StayOrRetire.TheVariants.{Stay, Retire}
use Rattle.pool_core.specs.Machine.{State, slot_in, has_open, is_live_in, open_ticket, standing_in, job_at, IsPossible}
use Rattle.pool_core.specs.Machine.{after, owed, same_what, input_of, orders_from}

-- The value of a pool: what the settings say, its history, its state, how many chapters have ended, and how many of the first tickets are
-- forgotten: the state has their jobs, and the pool keeps them no longer.
pub record Book : Type 0 where
  pub settings : Settings
  pub events : List Event
  pub state : State
  pub chapters : ℕ
  pub forgotten : ℕ

-- the event happened, and nothing else
pub record IsStep (event : Event) (old new : Book) : Type 0 where
  pub possible : IsPossible old.settings event old.state
  pub state : new.state ≡ after old.settings event old.state
  pub events : new.events ≡ old.events ++ event ∷ []
  pub settings : new.settings ≡ old.settings
  pub chapters : new.chapters ≡ old.chapters
  pub forgotten : new.forgotten ≡ old.forgotten

-- the ticket was given, and its job is in such a state
abbrev pub is_some_and : (Standing → Bool) → Option Standing → Bool
is_some_and is_so None = false
is_some_and is_so (Some standing) = is_so standing

-- what the pool can tell of a ticket: a forgotten one has no standing and no job
abbrev pub unless_forgotten : {A : Type 0} → ℕ → ℕ → Option A → Option A
unless_forgotten forgotten ticket it = if nat_lt forgotten ticket then it else None

abbrev pub kept_standing : Book → ℕ → Option Standing
kept_standing book ticket = unless_forgotten book.forgotten ticket (standing_in book.state.standings ticket)

abbrev pub kept_job : Book → ℕ → Option Job
kept_job book ticket = unless_forgotten book.forgotten ticket (job_at book.state.jobs ticket)

-- the job of the first ticket that is not forgotten is there, and is reported or lost
abbrev pub has_closed_prefix : Book → Bool
has_closed_prefix book = is_some_and (λ standing. not (is_open standing)) (standing_in book.state.standings (book.forgotten + 1))

-- there is room for q events beside those owed
abbrev pub has_room : Book → ℕ → Bool
has_room book q = nat_le (length book.events + owed book.state + q) book.settings.history

-- The refusal that is due, out of memory aside: the one of the lowest number.

abbrev pub join_refusal : Book → ℕ → Option JoinError
join_refusal book slot =
    if is_live (slot_in book.state.slots slot) then Some join.AlreadyLive
    else if nat_lt (last_generation (slot_in book.state.slots slot)) max_generation
    then (if has_room book 2 then None else Some join.HistoryFull)
    else Some join.GenerationsUsed

abbrev pub grab_refusal : Book → WorkerName → Option GrabError
grab_refusal book worker =
    if is_live_in book.state worker
    then (if is_some (open_ticket book.state worker) then Some grab.Busy
    else if has_room book 3 && nat_lt (length book.state.standings) max_tickets then None
    else Some grab.HistoryFull)
    else Some grab.Gone

abbrev pub begin_refusal : Book → WorkerName → ℕ → Option BeginError
begin_refusal book worker ticket =
    if is_live_in book.state worker
    then (if has_open (open_ticket book.state worker) ticket
    then (if is_some_and is_running (standing_in book.state.standings ticket) then None else Some begin.AlreadyReporting)
    else Some begin.WrongTicket)
    else Some begin.Gone

abbrev pub report_refusal : Book → WorkerName → ℕ → Option ReportError
report_refusal book worker ticket =
    if is_live_in book.state worker
    then (if has_open (open_ticket book.state worker) ticket
    then (if is_some_and is_reporting (standing_in book.state.standings ticket) then None else Some report.NotReporting)
    else Some report.WrongTicket)
    else Some report.Gone

abbrev pub lose_refusal : Book → WorkerName → Option LoseError
lose_refusal book worker = if is_live_in book.state worker then None else Some lose.Gone

-- the job of an open ticket is late, or why not
abbrev pub late_refusal : Book → WorkerName → ℕ → Option ℕ → Option ExpireError
late_refusal book worker now None = Some expire.NoJob
late_refusal book worker now (Some ticket) =
    if is_some_and is_reporting (standing_in book.state.standings ticket) then Some expire.Reporting
    else if nat_le (slice_index book.state.grab_times worker.slot + book.settings.job_timeout_ms) now then None
    else Some expire.NotLate

abbrev pub expire_refusal : Book → WorkerName → ℕ → Option ExpireError
expire_refusal book worker now =
    if is_live_in book.state worker
    then late_refusal book worker now (open_ticket book.state worker)
    else Some expire.Gone

-- what a worker is answered after a report
abbrev pub stay_or_retire : Book → WorkerName → StayOrRetire
stay_or_retire book worker =
    if nat_lt (run_count (slot_in book.state.slots worker.slot) + 1) book.settings.max_runs then Stay else Retire

abbrev pub load_refusal : Book → Option LoadError
load_refusal book = if has_room book 1 then None else Some load.HistoryFull

abbrev pub totals_of : Book → Totals
totals_of book =
    record {
      grabbed = length book.state.standings;
      running = count_by is_open book.state.standings;
      reported = count_by is_reported book.state.standings;
      lost = count_by is_lost book.state.standings;
      rounds = book.state.rounds;
      events = length book.events;
    }

-- 1 if a live worker got another function
abbrev pub one_moved : Slot → Order → Order → ℕ
one_moved slot old new = if is_live slot && not (same_what old.what new.what) then 1 else 0

-- how many live workers got another function
abbrev pub moved_in : List Slot → List Order → List Order → ℕ
moved_in [] old new = 0
moved_in (slot ∷ slots) [] new = 0
moved_in (slot ∷ slots) (o ∷ old) [] = 0
moved_in (slot ∷ slots) (o ∷ old) (n ∷ new) =
    one_moved slot o n + moved_in slots old new

-- a round is admitted
abbrev pub has_round : Book → Bool
has_round book = has_room book 1 && nat_lt book.state.rounds max_rounds

abbrev pub round_refusal : Book → Option RoundError
round_refusal book =
    if is_some book.state.load
    then (if has_round book then None else Some round.HistoryFull)
    else Some round.NoLoad

-- the input now
abbrev pub IsInputOf : Book → Instance → Type 0
IsInputOf book input = (load : List Line) × (book.state.load ≡ Some load) × (input ≡ input_of book.settings book.state load)

-- what a round with this answer reports
abbrev pub ran_of : Answer → State → Ran
ran_of (answers.Planned plan backlog short) state =
    record {
      number = state.rounds + 1;
      backlog = Some backlog;
      moved = moved_in state.slots state.orders (orders_from 0 plan (state.rounds + 1) state.slots state.orders);
    }
ran_of (answers.NoPlan short) state = record { number = state.rounds + 1; backlog = None; moved = 0 }

abbrev pub view_refusal : Book → Option ViewError
view_refusal book = if is_some book.state.load then None else Some view.NoLoad

-- The answer keeps the previous plan, cut to what is live and permitted now, if that plan is best and full.
abbrev pub KeepsPlan : Book → Answer → Type 0
KeepsPlan book answer =
    IfSome book.state.load (λ load. IfSome book.state.previous (λ plan. IsSteady (input_of book.settings book.state load) plan answer))

abbrev pub chapter_refusal : Book → Option ChapterError
chapter_refusal book = if nat_lt book.chapters max_chapters then None else Some chapter.ChaptersUsed

-- the next chapter begins where the last one ended
abbrev pub next_chapter : Book → Book
next_chapter book = record book { events = []; chapters = book.chapters + 1 }

-- one ticket more is forgotten
abbrev pub forget_first : Book → Book
forget_first book = record book { forgotten = book.forgotten + 1 }
