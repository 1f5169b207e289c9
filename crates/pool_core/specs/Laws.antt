-- What holds of every history.
use Rattle.gear_status.specs.Status.{Line}
use Rattle.std.specs.Prelude.{◌≡◌, ℕ, ◌+◌, ◌-◌, ◌<◌, ◌≤◌, ◌==◌, List, [], ◌∷◌, ◌++◌, length, Option, None, Some, ◌⊎◌, Bool, true}
use Rattle.std.specs.Prelude.{false, IsTrue, if◌then◌else◌, slice_get, slice_index_or, count_by}
use Rattle.std.specs.List.{filter_map, flat_map}
use Rattle.pool_settings.specs.Settings.{Settings, AreSettings}
use Rattle.plan_model.specs.declared.answer.Answer.{Answer}
use Rattle.plan_model.specs.declared.answer.Answer.TheVariants as answers
use Rattle.plan_model.specs.Planning.{assigned}
use Rattle.plan_model.specs.Shown.{Shown, Best}
use Rattle.worker_state.specs.declared.job.EndKind.{EndKind}
use Rattle.worker_state.specs.declared.job.Standing.{Standing}
use Rattle.worker_state.specs.declared.job.Standing.TheVariants as standing
use Rattle.worker_state.specs.declared.slot.Slot.{Slot}
use Rattle.worker_state.specs.declared.slot.WorkerName.{WorkerName}
use Rattle.worker_state.specs.declared.order.Order.{Order}
use Rattle.worker_state.specs.declared.cause.Cause.{Cause}
use Rattle.worker_state.specs.Slots.{is_live, last_generation, is_open, is_reported, is_lost}
use Rattle.worker_state.specs.Orders.{no_order}
use Rattle.pool_core.specs.declared.event.Job.{Job}
use Rattle.pool_core.specs.declared.event.Event.{Event}
use Rattle.pool_core.specs.declared.event.Event.TheVariants as event
use Rattle.pool_core.specs.Kept.{IsBase, IsChapter, IsSoundState}
use Rattle.pool_core.specs.Machine.{State, first, slot_in, standing_in, job_at, is_live_in, open_ticket, what_of, input_of}
use Rattle.pool_core.specs.Machine.{after_round, replay, IsHistory, IsReplay}
use Rattle.pool_core.specs.declared.event.Forgotten.{Forgotten}
use Rattle.pool_core.specs.Calls.{Forgets}
use Rattle.pool_core.specs.Book.{Book, IsStep, next_chapter, totals_of}

-- the generation of the next worker of a slot
abbrev pub next_generation : State → ℕ → ℕ
next_generation state slot = last_generation (slot_in state.slots slot) + 1

-- the order of a slot; a slot that is not there has none
abbrev pub order_at : List Order → ℕ → Order
order_at orders slot = slice_index_or orders slot no_order

-- The jobs have only grown, one that is reported or lost stays as it was, and no slot's last generation is smaller.
pub record ExtendsState (old new : State) : Type 0 where
  pub jobs : (more : List Job) × (new.jobs ≡ old.jobs ++ more)
  pub closed : (k : ℕ) (x : Standing) → standing_in old.standings k ≡ Some x → is_open x ≡ false → standing_in new.standings k ≡ Some x
  pub generations : (s : ℕ) → last_generation (slot_in old.slots s) ≤ last_generation (slot_in new.slots s)

abbrev pub is_grab : Event → Bool
is_grab (event.Join slot) = false
is_grab (event.Load load) = false
is_grab (event.Round answer) = false
is_grab (event.Grab worker handle function now) = true
is_grab (event.Begin worker ticket) = false
is_grab (event.Reported worker ticket end) = false
is_grab (event.Lost worker cause) = false

abbrev pub is_report : Event → Bool
is_report (event.Join slot) = false
is_report (event.Load load) = false
is_report (event.Round answer) = false
is_report (event.Grab worker handle function now) = false
is_report (event.Begin worker ticket) = false
is_report (event.Reported worker ticket end) = true
is_report (event.Lost worker cause) = false

-- the job that an event grabs, and the worker that grabs it
abbrev pub job_of : Event → Option Job
job_of (event.Join slot) = None
job_of (event.Load load) = None
job_of (event.Round answer) = None
job_of (event.Grab worker handle function now) = Some (record { handle = handle; function = function })
job_of (event.Begin worker ticket) = None
job_of (event.Reported worker ticket end) = None
job_of (event.Lost worker cause) = None

abbrev pub grabber_of : Event → Option WorkerName
grabber_of (event.Join slot) = None
grabber_of (event.Load load) = None
grabber_of (event.Round answer) = None
grabber_of (event.Grab worker handle function now) = Some worker
grabber_of (event.Begin worker ticket) = None
grabber_of (event.Reported worker ticket end) = None
grabber_of (event.Lost worker cause) = None

-- the jobs that events grab, and the workers that grab them, in the order of the tickets
abbrev pub grabbed_jobs : List Event → List Job
grabbed_jobs events = filter_map job_of events

abbrev pub grabbers : List Event → List WorkerName
grabbers events = filter_map grabber_of events

-- the event reports the job of this ticket
abbrev pub is_report_of : ℕ → Event → Bool
is_report_of k (event.Join slot) = false
is_report_of k (event.Load load) = false
is_report_of k (event.Round answer) = false
is_report_of k (event.Grab worker handle function now) = false
is_report_of k (event.Begin worker ticket) = false
is_report_of k (event.Reported worker ticket end) = ticket == k
is_report_of k (event.Lost worker cause) = false

-- 1 for a job that is reported, and 0 for every other
abbrev pub times_reported : Option Standing → ℕ
times_reported None = 0
times_reported (Some standing) = if is_reported standing then 1 else 0

-- Later states extend earlier ones.
abbrev pub HistoriesExtend : Type 0
HistoriesExtend =
    (settings : Settings) → AreSettings settings → (earlier later : List Event) → IsHistory settings (first settings) (earlier ++ later)
    → ExtendsState (replay settings (first settings) earlier) (replay settings (first settings) (earlier ++ later))

-- Each job is running, reported or lost, and each was grabbed by one event and reported by at most one.
pub record AreJobsCounted (events : List Event) (state : State) : Type 0 where
  pub sum : length state.standings
      ≡ count_by is_open state.standings + count_by is_reported state.standings + count_by is_lost state.standings
  pub grabs : length state.standings ≡ count_by is_grab events
  pub reports : count_by is_reported state.standings ≡ count_by is_report events

abbrev pub HistoriesCount : Type 0
HistoriesCount =
    (settings : Settings) → AreSettings settings → (events : List Event) → IsHistory settings (first settings) events
    → AreJobsCounted events (replay settings (first settings) events)

-- The same from any sound base: the base's numbers, and those of the chapter's events.
pub record AreJobsCountedFrom (base : State) (events : List Event) (state : State) : Type 0 where
  pub sum : length state.standings
      ≡ count_by is_open state.standings + count_by is_reported state.standings + count_by is_lost state.standings
  pub grabs : length state.standings ≡ length base.standings + count_by is_grab events
  pub reports : count_by is_reported state.standings ≡ count_by is_reported base.standings + count_by is_report events

abbrev pub ChaptersCount : Type 0
ChaptersCount =
    (settings : Settings) → AreSettings settings → (base : State) → IsSoundState settings base → (events : List Event)
    → IsHistory settings base events
    → AreJobsCountedFrom base events (replay settings base events)

-- Every state that a history leads to is sound.
abbrev pub HistoriesAreSound : Type 0
HistoriesAreSound =
    (settings : Settings) → AreSettings settings → (events : List Event) → IsHistory settings (first settings) events
    → IsSoundState settings (replay settings (first settings) events)

-- The jobs are those that were grabbed; a job that is reported was so by one event, and every other by none.
pub record IsBooked (events : List Event) (state : State) : Type 0 where
  pub jobs : state.jobs ≡ grabbed_jobs events
  pub reports : (k : ℕ) → count_by (is_report_of k) events ≡ times_reported (standing_in state.standings k)

abbrev pub JobsAreBookedOnce : Type 0
JobsAreBookedOnce =
    (settings : Settings) → AreSettings settings → (events : List Event) → IsHistory settings (first settings) events
    → IsBooked events (replay settings (first settings) events)

-- Each lost job is lost with the worker that grabbed it.
abbrev pub JobsAreLostWithTheirWorkers : Type 0
JobsAreLostWithTheirWorkers =
    (settings : Settings) → AreSettings settings → (events : List Event) → IsHistory settings (first settings) events
    → (k : ℕ) (worker : WorkerName) (cause : Cause)
    → standing_in (replay settings (first settings) events).standings k ≡ Some (standing.Lost worker cause)
    → slice_get (grabbers events) (k - 1) ≡ Some worker

-- the event is one of these
abbrev pub Happened : Event → List Event → Type 0
Happened e events = (earlier : List Event) × (later : List Event) × (events ≡ earlier ++ e ∷ later)

-- the worker that grabbed the job of this ticket has reported it, with this end
abbrev pub IsReportedByGrabber : List Event → ℕ → EndKind → Type 0
IsReportedByGrabber events k end =
    (worker : WorkerName) × (slice_get (grabbers events) (k - 1) ≡ Some worker)
    × Happened (event.Reported worker k end) events

-- the live worker that has the job of this ticket is the one that grabbed it
abbrev pub IsHeldByGrabber : List Event → State → ℕ → Type 0
IsHeldByGrabber events state k =
    (worker : WorkerName) × (slice_get (grabbers events) (k - 1) ≡ Some worker)
    × IsTrue (is_live_in state worker) × (open_ticket state worker ≡ Some k)

-- What a history says of a job, by its state: it goes on with the worker that grabbed it; it was reported by one event, of that
-- worker and with that end; or it is lost with that worker by an event of that cause. But for the second no event reported it.
abbrev pub IsAccountedFor : List Event → State → ℕ → Standing → Type 0
IsAccountedFor events state k standing.Running = IsHeldByGrabber events state k × (count_by (is_report_of k) events ≡ 0)
IsAccountedFor events state k standing.Reporting = IsHeldByGrabber events state k × (count_by (is_report_of k) events ≡ 0)
IsAccountedFor events state k (standing.Reported end) =
    IsReportedByGrabber events k end × (count_by (is_report_of k) events ≡ 1)
IsAccountedFor events state k (standing.Lost worker cause) =
    (slice_get (grabbers events) (k - 1) ≡ Some worker) × Happened (event.Lost worker cause) events
    × (count_by (is_report_of k) events ≡ 0)

-- Each grabbed job is running, reported once, or lost with its named worker.
abbrev pub JobsAreAccountedFor : Type 0
JobsAreAccountedFor =
    (settings : Settings) → AreSettings settings → (events : List Event) → IsHistory settings (first settings) events
    → (k : ℕ) → 0 < k → k ≤ length (grabbed_jobs events)
    → (how : Standing) × (standing_in (replay settings (first settings) events).standings k ≡ Some how)
    × IsAccountedFor events (replay settings (first settings) events) k how

-- Of two workers that join a slot the later one has the greater generation.
abbrev pub WorkersAreNew : Type 0
WorkersAreNew =
    (settings : Settings) → AreSettings settings → (earlier between later : List Event) (slot : ℕ)
    → IsHistory settings (first settings) (earlier ++ event.Join slot ∷ (between ++ event.Join slot ∷ later))
    → next_generation (replay settings (first settings) earlier) slot
    < next_generation (replay settings (first settings) (earlier ++ event.Join slot ∷ between)) slot

-- After a round with a plan the order of each live worker is its function by the plan, for its generation. If that was its order
-- before, the order stays, its number too; if not, it has the number of this round. The order of an empty slot is as it was.
pub record FollowsPlan (plan : List (ℕ × Option ℕ)) (round : ℕ) (slots : List Slot) (old new : List Order) : Type 0 where
  pub live : (s : ℕ) → IsTrue (is_live (slot_in slots s))
      → ((order_at new s).generation ≡ last_generation (slot_in slots s)) × ((order_at new s).what ≡ what_of (assigned plan s))
  pub stays : (s : ℕ) → IsTrue (is_live (slot_in slots s)) → (order_at old s).generation ≡ last_generation (slot_in slots s)
      → (order_at old s).what ≡ what_of (assigned plan s) → order_at new s ≡ order_at old s
  pub numbered : (s : ℕ) → IsTrue (is_live (slot_in slots s)) → (order_at new s ≡ order_at old s) ⊎ ((order_at new s).round ≡ round)
  pub empty : (s : ℕ) → is_live (slot_in slots s) ≡ false → order_at new s ≡ order_at old s

abbrev pub RoundsOrder : Type 0
RoundsOrder =
    (settings : Settings) (state : State) → IsSoundState settings state
    → (plan : List (ℕ × Option ℕ)) (backlog : ℕ) (short : Option (List ℕ))
    → FollowsPlan plan (state.rounds + 1) state.slots state.orders (after_round (answers.Planned plan backlog short) state).orders

-- Each round of a history holds an answer that is shown for the input of the state before it, and so is best of all plans.
abbrev pub RoundsAreShown : Type 0
RoundsAreShown =
    (settings : Settings) (base : State) (earlier later : List Event) (answer : Answer)
    → IsHistory settings base (earlier ++ event.Round answer ∷ later)
    → (load : List Line) × ((replay settings base earlier).load ≡ Some load)
    × Shown (input_of settings (replay settings base earlier) load) answer
    × Best (input_of settings (replay settings base earlier) load) answer

-- Joined lists of events replay one after the other.
abbrev pub HistoriesJoin : Type 0
HistoriesJoin =
    (settings : Settings) (base : State) (earlier later : List Event)
    → IsHistory settings base earlier → IsHistory settings (replay settings base earlier) later
    → IsHistory settings base (earlier ++ later)
    × (replay settings base (earlier ++ later) ≡ replay settings (replay settings base earlier) later)

-- A history that is cut anywhere, as at the end of a chapter, is two: the first leads to a base, and the second goes on from it.
abbrev pub HistoriesCut : Type 0
HistoriesCut =
    (settings : Settings) (base : State) (earlier later : List Event) → IsHistory settings base (earlier ++ later)
    → IsHistory settings base earlier × IsHistory settings (replay settings base earlier) later
    × (replay settings base (earlier ++ later) ≡ replay settings (replay settings base earlier) later)

-- The base of each chapter of a pool is sound.
abbrev pub BasesAreSound : Type 0
BasesAreSound = (settings : Settings) → AreSettings settings → (chapters : ℕ) (base : State) → IsBase settings chapters base
    → IsSoundState settings base

abbrev pub one_if : Bool → ℕ
one_if holds = if holds then 1 else 0

-- Each event that may come next counts as one grab, as one report, or as neither.
abbrev pub EventsCount : Book → Type 0
EventsCount book =
    (e : Event) (new : Book) → IsStep e book new
    → ((totals_of new).grabbed ≡ (totals_of book).grabbed + one_if (is_grab e))
    × ((totals_of new).reported ≡ (totals_of book).reported + one_if (is_report e))

-- One call: nothing, or one event.
abbrev pub Called : Book → Book → Type 0
Called old new = (new ≡ old) ⊎ ((e : Event) × IsStep e old new)

-- what a call leaves: the pool, the events that it hands out, and the jobs
pub record Outcome : Type 0 where
  pub book : Book
  pub handed_out : List Event
  pub forgotten : List Forgotten

-- One call: nothing or one event, and nothing is handed out; or the end of a chapter, which hands out all of its events; or a job that
-- is handed out and forgotten.
abbrev pub Leaves : Book → Outcome → Type 0
Leaves old new =
    (Called old new.book × (new.handed_out ≡ []) × (new.forgotten ≡ []))
    ⊎ ((new.book ≡ next_chapter old) × (new.handed_out ≡ old.events) × (new.forgotten ≡ []))
    ⊎ ((f : Forgotten) × Forgets old new.book (Some f) × (new.handed_out ≡ []) × (new.forgotten ≡ f ∷ []))

-- any list of calls
abbrev pub AllCalled : Book → List Outcome → Type 0
AllCalled book [] = Unit {0}
AllCalled book (next ∷ rest) = Leaves book next × AllCalled next.book rest

abbrev pub last_of : Book → List Outcome → Book
last_of book [] = book
last_of book (next ∷ rest) = last_of next.book rest

-- all events that the calls hand out, in order
abbrev pub all_handed_out : List Outcome → List Event
all_handed_out outcomes = flat_map (λ outcome. outcome.handed_out) outcomes

-- all jobs that the calls hand out, in order
abbrev pub all_forgotten : List Outcome → List Forgotten
all_forgotten outcomes = flat_map (λ outcome. outcome.forgotten) outcomes

-- The jobs are those of the tickets after n, one after the other, and each is what the state says of its ticket: reported or lost.
abbrev pub AreNext : ℕ → List Forgotten → State → Type 0
AreNext n [] state = Unit {0}
AreNext n (f ∷ fs) state =
    (f.ticket ≡ n + 1) × (job_at state.jobs f.ticket ≡ Some f.job) × (standing_in state.standings f.ticket ≡ Some f.standing)
    × (is_open f.standing ≡ false) × AreNext (n + 1) fs state

-- After any list of calls the jobs that were handed out are those of the tickets from the first that was not forgotten up to the last
-- that is, each ticket once, and each is as the state of now has it: what was handed out stays true.
abbrev pub JobsAreHandedOutOnce : Type 0
JobsAreHandedOutOnce =
    (book : Book) (calls : List Outcome) → AreSettings book.settings → IsChapter book.settings book.chapters book.events book.state
    → AllCalled book calls
    → AreNext book.forgotten (all_forgotten calls) (last_of book calls).state
    × ((last_of book calls).forgotten ≡ book.forgotten + length (all_forgotten calls))

-- the events of all these chapters, in order
abbrev pub joined : List (List Event) → List Event
joined chapters = flat_map (λ chapter. chapter) chapters

-- the events are those of so many chapters, in order
abbrev pub AreOfChapters : ℕ → List Event → Type 0
AreOfChapters count events = (chapters : List (List Event)) × (length chapters ≡ count) × (events ≡ joined chapters)

-- After any list of calls the state is the replay of the events that were handed out and of those that are there, from the base
-- that it was before.
abbrev pub CallsReplay : Type 0
CallsReplay =
    (base : State) (book : Book) (calls : List Outcome) → IsReplay book.settings base book.events book.state → AllCalled book calls
    → IsReplay (last_of book calls).settings base (all_handed_out calls ++ (last_of book calls).events) (last_of book calls).state
