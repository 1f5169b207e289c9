-- How a call moves the totals, and what they count, by the pool's own laws.
use Rattle.std.proofs.Common.{◌≡◌, ℕ, zero, suc, ◌+◌, List, [], ◌∷◌, ◌++◌, length, false, refl, sym, ap, subst, ◌∙◌, arith, append_assoc, length-append}
use Rattle.std.specs.Prelude.{Result, Ok, Err, OnOk, OnErr, Option, Some, None, OnSome, IfNone, count_by}
use Rattle.std.proofs.lemmas.List.{append-nil}
use Rattle.pool_settings.specs.Settings.{Settings, AreSettings}
use Rattle.pool_settings.specs.Slots.{slots as slot_count}
use Rattle.worker_state.specs.Slots.{is_open, is_reported, is_lost}
use Rattle.pool_core.specs.declared.event.Event.{Event}
use Rattle.pool_core.specs.declared.event.Event.TheVariants.{Round}
use Rattle.pool_core.specs.declared.event.Event.TheVariants as event
use Rattle.pool_core.specs.declared.answer.Ran.{Ran}
use Rattle.plan_model.specs.declared.answer.Answer.{Answer}
use Rattle.plan_model.specs.declared.answer.Answer.TheVariants as answers
use Rattle.pool_core.specs.Machine.{State, first, replay, after, after_round, IsHistory, IsPossible, IsReplay}
use Rattle.pool_core.specs.Laws.{AreOfChapters, joined, is_grab, is_report, one_if, EventsCount, HistoriesCount, HistoriesJoin, HistoriesAreSound, RoundsAreShown, JobsAreAccountedFor}
use Rattle.pool_core.specs.Kept.{IsChapter, IsSoundState}
use Rattle.pool_core.specs.Book.{Book, IsStep, totals_of, ran_of, next_chapter, forget_first}
use Rattle.pool_supervisor.specs.Counted.{CountsItsEvents, HasRounds, CameTo, round_at, rounds_of}
use Rattle.pool_supervisor.specs.Reached.{IsReached, IsRoundOf}

-- a call that is no grab and no report leaves both numbers, and no call changes the settings
pub same_totals : {A E : Type 0} (e : Event) (old new : Book) (result : Result A E) → EventsCount old → is_grab e ≡ false → is_report e ≡ false → OnOk result (IsStep e old new) → OnErr result (new ≡ old)
    → ((totals_of new).grabbed ≡ (totals_of old).grabbed) × ((totals_of new).reported ≡ (totals_of old).reported) × (new.settings ≡ old.settings)
same_totals e old new (Ok x) counts no_grab no_report step same =
    let t = counts e new step in (
      omega (arith, t.0, ap one_if no_grab),
      omega (arith, t.1, ap one_if no_report),
      step.settings,
    )
same_totals e old new (Err x) counts no_grab no_report step same =
    (ap (λ (b : Book). (totals_of b).grabbed) same, ap (λ (b : Book). (totals_of b).reported) same, ap (λ (b : Book). b.settings) same)

-- ---- histories

-- nothing, so many times
abbrev no_events : ℕ → List (List Event)
no_events zero = []
no_events (suc count) = [] ∷ no_events count

none_joined : (count : ℕ) → joined (no_events count) ≡ []
none_joined zero = refl
none_joined (suc count) = none_joined count

so_many : (count : ℕ) → length (no_events count) ≡ count
so_many zero = refl
so_many (suc count) = ap suc (so_many count)

-- events are those of any number of chapters, and of none if there are none
in_chapters : (count : ℕ) (events : List Event) → (count ≡ 0 → events ≡ []) → AreOfChapters count events
in_chapters zero events none = ([], refl, none refl)
in_chapters (suc count) events none =
    (events ∷ no_events count, ap suc (so_many count), sym (ap (λ (l : List Event). events ++ l) (none_joined count) ∙ append-nil events))

joined_more : (chapters : List (List Event)) (events : List Event) → joined (chapters ++ events ∷ []) ≡ joined chapters ++ events
joined_more [] events = append-nil events
joined_more (c ∷ cs) events = ap (λ (l : List Event). c ++ l) (joined_more cs events) ∙ sym (append_assoc c (joined cs) events)

-- one chapter more
one_chapter_more : (count : ℕ) (earlier events : List Event) → AreOfChapters count earlier → AreOfChapters (count + 1) (earlier ++ events)
one_chapter_more count earlier events are = (
  are.0 ++ events ∷ [],
  omega (arith, are.1, length-append are.0 (events ∷ [])),
  ap (λ (l : List Event). l ++ events) are.2 ∙ sym (joined_more are.0 events),
)

-- the whole history of a pool
pub record Whole (book : Book) : Type 0 where
  pub earlier : List Event
  pub chapters_are : AreOfChapters book.chapters earlier
  pub replays : IsReplay book.settings (first book.settings) (earlier ++ book.events) book.state

whole_of : (book : Book) → IsChapter book.settings book.chapters book.events book.state → HistoriesJoin → Whole book
whole_of book chapter join =
    let base = first book.settings in
    let before = chapter.begins.before in
    let to_base = chapter.begins.replays in
    let from_base : IsHistory book.settings (replay book.settings base before) book.events = subst (λ (s : State). IsHistory book.settings s book.events) to_base.replayed chapter.replays.history in
    let joined = join book.settings base before book.events to_base.history from_base in
    record {
      earlier = before;
      chapters_are = in_chapters book.chapters before chapter.begins.none_before;
      replays = record {
        history = joined.0;
        replayed = chapter.replays.replayed ∙ (ap (λ (s : State). replay book.settings s book.events) to_base.replayed ∙ sym joined.1);
      };
    }

-- ---- rounds

rounds_more : (settings : Settings) (state : State) (events : List Event) (e : Event)
    → rounds_of settings state (events ++ e ∷ []) ≡ rounds_of settings state events ++ round_at e (replay settings state events)
rounds_more settings state [] e = append-nil (round_at e state)
rounds_more settings state (x ∷ xs) e =
    ap (λ (l : List Ran). round_at x state ++ l) (rounds_more settings (after settings x state) xs e)
    ∙ sym (append_assoc (round_at x state) (rounds_of settings (after settings x state) xs) (round_at e (replay settings (after settings x state) xs)))

plus_none : (n : ℕ) → n ≡ n + 0
plus_none n = omega arith

-- a round raises the number of rounds by one, and no other event does
round_counts : (settings : Settings) (e : Event) (state : State) → (after settings e state).rounds ≡ state.rounds + length (round_at e state)
round_counts settings (event.Join slot) state = plus_none state.rounds
round_counts settings (event.Load load) state = plus_none state.rounds
round_counts settings (event.Round (answers.Planned plan backlog short)) state = refl
round_counts settings (event.Round (answers.NoPlan short)) state = refl
round_counts settings (event.Grab worker handle function now) state = plus_none state.rounds
round_counts settings (event.Begin worker ticket) state = plus_none state.rounds
round_counts settings (event.Reported worker ticket end) state = plus_none state.rounds
round_counts settings (event.Lost worker cause) state = plus_none state.rounds

rounds_counted : (settings : Settings) (state : State) (events : List Event) → (replay settings state events).rounds ≡ state.rounds + length (rounds_of settings state events)
rounds_counted settings state [] = plus_none state.rounds
rounds_counted settings state (e ∷ es) = omega (
  arith,
  rounds_counted settings (after settings e state) es,
  round_counts settings e state,
  length-append (round_at e state) (rounds_of settings (after settings e state) es),
)

none_of : (rounds : List Ran) → length rounds ≡ 0 → rounds ≡ []
none_of [] none = refl
none_of (x ∷ xs) none = absurd (omega (arith, none))

-- a pool that has made no round
pub no_rounds_yet : (book : Book) → IsChapter book.settings book.chapters book.events book.state → HistoriesJoin → book.state.rounds ≡ 0 → CameTo book []
no_rounds_yet book chapter join none =
    let whole = whole_of book chapter join in
    let all = whole.earlier ++ book.events in
    let counted : (replay book.settings (first book.settings) all).rounds ≡ 0 + length (rounds_of book.settings (first book.settings) all) = rounds_counted book.settings (first book.settings) all in
    record {
      earlier = whole.earlier;
      chapters_are = whole.chapters_are;
      replays = whole.replays;
      rounds_are = sym (none_of (rounds_of book.settings (first book.settings) all) (omega (arith, counted, ap (λ (s : State). s.rounds) whole.replays.replayed, none)));
    }

-- one event more
has_more : (settings : Settings) (chapters : ℕ) (events : List Event) (state : State) (rounds : List Ran) (e : Event) → HistoriesJoin → IsPossible settings e state
    → HasRounds settings chapters events state rounds → HasRounds settings chapters (events ++ e ∷ []) (after settings e state) (rounds ++ round_at e state)
has_more settings chapters events state rounds e join possible has =
    let base = first settings in
    let all = has.earlier ++ events in
    let here : IsHistory settings (replay settings base all) (e ∷ []) = subst (λ (s : State). IsHistory settings s (e ∷ [])) has.replays.replayed (possible, tt) in
    let joined = join settings base all (e ∷ []) has.replays.history here in
    let same = append_assoc has.earlier events (e ∷ []) in
    let longer : IsReplay settings base (all ++ e ∷ []) (after settings e state) =
    record { history = joined.0; replayed = ap (λ (s : State). after settings e s) has.replays.replayed ∙ sym joined.1 }
    in
    record {
      earlier = has.earlier;
      chapters_are = has.chapters_are;
      replays = subst (λ (l : List Event). IsReplay settings base l (after settings e state)) same longer;
      rounds_are = ap (λ (l : List Ran). l ++ round_at e state) has.rounds_are
          ∙ (ap (λ (s : State). rounds_of settings base all ++ round_at e s) has.replays.replayed
          ∙ (sym (rounds_more settings base all e) ∙ ap (λ (l : List Event). rounds_of settings base l) same));
    }

step_more : (e : Event) (old new : Book) (rounds : List Ran) → HistoriesJoin → IsStep e old new → CameTo old rounds → CameTo new (rounds ++ round_at e old.state)
step_more e old new rounds join step has =
    let more = rounds ++ round_at e old.state in
    let there = has_more old.settings old.chapters old.events old.state rounds e join step.possible has in
    let of_state = subst (λ (s : State). HasRounds old.settings old.chapters (old.events ++ e ∷ []) s more) (sym step.state) there in
    let of_events = subst (λ (l : List Event). HasRounds old.settings old.chapters l new.state more) (sym step.events) of_state in
    let of_chapters = subst (λ (n : ℕ). HasRounds old.settings n new.events new.state more) (sym step.chapters) of_events in
    subst (λ (s : Settings). HasRounds s new.chapters new.events new.state more) (sym step.settings) of_chapters

-- an event that is no round
pub step_without_round : (e : Event) (old new : Book) (rounds : List Ran) → HistoriesJoin → round_at e old.state ≡ [] → IsStep e old new → CameTo old rounds → CameTo new rounds
step_without_round e old new rounds join none step has =
    subst (λ (l : List Ran). CameTo new l) (ap (λ (l : List Ran). rounds ++ l) none ∙ append-nil rounds) (step_more e old new rounds join step has)

-- a call that is no round
pub same_rounds : {A E : Type 0} (e : Event) (old new : Book) (rounds : List Ran) (result : Result A E) → HistoriesJoin → round_at e old.state ≡ []
    → OnOk result (IsStep e old new) → OnErr result (new ≡ old) → CameTo old rounds → CameTo new rounds
same_rounds e old new rounds (Ok x) join none step same has = step_without_round e old new rounds join none step has
same_rounds e old new rounds (Err x) join none step same has = subst (λ (b : Book). CameTo b rounds) (sym same) has

-- a round
pub one_round : (answer : Answer) (old new : Book) (rounds now : List Ran) (ran : Ran) → HistoriesJoin → IsStep (Round answer) old new → ran ≡ ran_of answer old.state
    → now ≡ rounds ++ ran ∷ [] → CameTo old rounds → CameTo new now
one_round answer old new rounds now ran join step is added has =
    subst (λ (l : List Ran). CameTo new l) (ap (λ (r : Ran). rounds ++ r ∷ []) (sym is) ∙ sym added) (step_more (Round answer) old new rounds join step has)

-- the end of a chapter
next_rounds : (old new : Book) (rounds : List Ran) → new ≡ next_chapter old → CameTo old rounds → CameTo new rounds
next_rounds old new rounds is has =
    let all = has.earlier ++ old.events in
    let same : all ≡ all ++ [] = sym (append-nil all) in
    let ended : CameTo (next_chapter old) rounds =
    record {
      earlier = all;
      chapters_are = one_chapter_more old.chapters has.earlier old.events has.chapters_are;
      replays = subst (λ (l : List Event). IsReplay old.settings (first old.settings) l old.state) same has.replays;
      rounds_are = has.rounds_are ∙ ap (λ (l : List Event). rounds_of old.settings (first old.settings) l) same;
    }
    in
    subst (λ (b : Book). CameTo b rounds) (sym is) ended

pub chapter_rounds : {A E : Type 0} (old new : Book) (rounds : List Ran) (result : Result A E) → OnOk result (new ≡ next_chapter old) → OnErr result (new ≡ old) → CameTo old rounds → CameTo new rounds
chapter_rounds old new rounds (Ok x) is same has = next_rounds old new rounds is has
chapter_rounds old new rounds (Err x) is same has = subst (λ (b : Book). CameTo b rounds) (sym same) has

-- a job that is forgotten
pub forgotten_rounds : {A : Type 0} (old new : Book) (rounds : List Ran) (result : Option A) → OnSome result (new ≡ forget_first old) → IfNone result (new ≡ old) → CameTo old rounds → CameTo new rounds
forgotten_rounds old new rounds (Some x) is same has =
    let here : CameTo (forget_first old) rounds = record { earlier = has.earlier; chapters_are = has.chapters_are; replays = has.replays; rounds_are = has.rounds_are } in
    subst (λ (b : Book). CameTo b rounds) (sym is) here
forgotten_rounds old new rounds None is same has = subst (λ (b : Book). CameTo b rounds) (sym same) has

-- ---- totals

-- the end of a chapter changes no total of jobs
pub chapter_totals : {A E : Type 0} (old new : Book) (result : Result A E) → OnOk result (new ≡ next_chapter old) → OnErr result (new ≡ old)
    → ((totals_of new).grabbed ≡ (totals_of old).grabbed) × ((totals_of new).reported ≡ (totals_of old).reported) × (new.settings ≡ old.settings)
chapter_totals old new (Ok x) is same = (ap (λ (b : Book). (totals_of b).grabbed) is, ap (λ (b : Book). (totals_of b).reported) is, ap (λ (b : Book). b.settings) is)
chapter_totals old new (Err x) is same = (ap (λ (b : Book). (totals_of b).grabbed) same, ap (λ (b : Book). (totals_of b).reported) same, ap (λ (b : Book). b.settings) same)

-- nor does a job that is forgotten
pub forgotten_totals : {A : Type 0} (old new : Book) (result : Option A) → OnSome result (new ≡ forget_first old) → IfNone result (new ≡ old)
    → ((totals_of new).grabbed ≡ (totals_of old).grabbed) × ((totals_of new).reported ≡ (totals_of old).reported) × (new.settings ≡ old.settings)
forgotten_totals old new (Some x) is same = (ap (λ (b : Book). (totals_of b).grabbed) is, ap (λ (b : Book). (totals_of b).reported) is, ap (λ (b : Book). b.settings) is)
forgotten_totals old new None is same = (ap (λ (b : Book). (totals_of b).grabbed) same, ap (λ (b : Book). (totals_of b).reported) same, ap (λ (b : Book). b.settings) same)

-- the totals are the numbers of grabs, of reports and of rounds of the whole history
pub counts_its_events : (book : Book) (rounds : List Ran) → AreSettings book.settings → CameTo book rounds → HistoriesCount → RoundsAreShown → JobsAreAccountedFor
    → CountsItsEvents book (totals_of book) rounds
counts_its_events book rounds valid has count shown accounted =
    let all = has.earlier ++ book.events in
    let counted = count book.settings valid all has.replays.history in
    let number : (replay book.settings (first book.settings) all).rounds ≡ 0 + length (rounds_of book.settings (first book.settings) all) = rounds_counted book.settings (first book.settings) all in
    record {
      earlier = has.earlier;
      chapters_are = has.chapters_are;
      replays = has.replays;
      totals_are = refl;
      grabs = ap (λ (s : State). length s.standings) has.replays.replayed ∙ counted.grabs;
      reports = ap (λ (s : State). count_by is_reported s.standings) has.replays.replayed ∙ counted.reports;
      rounds_made = omega (arith, ap (λ (s : State). s.rounds) has.replays.replayed, number, ap (λ (l : List Ran). length l) has.rounds_are);
      rounds_are = has.rounds_are;
      promise = record {
        rounds = λ earlier later answer is. shown book.settings (first book.settings) earlier later answer
            (subst (λ (l : List Event). IsHistory book.settings (first book.settings) l) is has.replays.history);
        jobs = accounted book.settings valid all has.replays.history;
      };
    }

-- each job that was grabbed is running, reported or lost
pub accounts_for_each : (book : Book) → AreSettings book.settings → IsChapter book.settings book.chapters book.events book.state → HistoriesJoin → HistoriesCount
    → (totals_of book).grabbed ≡ (totals_of book).running + (totals_of book).reported + (totals_of book).lost
accounts_for_each book valid chapter join count =
    let counts = whole_of book chapter join in
    let counted = count book.settings valid (counts.earlier ++ book.events) counts.replays.history in
    subst (λ (s : State). length s.standings ≡ count_by is_open s.standings + count_by is_reported s.standings + count_by is_lost s.standings)
    (sym counts.replays.replayed) counted.sum

-- there is a slot for each worker of the settings
pub a_slot_for_each : (book : Book) (settings : Settings) → AreSettings book.settings → IsChapter book.settings book.chapters book.events book.state → HistoriesJoin → HistoriesCount → HistoriesAreSound
    → book.settings ≡ settings → length book.state.slots ≡ slot_count settings
a_slot_for_each book settings valid chapter join count sound same =
    let counts = whole_of book chapter join in
    let now = sound book.settings valid (counts.earlier ++ book.events) counts.replays.history in
    let here : IsSoundState book.settings book.state = subst (λ (s : State). IsSoundState book.settings s) (sym counts.replays.replayed) now in
    here.slots ∙ ap (λ (s : Settings). slot_count s) same

-- a history leads to the state
pub is_reached : (book : Book) (settings : Settings) → AreSettings book.settings → IsChapter book.settings book.chapters book.events book.state → HistoriesJoin → HistoriesCount
    → book.settings ≡ settings → IsReached settings book.state
is_reached book settings valid chapter join count same =
    let counts = whole_of book chapter join in
    subst (λ (s : Settings). IsReached s book.state) same (counts.earlier ++ book.events, counts.replays)

-- the state is sound
pub is_sound : (book : Book) (settings : Settings) → AreSettings book.settings → IsChapter book.settings book.chapters book.events book.state → HistoriesJoin → HistoriesCount → HistoriesAreSound
    → book.settings ≡ settings → IsSoundState settings book.state
is_sound book settings valid chapter join count sound same =
    let counts = whole_of book chapter join in
    let now = sound book.settings valid (counts.earlier ++ book.events) counts.replays.history in
    subst (λ (s : Settings). IsSoundState s book.state) same (subst (λ (s : State). IsSoundState book.settings s) (sym counts.replays.replayed) now)

-- a round goes on from a state that was reached
pub is_round_of : (settings : Settings) (old new : Book) (answer : Answer) (ran : Ran) → HistoriesJoin → old.settings ≡ settings → IsReached settings old.state
    → IsStep (Round answer) old new → ran ≡ ran_of answer old.state → IsRoundOf settings ran new.state
is_round_of settings old new answer ran join same reached step is =
    let base = first settings in
    let before = reached.0 in
    let replays = reached.1 in
    let possible : IsPossible settings (Round answer) old.state = subst (λ (s : Settings). IsPossible s (Round answer) old.state) same step.possible in
    let here : IsHistory settings (replay settings base before) (Round answer ∷ []) =
    subst (λ (s : State). IsHistory settings s (Round answer ∷ [])) replays.replayed (possible, tt)
    in
    let joined = join settings base before (Round answer ∷ []) replays.history here in
    record {
      before = before;
      answer = answer;
      replays = record {
        history = joined.0;
        replayed = step.state ∙ (ap (λ (s : State). after_round answer s) replays.replayed ∙ sym joined.1);
      };
      ran_is = is ∙ ap (λ (s : State). ran_of answer s) replays.replayed;
    }
