-- The laws over every history.
use Rattle.pool_settings.specs.Slots.{slots as slot_count}
use Rattle.std.proofs.Common.{◌≡◌, ◌≢◌, ℕ, ◌+◌, ◌-◌, ◌<◌, ◌≤◌, zero, suc, true, false, List, [], ◌∷◌, ◌++◌, length, get_or, set, Option, None, Some, refl, sym, ap, ◌∙◌, subst, arith, length-append, length-set, append_assoc, append-nil}
use Rattle.std.specs.Prelude.{count_by, ◌==◌, slice_get, replicate}
use Rattle.std.proofs.lemmas.List.{get_or-set_other, get_or_append_left}
use Rattle.std.proofs.lemmas.List.Sums.{sum_by-cons}
use Rattle.std.proofs.lemmas.Option.{slice_get-get_or}
use Rattle.std.proofs.lemmas.Grind.{get_or-set_at}
use Rattle.std.proofs.lemmas.Bool.{both_ways, cond-false, ne_eqb}
use Rattle.pool_settings.specs.Settings.{Settings, AreSettings}
use Rattle.plan_model.specs.declared.answer.Answer.{Answer}
use Rattle.plan_model.specs.declared.answer.Answer.TheVariants as answers
use Rattle.worker_state.specs.declared.slot.WorkerName.{WorkerName}
use Rattle.worker_state.specs.declared.cause.Cause.{Cause}
use Rattle.worker_state.specs.declared.slot.Slot.{Slot}
use Rattle.worker_state.specs.declared.slot.Slot.TheVariants.{Empty, Live}
use Rattle.worker_state.specs.declared.job.Standing.{Standing}
use Rattle.worker_state.specs.declared.job.Standing.TheVariants as standing
use Rattle.worker_state.specs.Orders.{no_order, IsOrder}
use Rattle.worker_state.specs.Slots.{is_open, is_reported, last_generation, run_count, held_ticket}
use Rattle.pool_core.specs.declared.event.Job.{Job}
use Rattle.pool_core.specs.declared.event.Event.{Event}
use Rattle.pool_core.specs.declared.event.Event.TheVariants as event
use Rattle.pool_core.specs.Machine.{State, first, slot_in, standing_in, replay, IsHistory, IsPossible, after, after_round, with_lost, is_live_in, open_ticket, input_of, slot_after_run}
use Rattle.plan_model.proofs.Shown.{shown_best}
use Rattle.pool_core.specs.Kept.{IsChapter, IsSoundState, IsOpenTicket, OpensAt}
use Rattle.pool_core.specs.Book.{Book}
use Rattle.pool_core.specs.Laws.{ExtendsState, is_grab, is_report, next_generation, HistoriesExtend, HistoriesAreSound, WorkersAreNew, HistoriesCount, ChaptersCount, RoundsAreShown, HistoriesJoin, HistoriesCut, BasesAreSound, EventsCount}
use Rattle.pool_core.proofs.Tables.{standing_given}
use Rattle.pool_core.proofs.Sound.{sound_after, generation_last, run_generation}
use Rattle.pool_core.proofs.Steps.{replay-append, history-append}
use Rattle.pool_core.proofs.Sums.{counts_all, reported_reported, reported_begin, counts_lost, count_by-push, one_if, as_number}

pub standing_from : (standings : List Standing) (k : ℕ) (x d : Standing) → 0 < k → k ≤ length standings → get_or standings (k - 1) d ≡ x → standing_in standings k ≡ Some x
standing_from standings k x d from_one given is =
    cond-false (k == 0) None (slice_get standings (k - 1)) (ne_eqb k 0 (λ e. omega arith))
    ∙ slice_get-get_or standings (k - 1) d (omega arith) ∙ ap (λ (s : Standing). Some s) is

-- a write of a standing that goes on leaves those that do not
written_keeps : (standings : List Standing) (i : ℕ) (y : Standing) → is_open (get_or standings i standing.Running) ≡ true → (k : ℕ) (x : Standing) → standing_in standings k ≡ Some x → is_open x ≡ false → standing_in (set standings i y) k ≡ Some x
written_keeps standings i y goes k x is closed =
    let t = standing_given standings k x standing.Running is in
    let other : k - 1 ≢ i = λ e. both_ways (is_open x) closed (sym (ap is_open t.2) ∙ ap (λ (n : ℕ). is_open (get_or standings n standing.Running)) e ∙ goes) in
    standing_from (set standings i y) k x standing.Running t.0 (omega (arith, t.1, length-set standings i y)) (get_or-set_other standings i (k - 1) y standing.Running other ∙ t.2)

pushed_keeps : (standings : List Standing) (y : Standing) (k : ℕ) (x : Standing) → standing_in standings k ≡ Some x → standing_in (standings ++ y ∷ []) k ≡ Some x
pushed_keeps standings y k x is =
    let t = standing_given standings k x standing.Running is in
    standing_from (standings ++ y ∷ []) k x standing.Running t.0 (omega (arith, t.1, length-append standings (y ∷ []))) (get_or_append_left standings (y ∷ []) standing.Running (k - 1) (omega (arith, t.0, t.1)) ∙ t.2)

lost_keeps : (standings : List Standing) (o : Option ℕ) (w : WorkerName) (cause : Cause) → ((k : ℕ) → o ≡ Some k → IsOpenTicket standings k) → (k : ℕ) (x : Standing) → standing_in standings k ≡ Some x → is_open x ≡ false → standing_in (with_lost standings o w cause) k ≡ Some x
lost_keeps standings None w cause h k x is closed = is
lost_keeps standings (Some j) w cause h k x is closed = written_keeps standings (j - 1) (standing.Lost w cause) (h j refl).goes_on k x is closed

-- a slot whose last generation does not fall
no_fall : (slots : List Slot) (i : ℕ) (x : Slot) → last_generation (get_or slots i (Empty 0)) ≤ last_generation x → (s : ℕ) → last_generation (get_or slots s (Empty 0)) ≤ last_generation (get_or (set slots i x) s (Empty 0))
no_fall [] i x h s = omega arith
no_fall (y ∷ slots) zero x h zero = h
no_fall (y ∷ slots) zero x h (suc s) = omega arith
no_fall (y ∷ slots) (suc i) x h zero = omega arith
no_fall (y ∷ slots) (suc i) x h (suc s) = no_fall slots i x h s

-- the worker that is there has the slot's last generation
no_fall_of : (state : State) (w : WorkerName) (x : Slot) → is_live_in state w ≡ true → last_generation x ≡ w.generation → (s : ℕ) → last_generation (slot_in state.slots s) ≤ last_generation (get_or (set state.slots w.slot x) s (Empty 0))
no_fall_of state w x live is s = no_fall state.slots w.slot x (omega (arith, is, generation_last (slot_in state.slots w.slot) w.generation live)) s

pub same_slots : (state : State) (s : ℕ) → last_generation (slot_in state.slots s) ≤ last_generation (slot_in state.slots s)
same_slots state s = omega arith

pub same_jobs : (old new : State) → new.jobs ≡ old.jobs → ((k : ℕ) (x : Standing) → standing_in old.standings k ≡ Some x → is_open x ≡ false → standing_in new.standings k ≡ Some x)
    → ((s : ℕ) → last_generation (slot_in old.slots s) ≤ last_generation (slot_in new.slots s)) → ExtendsState old new
same_jobs old new is h g = record { jobs = ([], is ∙ sym (append-nil old.jobs)); closed = h; generations = g }

round_keeps : (answer : Answer) (state : State) → ExtendsState state (after_round answer state)
round_keeps (answers.Planned plan backlog short) state = same_jobs state (after_round (answers.Planned plan backlog short) state) refl (λ k x is closed. is) (same_slots state)
round_keeps (answers.NoPlan short) state = same_jobs state (after_round (answers.NoPlan short) state) refl (λ k x is closed. is) (same_slots state)

pub extends_after : (settings : Settings) (e : Event) (state : State) → IsSoundState settings state → IsPossible settings e state → ExtendsState state (after settings e state)
extends_after settings (event.Join slot) state h p = same_jobs state (after settings (event.Join slot) state) refl (λ k x is closed. is) (no_fall state.slots slot (Live (last_generation (slot_in state.slots slot) + 1) 0 None) (omega arith))
extends_after settings (event.Load load) state h p = same_jobs state (after settings (event.Load load) state) refl (λ k x is closed. is) (same_slots state)
extends_after settings (event.Round answer) state h p = round_keeps answer state
extends_after settings (event.Grab worker handle function now) state h p =
    record {
      jobs = (record { handle = handle; function = function } ∷ [], refl);
      closed = λ k x is closed. pushed_keeps state.standings standing.Running k x is;
      generations = no_fall_of state worker (Live worker.generation (run_count (slot_in state.slots worker.slot)) (Some (length state.standings + 1))) p.0 refl;
    }
extends_after settings (event.Begin worker ticket) state h p =
    same_jobs state (after settings (event.Begin worker ticket) state) refl
    (written_keeps state.standings (ticket - 1) standing.Reporting (ap is_open (standing_given state.standings ticket standing.Running standing.Running p.2).2))
    (same_slots state)
extends_after settings (event.Reported worker ticket end) state h p =
    same_jobs state (after settings (event.Reported worker ticket end) state) refl
    (written_keeps state.standings (ticket - 1) (standing.Reported end) (ap is_open (standing_given state.standings ticket standing.Reporting standing.Running p.2).2))
    (no_fall_of state worker (slot_after_run settings worker.generation (run_count (slot_in state.slots worker.slot))) p.0 (run_generation settings worker.generation (run_count (slot_in state.slots worker.slot))))
extends_after settings (event.Lost worker cause) state h p =
    same_jobs state (after settings (event.Lost worker cause) state) refl
    (lost_keeps state.standings (open_ticket state worker) worker cause (λ k e. h.tickets worker.slot k e))
    (no_fall_of state worker (Empty worker.generation) p refl)

pub extends_trans : (a b c : State) → ExtendsState a b → ExtendsState b c → ExtendsState a c
extends_trans a b c h k =
    record {
      jobs = (h.jobs.0 ++ k.jobs.0, k.jobs.1 ∙ ap (λ (xs : List Job). xs ++ k.jobs.0) h.jobs.1 ∙ append_assoc a.jobs h.jobs.0 k.jobs.0);
      closed = λ t x is closed. k.closed t x (h.closed t x is closed) closed;
      generations = λ s. omega (arith, h.generations s, k.generations s);
    }

extends_all : (settings : Settings) → AreSettings settings → (events : List Event) (state : State) → IsSoundState settings state → IsHistory settings state events → ExtendsState state (replay settings state events)
extends_all settings r [] state h p = same_jobs state state refl (λ k x is closed. is) (same_slots state)
extends_all settings r (e ∷ events) state h p =
    extends_trans state (after settings e state) (replay settings (after settings e state) events) (extends_after settings e state h p.0)
    (extends_all settings r events (after settings e state) (sound_after settings e state r h p.0) p.1)

sound_all : (settings : Settings) → AreSettings settings → (events : List Event) (state : State) → IsSoundState settings state → IsHistory settings state events → IsSoundState settings (replay settings state events)
sound_all settings r [] state h p = h
sound_all settings r (e ∷ events) state h p = sound_all settings r events (after settings e state) (sound_after settings e state r h p.0) p.1

-- a joined history, cut
history_cut : (settings : Settings) (base : State) (xs ys : List Event) → IsHistory settings base (xs ++ ys) → IsHistory settings base xs × IsHistory settings (replay settings base xs) ys
history_cut settings base [] ys h = (tt, h)
history_cut settings base (x ∷ xs) ys h =
    let t = history_cut settings (after settings x base) xs ys h.1 in ((h.0, t.0), t.1)

-- the first state is sound
copy_at : {X : Type 0} (n s : ℕ) (x : X) → get_or (replicate n x) s x ≡ x
copy_at zero s x = refl
copy_at (suc n) zero x = refl
copy_at (suc n) (suc s) x = copy_at n s x

length-copies : {X : Type 0} (n : ℕ) (x : X) → length (replicate n x) ≡ n
length-copies zero x = refl
length-copies (suc n) x = ap suc (length-copies n x)

pub none_open : (settings : Settings) (s : ℕ) (k : ℕ) → OpensAt (first settings).slots s k → ⊥
none_open settings s k o = let e = sym (ap held_ticket (copy_at (slot_count settings) s (Empty 0))) ∙ o in cc

pub sound_first : (settings : Settings) → AreSettings settings → IsSoundState settings (first settings)
sound_first settings r =
    record {
      slots = length-copies (slot_count settings) _;
      grab_times = length-copies (slot_count settings) _;
      orders = length-copies (slot_count settings) _;
      jobs = refl;
      generations = λ s. omega (arith, ap last_generation (copy_at (slot_count settings) s (Empty 0)));
      ranges = λ s. subst IsOrder (sym (copy_at (slot_count settings) s no_order)) (record { generation = omega arith; function = tt });
      runs = λ s. omega (arith, ap run_count (copy_at (slot_count settings) s (Empty 0)), r.max_runs_some);
      tickets = λ s k o. absurd (none_open settings s k o);
      alone = λ s t k o q. absurd (none_open settings s k o);
      held = λ k o. absurd (let t = o.given in omega (arith, o.from_one, t));
    }

pub histories_extend_lem : HistoriesExtend
histories_extend_lem settings r earlier later h =
    let t = history_cut settings (first settings) earlier later h in
    subst (ExtendsState (replay settings (first settings) earlier)) (sym (replay-append settings (first settings) earlier later))
    (extends_all settings r later (replay settings (first settings) earlier) (sound_all settings r earlier (first settings) (sound_first settings r) t.0) t.1)

pub rounds_are_shown_lem : RoundsAreShown
rounds_are_shown_lem settings base earlier later answer h =
    let p = (history_cut settings base earlier (event.Round answer ∷ later) h).1.0 in
    (p.0, p.1, p.3, shown_best (input_of settings (replay settings base earlier) p.0) answer p.2 p.3)

pub histories_join_lem : HistoriesJoin
histories_join_lem settings base earlier later h k =
    (history-append settings base earlier later h k, replay-append settings base earlier later)

pub length-with_lost : (standings : List Standing) (o : Option ℕ) (w : WorkerName) (cause : Cause) → length (with_lost standings o w cause) ≡ length standings
length-with_lost standings None w cause = refl
length-with_lost standings (Some k) w cause = length-set standings (k - 1) (standing.Lost w cause)

-- what one event adds to the two counts
pub record Adds (e : Event) (old new : State) : Type 0 where
  pub grabs : length new.standings ≡ length old.standings + one_if is_grab e
  pub reports : count_by is_reported new.standings ≡ count_by is_reported old.standings + one_if is_report e

same_counts : (e : Event) (old new : State) → is_grab e ≡ false → is_report e ≡ false → length new.standings ≡ length old.standings → count_by is_reported new.standings ≡ count_by is_reported old.standings → Adds e old new
same_counts e old new g r len counts =
    record { grabs = omega (arith, len, ap as_number g); reports = omega (arith, counts, ap as_number r) }

round_adds : (answer : Answer) (state : State) → Adds (event.Round answer) state (after_round answer state)
round_adds (answers.Planned plan backlog short) state = same_counts (event.Round (answers.Planned plan backlog short)) state (after_round (answers.Planned plan backlog short) state) refl refl refl refl
round_adds (answers.NoPlan short) state = same_counts (event.Round (answers.NoPlan short)) state (after_round (answers.NoPlan short) state) refl refl refl refl

adds_after : (settings : Settings) (e : Event) (state : State) → IsSoundState settings state → IsPossible settings e state → Adds e state (after settings e state)
adds_after settings (event.Join slot) state h p = same_counts (event.Join slot) state (after settings (event.Join slot) state) refl refl refl refl
adds_after settings (event.Load load) state h p = same_counts (event.Load load) state (after settings (event.Load load) state) refl refl refl refl
adds_after settings (event.Round answer) state h p = round_adds answer state
adds_after settings (event.Grab worker handle function now) state h p =
    record {
      grabs = omega (arith, length-append state.standings (standing.Running ∷ []));
      reports = omega (arith, count_by-push is_reported state.standings standing.Running);
    }
adds_after settings (event.Begin worker ticket) state h p =
    same_counts (event.Begin worker ticket) state (after settings (event.Begin worker ticket) state) refl refl (length-set state.standings (ticket - 1) standing.Reporting) (reported_begin settings state worker ticket p).0
adds_after settings (event.Reported worker ticket end) state h p =
    record {
      grabs = omega (arith, length-set state.standings (ticket - 1) (standing.Reported end));
      reports = omega (arith, (reported_reported settings state worker ticket end p).0);
    }
adds_after settings (event.Lost worker cause) state h p =
    same_counts (event.Lost worker cause) state (after settings (event.Lost worker cause) state) refl refl (length-with_lost state.standings (open_ticket state worker) worker cause) (counts_lost settings state worker cause h p).1

-- what a history adds to the two counts
pub counts_replayed : (settings : Settings) → AreSettings settings → (events : List Event) (state : State) → IsSoundState settings state → IsHistory settings state events
    → (length (replay settings state events).standings ≡ length state.standings + count_by is_grab events)
    × (count_by is_reported (replay settings state events).standings ≡ count_by is_reported state.standings + count_by is_report events)
counts_replayed settings r [] state h p = (omega arith, omega arith)
counts_replayed settings r (e ∷ events) state h p =
    let a = adds_after settings e state h p.0 in
    let t = counts_replayed settings r events (after settings e state) (sound_after settings e state r h p.0) p.1 in (
      omega (arith, t.0, a.grabs, sum_by-cons (one_if is_grab) e events),
      omega (arith, t.1, a.reports, sum_by-cons (one_if is_report) e events),
    )

pub histories_are_sound_lem : HistoriesAreSound
histories_are_sound_lem settings r events h = sound_all settings r events (first settings) (sound_first settings r) h

-- the generation of a slot after a worker joined it, and ever after
joined_stays : (settings : Settings) → AreSettings settings → (state : State) (slot : ℕ) (events : List Event) → IsSoundState settings state → IsHistory settings state (event.Join slot ∷ events)
    → next_generation state slot < next_generation (replay settings state (event.Join slot ∷ events)) slot
joined_stays settings r state slot events h p =
    let new = Live (last_generation (slot_in state.slots slot) + 1) 0 None in
    let here : last_generation (get_or (set state.slots slot new) slot (Empty 0)) ≡ last_generation (slot_in state.slots slot) + 1 = ap last_generation (get_or-set_at state.slots slot slot new (Empty 0) refl p.0.0) in
    let later = extends_all settings r events (after settings (event.Join slot) state) (sound_after settings (event.Join slot) state r h p.0) p.1 in
    omega (arith, here, later.generations slot)

pub workers_are_new_lem : WorkersAreNew
workers_are_new_lem settings r earlier between later slot h =
    let t = history_cut settings (first settings) earlier (event.Join slot ∷ (between ++ event.Join slot ∷ later)) h in
    let base = replay settings (first settings) earlier in
    let u = history_cut settings (after settings (event.Join slot) base) between (event.Join slot ∷ later) t.1.1 in
    subst (λ (s : State). next_generation base slot < next_generation s slot) (sym (replay-append settings (first settings) earlier (event.Join slot ∷ between)))
    (joined_stays settings r base slot between (sound_all settings r earlier (first settings) (sound_first settings r) t.0) (t.1.0, u.0))

pub histories_count_lem : HistoriesCount
histories_count_lem settings r events h =
    let t = counts_replayed settings r events (first settings) (sound_first settings r) h in
    record {
      sum = sym (counts_all (replay settings (first settings) events).standings);
      grabs = omega (arith, t.0);
      reports = omega (arith, t.1);
    }

pub chapters_count_lem : ChaptersCount
chapters_count_lem settings r base h events p =
    let t = counts_replayed settings r events base h p in
    record { sum = sym (counts_all (replay settings base events).standings); grabs = t.0; reports = t.1 }

pub histories_cut_lem : HistoriesCut
histories_cut_lem settings base earlier later h =
    let t = history_cut settings base earlier later h in (t.0, t.1, replay-append settings base earlier later)

pub bases_are_sound_lem : BasesAreSound
bases_are_sound_lem settings r chapters base h =
    subst (IsSoundState settings) (sym h.replays.replayed) (sound_all settings r h.before (first settings) (sound_first settings r) h.replays.history)

pub chapter_sound : (book : Book) → AreSettings book.settings → IsChapter book.settings book.chapters book.events book.state → IsSoundState book.settings book.state
chapter_sound book r k =
    subst (IsSoundState book.settings) (sym k.replays.replayed) (sound_all book.settings r book.events k.base (bases_are_sound_lem book.settings r book.chapters k.base k.begins) k.replays.history)

pub events_count_lem : (book : Book) → AreSettings book.settings → IsChapter book.settings book.chapters book.events book.state → EventsCount book
events_count_lem book r k e new s =
    let a = adds_after book.settings e book.state (chapter_sound book r k) s.possible in
    (ap (λ (t : State). length t.standings) s.state ∙ a.grabs, ap (λ (t : State). count_by is_reported t.standings) s.state ∙ a.reports)
