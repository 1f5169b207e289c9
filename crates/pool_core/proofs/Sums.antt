-- What each event does to the running counts.
use Rattle.std.proofs.Common.{◌≡◌, ℕ, ◌+◌, ◌-◌, ◌<◌, ◌≤◌, Bool, true, false, cond, List, [], ◌∷◌, ◌++◌, length, get_or, set, Option, None, Some, refl, ap, arith}
use Rattle.std.specs.Prelude.{count_by, sum_by}
use Rattle.std.proofs.lemmas.List.Sums.{sum_by-set, sum_by_push, sum_by-cons}
use Rattle.std.proofs.lemmas.Bool.{false≢true}
use Rattle.pool_settings.specs.Settings.{Settings}
use Rattle.worker_state.specs.declared.slot.Slot.TheVariants.{Empty, Live}
use Rattle.worker_state.specs.declared.slot.WorkerName.{WorkerName}
use Rattle.worker_state.specs.declared.cause.Cause.{Cause}
use Rattle.worker_state.specs.declared.job.EndKind.{EndKind}
use Rattle.worker_state.specs.declared.job.Standing.{Standing}
use Rattle.worker_state.specs.declared.job.Standing.TheVariants as standing
use Rattle.worker_state.specs.Slots.{is_live, is_open, is_reported, is_lost, closing_events, run_count, last_generation}
use Rattle.pool_core.specs.declared.event.Event.TheVariants as event
use Rattle.pool_core.specs.Machine.{State, slot_in, is_live_in, open_ticket, after, IsPossible, owed, with_lost, slot_after_run}
use Rattle.pool_core.specs.Kept.{IsOpenTicket, IsSoundState, closing_of, lost_of}
use Rattle.pool_core.proofs.Tables.{live_has, standing_given}
use Rattle.pool_core.proofs.Sound.{worker_within}

abbrev pub one_if : {X : Type 0} → (X → Bool) → X → ℕ
one_if p x = cond (p x) 1 0

abbrev pub as_number : Bool → ℕ
as_number b = cond b 1 0

-- a count after one write
pub count_by-set : {X : Type 0} (p : X → Bool) (xs : List X) (i : ℕ) (y d : X) (a b : Bool) → i < length xs → p (get_or xs i d) ≡ a → p y ≡ b → count_by p (set xs i y) + cond a 1 0 ≡ count_by p xs + cond b 1 0
count_by-set p xs i y d a b within is_a is_b =
    omega (arith, sum_by-set (one_if p) xs i y d within, ap as_number is_a, ap as_number is_b)

pub count_by-push : {X : Type 0} (p : X → Bool) (xs : List X) (y : X) → count_by p (xs ++ y ∷ []) ≡ count_by p xs + cond (p y) 1 0
count_by-push p xs y = sum_by_push (one_if p) xs y

pub owed_join : (settings : Settings) (state : State) (slot : ℕ) → IsPossible settings (event.Join slot) state → owed (after settings (event.Join slot) state) ≡ owed state + 1
owed_join settings state slot p =
    omega (arith, count_by-set is_live state.slots slot (Live (last_generation (slot_in state.slots slot) + 1) 0 None) (Empty 0) false true p.0 p.1 refl)

live_before : (state : State) (w : WorkerName) → is_live_in state w ≡ true → is_live (slot_in state.slots w.slot) ≡ true
live_before state w live = live_has (slot_in state.slots w.slot) w.generation live

pub owed_grab : (settings : Settings) (state : State) (w : WorkerName) (handle function : List ℕ) (now : ℕ) → is_live_in state w ≡ true → owed (after settings (event.Grab w handle function now) state) ≡ owed state + 2
owed_grab settings state w handle function now live =
    omega (
      arith,
      count_by-set is_live state.slots w.slot (Live w.generation (run_count (slot_in state.slots w.slot)) (Some ((length state.standings + 1)))) (Empty 0) true true (worker_within state w live) (live_before state w live) refl,
      sum_by_push closing_events state.standings standing.Running,
    )

-- a sum over the standings after one write
sum_written : (f : Standing → ℕ) (standings : List Standing) (k : ℕ) (x y : Standing) → (0 < k) × (k ≤ length standings) × (get_or standings (k - 1) standing.Running ≡ x) → sum_by f (set standings (k - 1) y) + f x ≡ sum_by f standings + f y
sum_written f standings k x y t =
    omega (arith, sum_by-set f standings (k - 1) y standing.Running (omega (arith, t.0, t.1)), ap f t.2)

pub owed_begin : (settings : Settings) (state : State) (w : WorkerName) (k : ℕ) → IsPossible settings (event.Begin w k) state → owed (after settings (event.Begin w k) state) + 1 ≡ owed state
owed_begin settings state w k p =
    omega (arith, sum_written closing_events state.standings k standing.Running standing.Reporting (standing_given state.standings k standing.Running standing.Running p.2))

pub owed_reported : (settings : Settings) (state : State) (w : WorkerName) (k : ℕ) (end : EndKind) (stays : Bool) → is_live (slot_after_run settings w.generation (run_count (slot_in state.slots w.slot))) ≡ stays → IsPossible settings (event.Reported w k end) state
    → owed (after settings (event.Reported w k end) state) + 2 ≡ owed state + cond stays 1 0
owed_reported settings state w k end stays is p =
    omega (
      arith,
      sum_written closing_events state.standings k standing.Reporting (standing.Reported end) (standing_given state.standings k standing.Reporting standing.Running p.2),
      count_by-set is_live state.slots w.slot (slot_after_run settings w.generation (run_count (slot_in state.slots w.slot))) (Empty 0) true stays (worker_within state w p.0) (live_before state w p.0) is,
    )

pub reported_reported : (settings : Settings) (state : State) (w : WorkerName) (k : ℕ) (end : EndKind) → IsPossible settings (event.Reported w k end) state
    → (count_by is_reported (set state.standings (k - 1) (standing.Reported end)) ≡ count_by is_reported state.standings + 1) × (count_by is_lost (set state.standings (k - 1) (standing.Reported end)) ≡ count_by is_lost state.standings)
reported_reported settings state w k end p =
    let t = standing_given state.standings k standing.Reporting standing.Running p.2 in (
      omega (arith, sum_written (one_if is_reported) state.standings k standing.Reporting (standing.Reported end) t),
      omega (arith, sum_written (one_if is_lost) state.standings k standing.Reporting (standing.Reported end) t),
    )

pub reported_begin : (settings : Settings) (state : State) (w : WorkerName) (k : ℕ) → IsPossible settings (event.Begin w k) state
    → (count_by is_reported (set state.standings (k - 1) standing.Reporting) ≡ count_by is_reported state.standings) × (count_by is_lost (set state.standings (k - 1) standing.Reporting) ≡ count_by is_lost state.standings)
reported_begin settings state w k p =
    let t = standing_given state.standings k standing.Running standing.Running p.2 in (
      omega (arith, sum_written (one_if is_reported) state.standings k standing.Running standing.Reporting t),
      omega (arith, sum_written (one_if is_lost) state.standings k standing.Running standing.Reporting t),
    )

-- a standing that goes on is neither reported nor lost
pub open_neither : (x : Standing) → is_open x ≡ true → (is_reported x ≡ false) × (is_lost x ≡ false)
open_neither standing.Running h = (refl, refl)
open_neither standing.Reporting h = (refl, refl)
open_neither (standing.Reported end) h = absurd (false≢true h)
open_neither (standing.Lost worker cause) h = absurd (false≢true h)

-- what the loss of an open ticket does to the counts
lost_counts : (standings : List Standing) (o : Option ℕ) (w : WorkerName) (cause : Cause) → ((k : ℕ) → o ≡ Some k → IsOpenTicket standings k)
    → (sum_by closing_events (with_lost standings o w cause) + closing_of standings o ≡ sum_by closing_events standings)
    × (count_by is_reported (with_lost standings o w cause) ≡ count_by is_reported standings)
    × (count_by is_lost (with_lost standings o w cause) ≡ count_by is_lost standings + lost_of o)
lost_counts standings None w cause h = (omega arith, refl, omega arith)
lost_counts standings (Some k) w cause h =
    let t = h k refl in
    let x = get_or standings (k - 1) standing.Running in
    let here : (0 < k) × (k ≤ length standings) × (get_or standings (k - 1) standing.Running ≡ x) = (t.from_one, t.given, refl) in
    let neither = open_neither x t.goes_on in (
      omega (arith, sum_written closing_events standings k x (standing.Lost w cause) here),
      omega (arith, sum_written (one_if is_reported) standings k x (standing.Lost w cause) here, ap as_number neither.0),
      omega (arith, sum_written (one_if is_lost) standings k x (standing.Lost w cause) here, ap as_number neither.1),
    )

pub counts_lost : (settings : Settings) (state : State) (w : WorkerName) (cause : Cause) → IsSoundState settings state → is_live_in state w ≡ true
    → (owed (after settings (event.Lost w cause) state) + 1 + closing_of state.standings (open_ticket state w) ≡ owed state)
    × (count_by is_reported (with_lost state.standings (open_ticket state w) w cause) ≡ count_by is_reported state.standings)
    × (count_by is_lost (with_lost state.standings (open_ticket state w) w cause) ≡ count_by is_lost state.standings + lost_of (open_ticket state w))
counts_lost settings state w cause h live =
    let t = lost_counts state.standings (open_ticket state w) w cause (λ k e. h.tickets w.slot k e) in (
      omega (arith, t.0, count_by-set is_live state.slots w.slot (Empty w.generation) (Empty 0) true false (worker_within state w live) (live_before state w live) refl),
      t.1,
      t.2,
    )

-- each job is running, reported or lost
pub counts_all : (standings : List Standing) → count_by is_open standings + count_by is_reported standings + count_by is_lost standings ≡ length standings
counts_all [] = omega arith
counts_all (standing.Running ∷ xs) = omega (arith, counts_all xs, sum_by-cons (one_if is_open) standing.Running xs, sum_by-cons (one_if is_reported) standing.Running xs, sum_by-cons (one_if is_lost) standing.Running xs)
counts_all (standing.Reporting ∷ xs) = omega (arith, counts_all xs, sum_by-cons (one_if is_open) standing.Reporting xs, sum_by-cons (one_if is_reported) standing.Reporting xs, sum_by-cons (one_if is_lost) standing.Reporting xs)
counts_all (standing.Reported end ∷ xs) = omega (arith, counts_all xs, sum_by-cons (one_if is_open) (standing.Reported end) xs, sum_by-cons (one_if is_reported) (standing.Reported end) xs, sum_by-cons (one_if is_lost) (standing.Reported end) xs)
counts_all (standing.Lost worker cause ∷ xs) = omega (arith, counts_all xs, sum_by-cons (one_if is_open) (standing.Lost worker cause) xs, sum_by-cons (one_if is_reported) (standing.Lost worker cause) xs, sum_by-cons (one_if is_lost) (standing.Lost worker cause) xs)
