-- Workers with late jobs, expired one slot after the other.
use Rattle.std.proofs.Common.{◌≡◌, ◌≢◌, ℕ, ◌+◌, ◌-◌, ◌<◌, ◌≤◌, zero, suc, Bool, true, false, List, [], ◌∷◌, length, set, Option, None, Some, refl, sym, ap, subst, ◌∙◌, arith}
use Rattle.std.specs.Prelude.{Result, Ok, Err, slice_get, nat_lt, ◌==◌, if◌then◌else◌}
use Rattle.std.proofs.lemmas.List.{get_or-set_other, get_or_past}
use Rattle.std.proofs.lemmas.Grind.{get_or-set_at}
use Rattle.std.proofs.lemmas.Bool.{ltb-true, ltb-false}
use Rattle.std.proofs.Math.Arith.{lt_of_le-ne}
use mathlib.Core.Logic.{dite}
use native.Mathlib.Decide.{ℕ_discrete}
use Rattle.pool_settings.specs.Settings.{Settings}
use Rattle.worker_state.specs.declared.slot.Slot.{Slot}
use Rattle.worker_state.specs.declared.slot.Slot.TheVariants.{Empty}
use Rattle.worker_state.specs.declared.slot.WorkerName.{WorkerName}
use Rattle.worker_state.specs.declared.job.Standing.{Standing}
use Rattle.worker_state.specs.declared.job.Standing.TheVariants as standing
use Rattle.worker_state.specs.declared.cause.Cause.{Cause}
use Rattle.worker_state.specs.declared.cause.Cause.TheVariants.{Late}
use Rattle.worker_state.specs.Slots.{has_generation, last_generation, held_ticket}
use Rattle.pool_core.specs.declared.event.Event.TheVariants as event
use Rattle.pool_core.specs.declared.error.ExpireError.{ExpireError}
use Rattle.pool_core.specs.declared.error.ExpireError.TheVariants as expire
use Rattle.pool_core.specs.Machine.{State, slot_in, standing_in, with_lost}
use Rattle.pool_core.specs.Kept.{IsSoundState}
use Rattle.pool_core.specs.Book.{Book, IsStep, late_refusal, expire_refusal}
use Rattle.pool_core.specs.Calls.{Expires}
use Rattle.pool_supervisor.specs.Steps.{IsLate, worker_of}

-- The slots below this one were seen to, and the others are as they were.
pub record SeenTo (now count : ℕ) (old new : Book) : Type 0 where
  pub late : (s : ℕ) → s < count → IsLate old now s → slot_in new.state.slots s ≡ Empty (last_generation (slot_in old.state.slots s))
  pub others : (s : ℕ) → s < count → (IsLate old now s → ⊥) → slot_in new.state.slots s ≡ slot_in old.state.slots s
  pub rest : (s : ℕ) → count ≤ s → slot_in new.state.slots s ≡ slot_in old.state.slots s
  pub still : (s : ℕ) → count ≤ s → expire_refusal new (worker_of new.state s) now ≡ expire_refusal old (worker_of old.state s) now

pub seen_to_none : (now : ℕ) (book : Book) → SeenTo now 0 book book
seen_to_none now book =
    record {
      late = λ s below. absurd (omega (arith, below));
      others = λ s below. absurd (omega (arith, below));
      rest = λ s above. refl;
      still = λ s above. refl;
    }

got_other : {X : Type 0} (xs : List X) (i : ℕ) (y : X) (k : ℕ) → k ≢ i → slice_get (set xs i y) k ≡ slice_get xs k
got_other [] i y k other = refl
got_other (x ∷ xs) zero y zero other = absurd (other refl)
got_other (x ∷ xs) zero y (suc k) other = refl
got_other (x ∷ xs) (suc i) y zero other = refl
got_other (x ∷ xs) (suc i) y (suc k) other = got_other xs i y k (λ e. other (ap suc e))

-- how another ticket stands
other_stands : (standings : List Standing) (o : Option ℕ) (worker : WorkerName) (cause : Cause) (t : ℕ) → 0 < t → ((k : ℕ) → o ≡ Some k → (0 < k) × (t ≢ k))
    → standing_in (with_lost standings o worker cause) t ≡ standing_in standings t
other_stands standings None worker cause t from_one apart = refl
other_stands standings (Some k) worker cause t from_one apart =
    let a = apart k refl in
    ap (λ (x : Option Standing). if t == 0 then None else x) (got_other standings (k - 1) (standing.Lost worker cause) (t - 1) (λ e. a.1 (omega (arith, e, a.0, from_one))))

-- what is said of an expiry of what this slot has
abbrev refusal_at : Book → ℕ → ℕ → Slot → Option ExpireError
refusal_at book now s slot =
    if has_generation slot (last_generation slot)
    then late_refusal book (record { slot = s; generation = last_generation slot }) now (held_ticket slot)
    else Some expire.Gone

same_late : (a b : Book) (worker : WorkerName) (now : ℕ) (o : Option ℕ)
    → ((t : ℕ) → o ≡ Some t → standing_in b.state.standings t ≡ standing_in a.state.standings t)
    → b.state.grab_times ≡ a.state.grab_times → b.settings ≡ a.settings
    → late_refusal b worker now o ≡ late_refusal a worker now o
same_late a b worker now None stands times settings = refl
same_late a b worker now (Some t) stands times settings = rw (stands t refl, times, settings) refl

same_refusal : (a b : Book) (now s : ℕ) (slot : Slot)
    → ((t : ℕ) → held_ticket slot ≡ Some t → standing_in b.state.standings t ≡ standing_in a.state.standings t)
    → b.state.grab_times ≡ a.state.grab_times → b.settings ≡ a.settings
    → refusal_at b now s slot ≡ refusal_at a now s slot
same_refusal a b now s slot stands times settings =
    ap (λ (r : Option ExpireError). if has_generation slot (last_generation slot) then r else Some expire.Gone)
    (same_late a b (record { slot = s; generation = last_generation slot }) now (held_ticket slot) stands times settings)

-- the slot that was expired is empty, and nothing is said otherwise of another one
other_slot : (settings : Settings) (now j : ℕ) (cur new : Book) → IsSoundState settings cur.state → IsStep (event.Lost (worker_of cur.state j) Late) cur new
    → (s : ℕ) → s ≢ j
    → (slot_in new.state.slots s ≡ slot_in cur.state.slots s) × (expire_refusal new (worker_of new.state s) now ≡ expire_refusal cur (worker_of cur.state s) now)
other_slot settings now j cur new sound step s apart =
    let same : slot_in new.state.slots s ≡ slot_in cur.state.slots s =
    ap (λ (x : State). slot_in x.slots s) step.state ∙ get_or-set_other cur.state.slots j s (Empty (last_generation (slot_in cur.state.slots j))) (Empty 0) apart
    in
    let stands : (t : ℕ) → held_ticket (slot_in cur.state.slots s) ≡ Some t → standing_in new.state.standings t ≡ standing_in cur.state.standings t =
    λ t opens. ap (λ (x : State). standing_in x.standings t) step.state
    ∙ other_stands cur.state.standings (held_ticket (slot_in cur.state.slots j)) (worker_of cur.state j) Late t (sound.tickets s t opens).from_one
    (λ k at. ((sound.tickets j k at).from_one, λ e. apart (sound.alone s j k (opens ∙ ap (λ (n : ℕ). let o : Option ℕ = Some n in o) e) at)))
    in (
      same,
      ap (λ (x : Slot). refusal_at new now s x) same
          ∙ same_refusal cur new now s (slot_in cur.state.slots s) stands (ap (λ (x : State). x.grab_times) step.state) step.settings,
    )

-- one slot more
pub one_expired : (settings : Settings) (now j : ℕ) (old cur new : Book) (result : Result (Unit {0}) ExpireError) → j < length cur.state.slots → IsSoundState settings cur.state → SeenTo now j old cur
    → Expires (worker_of cur.state j) now cur new result → SeenTo now (j + 1) old new
one_expired settings now j old cur new (Err e) within sound seen expires =
    let same : new ≡ cur = expires.0.1 in
    let not_late : IsLate old now j → ⊥ = λ late. absurd (let f = expires.1 ∙ (seen.still j (omega arith) ∙ late) in cc) in
    record {
      late = λ s below is. dite (ℕ_discrete s j) (λ (at : s ≡ j). absurd (not_late (subst (λ (k : ℕ). IsLate old now k) at is)))
          (λ (apart : s ≢ j). ap (λ (b : Book). slot_in b.state.slots s) same ∙ seen.late s (lt_of_le-ne (omega (arith, below)) apart) is);
      others = λ s below not. dite (ℕ_discrete s j) (λ (at : s ≡ j). ap (λ (b : Book). slot_in b.state.slots s) same ∙ seen.rest s (omega (arith, at)))
          (λ (apart : s ≢ j). ap (λ (b : Book). slot_in b.state.slots s) same ∙ seen.others s (lt_of_le-ne (omega (arith, below)) apart) not);
      rest = λ s above. ap (λ (b : Book). slot_in b.state.slots s) same ∙ seen.rest s (omega (arith, above));
      still = λ s above. ap (λ (b : Book). expire_refusal b (worker_of b.state s) now) same ∙ seen.still s (omega (arith, above));
    }
one_expired settings now j old cur new (Ok x) within sound seen expires =
    let step = expires.0.0 in
    let late : IsLate old now j = sym (seen.still j (omega arith)) ∙ sym expires.1 in
    let emptied : slot_in new.state.slots j ≡ Empty (last_generation (slot_in old.state.slots j)) =
    ap (λ (x : State). slot_in x.slots j) step.state
    ∙ (get_or-set_at cur.state.slots j j (Empty (last_generation (slot_in cur.state.slots j))) (Empty 0) refl within
    ∙ ap (λ (x : Slot). Empty (last_generation x)) (seen.rest j (omega arith)))
    in
    record {
      late = λ s below is. dite (ℕ_discrete s j)
          (λ (at : s ≡ j). subst (λ (k : ℕ). slot_in new.state.slots k ≡ Empty (last_generation (slot_in old.state.slots k))) (sym at) emptied)
          (λ (apart : s ≢ j). (other_slot settings now j cur new sound step s apart).0 ∙ seen.late s (lt_of_le-ne (omega (arith, below)) apart) is);
      others = λ s below not. dite (ℕ_discrete s j)
          (λ (at : s ≡ j). absurd (not (subst (λ (k : ℕ). IsLate old now k) (sym at) late)))
          (λ (apart : s ≢ j). (other_slot settings now j cur new sound step s apart).0 ∙ seen.others s (lt_of_le-ne (omega (arith, below)) apart) not);
      rest = λ s above. (other_slot settings now j cur new sound step s (λ e. omega (arith, above, e))).0 ∙ seen.rest s (omega (arith, above));
      still = λ s above. (other_slot settings now j cur new sound step s (λ e. omega (arith, above, e))).1 ∙ seen.still s (omega (arith, above));
    }

-- no slot is late that is not there
none_past : (book : Book) (now s : ℕ) → length book.state.slots ≤ s → IsLate book now s → ⊥
none_past book now s past late =
    absurd (let f = sym (ap (λ (x : Slot). refusal_at book now s x) (get_or_past book.state.slots s (Empty 0) past)) ∙ late in cc)

late_seen : (now count s : ℕ) (old new : Book) → SeenTo now count old new → length old.state.slots ≤ count → (b : Bool) → nat_lt s count ≡ b
    → (IsLate old now s → slot_in new.state.slots s ≡ Empty (last_generation (slot_in old.state.slots s)))
    × ((IsLate old now s → ⊥) → slot_in new.state.slots s ≡ slot_in old.state.slots s)
late_seen now count s old new seen all true below = (seen.late s (ltb-true s count below), seen.others s (ltb-true s count below))
late_seen now count s old new seen all false above = (
  λ late. absurd (none_past old now s (omega (arith, all, ltb-false s count above)) late),
  λ not. seen.rest s (ltb-false s count above),
)

-- after the last slot
pub all_seen_to : (now count : ℕ) (old new : Book) → SeenTo now count old new → length old.state.slots ≤ count → (s : ℕ)
    → (IsLate old now s → slot_in new.state.slots s ≡ Empty (last_generation (slot_in old.state.slots s)))
    × ((IsLate old now s → ⊥) → slot_in new.state.slots s ≡ slot_in old.state.slots s)
all_seen_to now count old new seen all s = late_seen now count s old new seen all (nat_lt s count) refl
