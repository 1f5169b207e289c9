-- The workers of a farm that has grown.
use Rattle.std.proofs.Common.{◌≡◌, ℕ, ◌+◌, ◌-◌, ◌<◌, ◌≤◌, ◌||◌, Bool, true, false, eqb, ltb, List, length, get_or, All, refl, sym, ap, ◌∙◌, arith, inl, inr}
use Rattle.std.specs.List.{enumerate_from, list_any}
use Rattle.std.proofs.lemmas.Bool.{cases_lt, eq-eqb, ne_eqb, lt-ltb, le-ltb}
use Rattle.std.proofs.lemmas.List.{length-append, get_or-append_right}
use Rattle.std.proofs.lemmas.List.Elements.{All-append, All-from_get_or}
use Rattle.std.proofs.lemmas.List.Folds.{list_any-append, list_any_at, list_any_none}
use Rattle.std.proofs.lemmas.List.FromFn.{get_or-enumerate_from, length-enumerate_from}
use Rattle.plan_sizing.specs.Sizing.{Farm, IsFarm, AreMachines, grown}

pub length_grown : (farm : Farm) (added : List ℕ) → length (grown farm added).live ≡ length farm.problem.live + length added
length_grown farm added = omega (arith, length-append farm.problem.live (enumerate_from farm.slots added), length-enumerate_from farm.slots added)

-- the worker at a place after the live ones
pub added_at : (farm : Farm) (added : List ℕ) (place : ℕ) → length farm.problem.live ≤ place → place < length farm.problem.live + length added
    → get_or (grown farm added).live place (0, 0) ≡ (farm.slots + (place - length farm.problem.live), get_or added (place - length farm.problem.live) 0)
added_at farm added place past within =
    get_or-append_right farm.problem.live (enumerate_from farm.slots added) (length farm.problem.live) place (0, 0) refl past
    ∙ get_or-enumerate_from farm.slots added (place - length farm.problem.live) (0, 0) (omega (arith, past, within))

-- each worker is of a machine that is there
pub grown_machines : (farm : Farm) (added : List ℕ) → IsFarm farm → AreMachines farm added → All (λ worker. worker.1 < length farm.problem.may) (grown farm added).live
grown_machines farm added valid machines =
    let new : List (ℕ × ℕ) = enumerate_from farm.slots added in
    All-append (λ worker. worker.1 < length farm.problem.may) farm.problem.live new valid.instance.machines
    (All-from_get_or (λ worker. worker.1 < length farm.problem.may) new (0, 0) (λ k below.
    let inside : k < length added = omega (arith, below, length-enumerate_from farm.slots added) in
    let at : get_or new k (0, 0) ≡ (farm.slots + k, get_or added k 0) = get_or-enumerate_from farm.slots added k (0, 0) inside in
    omega (arith, ap (λ (w : ℕ × ℕ). w.1) at, machines k 0 inside)))

-- the slots of the added workers
new_live : (first slot : ℕ) (added : List ℕ) → first ≤ slot → list_any (λ worker. eqb worker.0 slot) (enumerate_from first added) ≡ ltb (slot - first) (length added)
new_live first slot added past =
    let new : List (ℕ × ℕ) = enumerate_from first added in
    elim (cases_lt (slot - first) (length added)) [
      | inl inside ↦
          let at : (get_or new (slot - first) (0, 0)).0 ≡ slot = ap (λ (w : ℕ × ℕ). w.0) (get_or-enumerate_from first added (slot - first) (0, 0) inside) ∙ omega (arith, past) in
          list_any_at (λ worker. eqb worker.0 slot) new (slot - first) (0, 0) (omega (arith, inside, length-enumerate_from first added)) (eq-eqb (get_or new (slot - first) (0, 0)).0 slot at) ∙ sym (lt-ltb (slot - first) (length added) inside)
      | inr above ↦
          list_any_none (λ worker. eqb worker.0 slot) new (All-from_get_or (λ (worker : ℕ × ℕ). eqb worker.0 slot ≡ false) new (0, 0) (λ k below.
          let inside : k < length added = omega (arith, below, length-enumerate_from first added) in
          ne_eqb (get_or new k (0, 0)).0 slot (λ same. omega (arith, same, above, inside, past, ap (λ (w : ℕ × ℕ). w.0) (get_or-enumerate_from first added k (0, 0) inside)))))
          ∙ sym (le-ltb (slot - first) (length added) above)
    ]

new_not : (first slot : ℕ) (added : List ℕ) → slot < first → list_any (λ worker. eqb worker.0 slot) (enumerate_from first added) ≡ false
new_not first slot added low =
    let new : List (ℕ × ℕ) = enumerate_from first added in
    list_any_none (λ worker. eqb worker.0 slot) new (All-from_get_or (λ (worker : ℕ × ℕ). eqb worker.0 slot ≡ false) new (0, 0) (λ k below.
    let inside : k < length added = omega (arith, below, length-enumerate_from first added) in
    ne_eqb (get_or new k (0, 0)).0 slot (λ same. omega (arith, same, low, ap (λ (w : ℕ × ℕ). w.0) (get_or-enumerate_from first added k (0, 0) inside)))))

or_first : (a b : Bool) → b ≡ false → (a || b) ≡ a
or_first true b none = refl
or_first false b none = none

-- who has a slot of the farm
pub live_below : (farm : Farm) (added : List ℕ) (slot : ℕ) → slot < farm.slots → list_any (λ worker. eqb worker.0 slot) (grown farm added).live ≡ list_any (λ worker. eqb worker.0 slot) farm.problem.live
live_below farm added slot low =
    list_any-append (λ worker. eqb worker.0 slot) farm.problem.live (enumerate_from farm.slots added)
    ∙ or_first (list_any (λ worker. eqb worker.0 slot) farm.problem.live) (list_any (λ worker. eqb worker.0 slot) (enumerate_from farm.slots added)) (new_not farm.slots slot added low)

-- who has a slot after them
pub live_above : (farm : Farm) (added : List ℕ) (slot : ℕ) → IsFarm farm → farm.slots ≤ slot → list_any (λ worker. eqb worker.0 slot) (grown farm added).live ≡ ltb (slot - farm.slots) (length added)
live_above farm added slot valid past =
    let test : ℕ × ℕ → Bool = λ worker. eqb worker.0 slot in
    let now : list_any test farm.problem.live ≡ false =
    list_any_none test farm.problem.live (All-from_get_or (λ worker. test worker ≡ false) farm.problem.live (0, 0) (λ k below. ne_eqb (get_or farm.problem.live k (0, 0)).0 slot (λ same. omega (arith, same, past, valid.slotted k (0, 0) below)))) in
    list_any-append test farm.problem.live (enumerate_from farm.slots added) ∙ ap (λ b. b || list_any test (enumerate_from farm.slots added)) now ∙ new_live farm.slots slot added past
