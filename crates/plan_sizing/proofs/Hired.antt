-- Workers that are added for the needs that are left, and the plan of the farm that has grown by them.
use Rattle.std.proofs.Common.{◌≡◌, ℕ, zero, suc, ◌+◌, ◌-◌, ◌<◌, ◌≤◌, Bool, true, cond, eqb, leb, ltb, List, [], ◌∷◌, ◌++◌, length, map, get_or, count_by, Option, None, Some, All, refl, sym, ap, ◌∙◌, subst, arith, inl, inr}
use Rattle.std.specs.List.{enumerate_from, list_all}
use Rattle.std.specs.List.Sorted.{IsStrictlyIncreasing}
use Rattle.std.proofs.lemmas.Bool.{cases_Bool, cases_lt, cond-true, cond-false, eq-eqb, le-leb, ltb-true, and_from}
use Rattle.std.proofs.lemmas.List.{ext_get_or, get_or-map, get_or-append_right, get_or_append_left, length-append, length-map}
use Rattle.std.proofs.lemmas.List.Elements.{All-from_get_or, All-map}
use Rattle.std.proofs.lemmas.List.Folds.{list_any_at}
use Rattle.std.proofs.lemmas.List.FromFn.{get_or-enumerate_from, get_or-map-range_with_len, length-enumerate_from, length-map-range_with_len}
use Rattle.std.proofs.lemmas.List.Sums.{list_all-from_AllPass, sum_by-append, sum_by-cons}
use Rattle.plan_model.specs.Planning.{Instance, assigned, is_live, is_on, is_permitted, may_do, may_have, meets_most, slots_of, workers_on}
use Rattle.plan_model.proofs.Places.{assigned_at}
use Rattle.round_arena.specs.declared.tables.Tables.{Tables}
use Rattle.round_arena.specs.Plan.{count_on}
use Rattle.round_arena.specs.Round.{function_at, plan_entries}
use Rattle.round_arena.proofs.Seats.{on-function}
use Rattle.augment.proofs.CutOff.{count_below}
use Rattle.plan_sizing.specs.Hiring.{AreHires, IsBestFor, IsPlaced, Leaves, hired_entries, lacks_now}
use Rattle.plan_sizing.specs.Shown.{IsPermitted, meets_needs}
use Rattle.plan_sizing.specs.Sizing.{Farm, IsFarm, grown, need}
use Rattle.plan_sizing.proofs.Barred.{IsFree}
use Rattle.plan_sizing.proofs.Grown.{added_at, length_grown}
use Rattle.plan_sizing.proofs.Serving.{of_functions}

-- the machines of the added workers
abbrev pub machines_of : List (ℕ × ℕ) → List ℕ
machines_of hires = map (λ hire. hire.0) hires

-- two tests that pass at the same places count alike
count_alike : {X Y : Type 0} (p : X → Bool) (q : Y → Bool) (d : X) (e : Y) (xs : List X) (ys : List Y) → length xs ≡ length ys
    → ((k : ℕ) → k < length xs → p (get_or xs k d) ≡ q (get_or ys k e)) → count_by p xs ≡ count_by q ys
count_alike p q d e xs ys size same =
    omega (
      arith,
      count_below p q d e xs ys size (λ k l t. sym (same k l) ∙ t),
      count_below q p e d ys xs (sym size) (λ k l t. same k (omega (arith, l, size)) ∙ t),
    )

-- the entries of the added workers
pub length_hired : (first : ℕ) (hires : List (ℕ × ℕ)) → length (hired_entries first hires) ≡ length hires
length_hired first [] = refl
length_hired first (h ∷ hs) = omega (arith, length_hired (first + 1) hs)

pub hired_at : (first : ℕ) (hires : List (ℕ × ℕ)) (k : ℕ) → k < length hires → get_or (hired_entries first hires) k (0, None) ≡ (first + k, Some (get_or hires k (0, 0)).1)
hired_at first [] k below = absurd (omega (arith, below))
hired_at first (h ∷ hs) zero below = (let same : first ≡ first + 0 = omega arith in ap (λ (s : ℕ). (s, Some h.1)) same)
hired_at first (h ∷ hs) (suc k) below = (let same : first + 1 + k ≡ first + suc k = omega arith in hired_at (first + 1) hs k (omega (arith, below)) ∙ ap (λ (s : ℕ). (s, Some (get_or hs k (0, 0)).1)) same)

hired_slots : (first : ℕ) (hires : List (ℕ × ℕ)) → slots_of (hired_entries first hires) ≡ map (λ worker. worker.0) (enumerate_from first (machines_of hires))
hired_slots first [] = refl
hired_slots first (h ∷ hs) = ap (λ slots. first ∷ slots) (hired_slots (first + 1) hs)

hired_on : (first f : ℕ) (hires : List (ℕ × ℕ)) → count_by (λ entry. is_on f entry.1) (hired_entries first hires) ≡ count_by (λ hire. eqb hire.1 f) hires
hired_on first f [] = refl
hired_on first f (h ∷ hs) =
    omega (arith, sum_by-cons (λ (e : ℕ × Option ℕ). cond (is_on f e.1) 1 0) (first, Some h.1) (hired_entries (first + 1) hs), sum_by-cons (λ (e : ℕ × ℕ). cond (eqb e.1 f) 1 0) h hs, hired_on (first + 1) f hs)

-- slots that rise go on rising after them
pub rises_on : (entries : List (ℕ × Option ℕ)) (first : ℕ) (hires : List (ℕ × ℕ)) → IsStrictlyIncreasing (slots_of entries) → All (λ entry. entry.0 < first) entries → IsStrictlyIncreasing (slots_of (entries ++ hired_entries first hires))
rises_on entries first hires up below k inside =
    let n : ℕ = length entries in
    let all : List (ℕ × Option ℕ) = entries ++ hired_entries first hires in
    let size : length all ≡ n + length hires = omega (arith, length-append entries (hired_entries first hires), length_hired first hires) in
    let within : k + 1 < length all = omega (arith, inside, length-map all (λ (e : ℕ × Option ℕ). e.0)) in
    let here : get_or (slots_of all) k 0 ≡ (get_or all k (0, None)).0 = get_or-map (λ (e : ℕ × Option ℕ). e.0) all k (0, None) 0 (omega (arith, within)) in
    let next : get_or (slots_of all) (k + 1) 0 ≡ (get_or all (k + 1) (0, None)).0 = get_or-map (λ (e : ℕ × Option ℕ). e.0) all (k + 1) (0, None) 0 within in
    elim (cases_lt (k + 1) n) [
      | inl low ↦
          let old_here = get_or_append_left entries (hired_entries first hires) (0, None) k (omega (arith, low)) in
          let old_next = get_or_append_left entries (hired_entries first hires) (0, None) (k + 1) low in
          let step = up k (omega (arith, low, length-map entries (λ (e : ℕ × Option ℕ). e.0))) in
          omega (arith, here, next, ap (λ (e : ℕ × Option ℕ). e.0) old_here, ap (λ (e : ℕ × Option ℕ). e.0) old_next, step, get_or-map (λ (e : ℕ × Option ℕ). e.0) entries k (0, None) 0 (omega (arith, low)), get_or-map (λ (e : ℕ × Option ℕ). e.0) entries (k + 1) (0, None) 0 low)
      | inr high ↦
          let new_next : get_or all (k + 1) (0, None) ≡ (first + (k + 1 - n), Some (get_or hires (k + 1 - n) (0, 0)).1) =
          get_or-append_right entries (hired_entries first hires) n (k + 1) (0, None) refl high ∙ hired_at first hires (k + 1 - n) (omega (arith, within, size, high)) in
          elim (cases_lt k n) [
            | inl low ↦
                let old_here = get_or_append_left entries (hired_entries first hires) (0, None) k low in
                omega (arith, here, next, ap (λ (e : ℕ × Option ℕ). e.0) old_here, ap (λ (e : ℕ × Option ℕ). e.0) new_next, below k (0, None) low)
            | inr past ↦
                let new_here : get_or all k (0, None) ≡ (first + (k - n), Some (get_or hires (k - n) (0, 0)).1) =
                get_or-append_right entries (hired_entries first hires) n k (0, None) refl past ∙ hired_at first hires (k - n) (omega (arith, within, size, past)) in
                omega (arith, here, next, ap (λ (e : ℕ × Option ℕ). e.0) new_here, ap (λ (e : ℕ × Option ℕ). e.0) new_next, past)
          ]
    ]

module _ (farm : Farm) (t : Tables) (lacks : List ℕ) (hires : List (ℕ × ℕ)) (valid : IsFarm farm) (left : Leaves farm t lacks) (added : AreHires farm.problem lacks hires) where
  abbrev many_functions : ℕ
  many_functions = length farm.problem.least

  -- the live workers and the added ones
  abbrev everyone : List (ℕ × ℕ)
  everyone = (grown farm (machines_of hires)).live

  -- what the live workers do, and what all do
  abbrev now : List (ℕ × Option ℕ)
  now = plan_entries many_functions t.slot.now t.owner.now

  abbrev entries : List (ℕ × Option ℕ)
  entries = now ++ hired_entries farm.slots hires

  many_now : length now ≡ length farm.problem.live
  many_now = length-map-range_with_len (λ w. (get_or t.slot.now w 0, function_at many_functions (get_or t.owner.now w 0))) 0 (length t.slot.now) ∙ ap length left.slots ∙ length-map farm.problem.live (λ (w : ℕ × ℕ). w.0)

  many_owners : length t.owner.now ≡ length farm.problem.live
  many_owners = sym left.sound.slots ∙ ap length left.slots ∙ length-map farm.problem.live (λ (w : ℕ × ℕ). w.0)

  many_entries : length entries ≡ length everyone
  many_entries = omega (arith, length-append now (hired_entries farm.slots hires), many_now, length_hired farm.slots hires, length_grown farm (machines_of hires), length-map hires (λ (h : ℕ × ℕ). h.0))

  -- a live worker
  now_at : (k : ℕ) → k < length farm.problem.live → get_or entries k (0, None) ≡ (get_or t.slot.now k 0, function_at many_functions (get_or t.owner.now k 0))
  now_at k below =
      get_or_append_left now (hired_entries farm.slots hires) (0, None) k (omega (arith, below, many_now))
      ∙ get_or-map-range_with_len (λ w. (get_or t.slot.now w 0, function_at many_functions (get_or t.owner.now w 0))) 0 (length t.slot.now) k k (0, None) (omega (arith, below, left.sound.slots, many_owners)) (omega arith)

  live_at : (k : ℕ) → k < length farm.problem.live → get_or everyone k (0, 0) ≡ get_or farm.problem.live k (0, 0)
  live_at k below = get_or_append_left farm.problem.live (enumerate_from farm.slots (machines_of hires)) (0, 0) k below

  slot_at : (k : ℕ) → k < length farm.problem.live → (get_or farm.problem.live k (0, 0)).0 ≡ get_or t.slot.now k 0
  slot_at k below = sym (get_or-map (λ (w : ℕ × ℕ). w.0) farm.problem.live k (0, 0) 0 below) ∙ sym (ap (λ s. get_or s k 0) left.slots)

  machine_at : (k : ℕ) → k < length farm.problem.live → (get_or farm.problem.live k (0, 0)).1 ≡ get_or t.machine.now k 0
  machine_at k below = sym (get_or-map (λ (w : ℕ × ℕ). w.1) farm.problem.live k (0, 0) 0 below) ∙ sym (ap (λ s. get_or s k 0) left.machines)

  -- an added worker
  new_at : (k : ℕ) → length farm.problem.live ≤ k → k < length everyone → get_or entries k (0, None) ≡ (farm.slots + (k - length farm.problem.live), Some (get_or hires (k - length farm.problem.live) (0, 0)).1)
  new_at k past below =
      get_or-append_right now (hired_entries farm.slots hires) (length farm.problem.live) k (0, None) many_now past
      ∙ hired_at farm.slots hires (k - length farm.problem.live) (omega (arith, past, below, length_grown farm (machines_of hires), length-map hires (λ (h : ℕ × ℕ). h.0)))

  added_worker : (k : ℕ) → length farm.problem.live ≤ k → k < length everyone → get_or everyone k (0, 0) ≡ (farm.slots + (k - length farm.problem.live), (get_or hires (k - length farm.problem.live) (0, 0)).0)
  added_worker k past below =
      let inside : k - length farm.problem.live < length hires = omega (arith, past, below, length_grown farm (machines_of hires), length-map hires (λ (h : ℕ × ℕ). h.0)) in
      added_at farm (machines_of hires) k past (omega (arith, below, length_grown farm (machines_of hires)))
      ∙ ap (λ (m : ℕ). (farm.slots + (k - length farm.problem.live), m)) (get_or-map (λ (h : ℕ × ℕ). h.0) hires (k - length farm.problem.live) (0, 0) 0 inside)

  -- the entries are those of the workers, in order
  same_slot : (k : ℕ) → k < length everyone → (get_or entries k (0, None)).0 ≡ (get_or everyone k (0, 0)).0
  same_slot k below = elim (cases_lt k (length farm.problem.live)) [
    | inl low ↦ ap (λ (e : ℕ × Option ℕ). e.0) (now_at k low) ∙ sym (slot_at k low) ∙ sym (ap (λ (w : ℕ × ℕ). w.0) (live_at k low))
    | inr past ↦ ap (λ (e : ℕ × Option ℕ). e.0) (new_at k past below) ∙ sym (ap (λ (w : ℕ × ℕ). w.0) (added_worker k past below))
  ]

  now_rises : IsStrictlyIncreasing (slots_of now)
  now_rises k below =
      let size : k + 1 < length farm.problem.live = omega (arith, below, length-map now (λ (e : ℕ × Option ℕ). e.0), many_now) in
      let at : (j : ℕ) → j < length farm.problem.live → get_or (slots_of now) j 0 ≡ get_or t.slot.now j 0 =
      λ j low.
      get_or-map (λ (e : ℕ × Option ℕ). e.0) now j (0, None) 0 (omega (arith, low, many_now))
      ∙ ap (λ (e : ℕ × Option ℕ). e.0) (get_or-map-range_with_len (λ w. (get_or t.slot.now w 0, function_at many_functions (get_or t.owner.now w 0))) 0 (length t.slot.now) j j (0, None) (omega (arith, low, left.sound.slots, many_owners)) (omega arith)) in
      omega (arith, at k (omega (arith, size)), at (k + 1) size, left.sound.rising k (omega (arith, size, left.sound.slots, many_owners)))

  pub now_below : All (λ entry. entry.0 < farm.slots) now
  now_below = All-from_get_or (λ entry. entry.0 < farm.slots) now (0, None) (λ k below.
      let low : k < length farm.problem.live = omega (arith, below, many_now) in
      let at : get_or now k (0, None) ≡ (get_or t.slot.now k 0, function_at many_functions (get_or t.owner.now k 0)) = get_or-map-range_with_len (λ w. (get_or t.slot.now w 0, function_at many_functions (get_or t.owner.now w 0))) 0 (length t.slot.now) k k (0, None) (omega (arith, low, left.sound.slots, many_owners)) (omega arith) in
      omega (arith, ap (λ (e : ℕ × Option ℕ). e.0) at, slot_at k low, valid.slotted k (0, 0) low))

  rises_all : IsStrictlyIncreasing (slots_of entries)
  rises_all = rises_on now farm.slots hires now_rises now_below

  -- each worker has what its entry says
  plan_at : (k : ℕ) → k < length everyone → assigned entries (get_or everyone k (0, 0)).0 ≡ (get_or entries k (0, None)).1
  plan_at k below =
      let inside : k < length entries = omega (arith, below, many_entries) in
      assigned_at entries rises_all (get_or everyone k (0, 0)).0 k (0, None) inside (get_or-map (λ (e : ℕ × Option ℕ). e.0) entries k (0, None) 0 inside ∙ same_slot k below)

  -- each function has just what it needs
  pub all_met : (f : ℕ) → f < length farm.problem.least → workers_on (grown farm (machines_of hires)) (assigned entries) f ≡ need farm f
  all_met f below =
      let on_entry : ℕ × Option ℕ → Bool = λ entry. is_on f entry.1 in
      let all : workers_on (grown farm (machines_of hires)) (assigned entries) f ≡ count_by on_entry entries =
      count_alike (λ (w : ℕ × ℕ). is_on f (assigned entries w.0)) on_entry (0, 0) (0, None) everyone entries (sym many_entries) (λ k l. ap (is_on f) (plan_at k l)) in
      let split : count_by on_entry entries ≡ count_by on_entry now + count_by on_entry (hired_entries farm.slots hires) = sum_by-append (λ (e : ℕ × Option ℕ). cond (on_entry e) 1 0) now (hired_entries farm.slots hires) in
      let live : count_by on_entry now ≡ count_on t.owner.now f =
      count_alike on_entry (λ g. eqb g f) (0, None) 0 now t.owner.now (omega (arith, many_now, many_owners))
      (λ k l. ap on_entry (get_or-map-range_with_len (λ w. (get_or t.slot.now w 0, function_at many_functions (get_or t.owner.now w 0))) 0 (length t.slot.now) k k (0, None) (omega (arith, l, many_now, left.sound.slots, many_owners)) (omega arith)) ∙ on-function many_functions (get_or t.owner.now k 0) f below) in
      omega (arith, all, split, live, hired_on farm.slots f hires, added.counts f (omega (arith, below, left.many)), left.lacking f below, left.within f below)

  may_at : (o m : ℕ) → (o < many_functions → may_do farm.problem m o ≡ true) → may_have farm.problem m (function_at many_functions o) ≡ true
  may_at o m can = elim (cases_Bool (ltb o many_functions)) [
    | inl busy ↦ ap (may_have farm.problem m) (cond-true (ltb o many_functions) (Some o) None busy) ∙ can (ltb-true o many_functions busy)
    | inr idle ↦ ap (may_have farm.problem m) (cond-false (ltb o many_functions) (Some o) None idle)
  ]

  one_permitted : (k : ℕ) → k < length everyone → may_have farm.problem (get_or everyone k (0, 0)).1 (assigned entries (get_or everyone k (0, 0)).0) ≡ true
  one_permitted k below = elim (cases_lt k (length farm.problem.live)) [
    | inl low ↦
        let machine : (get_or everyone k (0, 0)).1 ≡ get_or t.machine.now k 0 = ap (λ (w : ℕ × ℕ). w.1) (live_at k low) ∙ machine_at k low in
        let has : assigned entries (get_or everyone k (0, 0)).0 ≡ function_at many_functions (get_or t.owner.now k 0) = plan_at k below ∙ ap (λ (e : ℕ × Option ℕ). e.1) (now_at k low) in
        ap (λ m. may_have farm.problem m (assigned entries (get_or everyone k (0, 0)).0)) machine ∙ ap (may_have farm.problem (get_or t.machine.now k 0)) has
        ∙ may_at (get_or t.owner.now k 0) (get_or t.machine.now k 0)
        (λ busy. left.holds.permitted k (get_or t.owner.now k 0) busy (left.sound.assigned.permitted k (omega (arith, low, many_owners)) busy))
    | inr past ↦
        let j : ℕ = k - length farm.problem.live in
        let inside : j < length hires = omega (arith, past, below, length_grown farm (machines_of hires), length-map hires (λ (h : ℕ × ℕ). h.0)) in
        let machine : (get_or everyone k (0, 0)).1 ≡ (get_or hires j (0, 0)).0 = ap (λ (w : ℕ × ℕ). w.1) (added_worker k past below) in
        let has : assigned entries (get_or everyone k (0, 0)).0 ≡ Some (get_or hires j (0, 0)).1 = plan_at k below ∙ ap (λ (e : ℕ × Option ℕ). e.1) (new_at k past below) in
        ap (λ m. may_have farm.problem m (assigned entries (get_or everyone k (0, 0)).0)) machine ∙ ap (may_have farm.problem (get_or hires j (0, 0)).0) has ∙ (added.placed j (0, 0) inside).permitted
  ]

  pub all_permitted : IsPermitted farm (machines_of hires) entries
  all_permitted =
      let g : Instance = grown farm (machines_of hires) in
      record {
        machines = All-map (λ m. m < length farm.problem.may) (λ (h : ℕ × ℕ). h.0) hires (λ k d below. (added.placed k d below).known);
        plan = and_from (list_all (λ entry. is_live g entry.0) entries) (is_permitted g (assigned entries))
            (list_all-from_AllPass (λ (entry : ℕ × Option ℕ). is_live g entry.0) entries (All-from_get_or (λ (entry : ℕ × Option ℕ). is_live g entry.0 ≡ true) entries (0, None) (λ k below.
            let inside : k < length everyone = omega (arith, below, many_entries) in
            list_any_at (λ (w : ℕ × ℕ). eqb w.0 (get_or entries k (0, None)).0) everyone k (0, 0) inside (eq-eqb (get_or everyone k (0, 0)).0 (get_or entries k (0, None)).0 (sym (same_slot k inside))))))
            (list_all-from_AllPass (λ (w : ℕ × ℕ). may_have g w.1 (assigned entries w.0)) everyone (All-from_get_or (λ (w : ℕ × ℕ). may_have g w.1 (assigned entries w.0) ≡ true) everyone (0, 0) one_permitted));
      }

  pub all_needs : meets_needs farm (machines_of hires) (assigned entries) ≡ true
  all_needs = of_functions (λ f. leb (need farm f) (workers_on (grown farm (machines_of hires)) (assigned entries) f)) many_functions (λ f below. le-leb _ _ (omega (arith, all_met f below)))

  pub all_bounded : ((f : ℕ) → f < length farm.problem.least → IsFree farm f) → meets_most (grown farm (machines_of hires)) (assigned entries) ≡ true
  all_bounded free = of_functions (λ f. leb (workers_on (grown farm (machines_of hires)) (assigned entries) f) (get_or farm.problem.most f 0)) many_functions (λ f below. le-leb _ _ (omega (arith, all_met f below, (free f below).within)))

  -- the live workers on a function
  live_on : (f : ℕ) → f < length farm.problem.least → workers_on farm.problem (assigned entries) f ≡ count_on t.owner.now f
  live_on f below =
      count_alike (λ (w : ℕ × ℕ). is_on f (assigned entries w.0)) (λ g. eqb g f) (0, 0) 0 farm.problem.live t.owner.now (sym many_owners) each
    where
      each : (k : ℕ) → k < length farm.problem.live → is_on f (assigned entries (get_or farm.problem.live k (0, 0)).0) ≡ eqb (get_or t.owner.now k 0) f
      each k low =
          let there : k < length everyone = omega (arith, low, length_grown farm (machines_of hires)) in
          let has : assigned entries (get_or farm.problem.live k (0, 0)).0 ≡ function_at many_functions (get_or t.owner.now k 0) =
          ap (λ (w : ℕ × ℕ). assigned entries w.0) (sym (live_at k low)) ∙ plan_at k there ∙ ap (λ (e : ℕ × Option ℕ). e.1) (now_at k low) in
          ap (is_on f) has ∙ on-function many_functions (get_or t.owner.now k 0) f below

  -- what the functions lack, by the plan of all
  lacks_are : lacks ≡ lacks_now farm (assigned entries)
  lacks_are = ext_get_or 0 lacks (lacks_now farm (assigned entries)) (left.many ∙ sym (length-map-range_with_len (λ f. need farm f - workers_on farm.problem (assigned entries) f) 0 many_functions)) each
    where
      each : (f : ℕ) → f < length lacks → get_or lacks f 0 ≡ get_or (lacks_now farm (assigned entries)) f 0
      each f inside =
          let below : f < many_functions = omega (arith, inside, left.many) in
          omega (
            arith,
            left.lacking f below,
            live_on f below,
            get_or-map-range_with_len (λ f. need farm f - workers_on farm.problem (assigned entries) f) 0 many_functions f f 0 below (omega arith),
          )

  one_placed : (k : ℕ) → k < length hires → IsPlaced farm (assigned entries) (farm.slots + k, (get_or hires k (0, 0)).0)
  one_placed k inside =
      let n : ℕ = length farm.problem.live in
      let f : ℕ = (get_or hires k (0, 0)).1 in
      let past : n ≤ n + k = omega arith in
      let there : n + k < length everyone = omega (arith, inside, length_grown farm (machines_of hires), length-map hires (λ (h : ℕ × ℕ). h.0)) in
      let place : n + k - n ≡ k = omega arith in
      let slot : (get_or everyone (n + k) (0, 0)).0 ≡ farm.slots + k = ap (λ (w : ℕ × ℕ). w.0) (added_worker (n + k) past there) ∙ ap (λ j. farm.slots + j) place in
      let has : assigned entries (farm.slots + k) ≡ Some f =
      ap (assigned entries) (sym slot) ∙ plan_at (n + k) there ∙ ap (λ (e : ℕ × Option ℕ). e.1) (new_at (n + k) past there) ∙ ap (λ j. Some (get_or hires j (0, 0)).1) place in
      (f, has, subst (λ (ls : List ℕ). IsBestFor farm.problem ls f (get_or hires k (0, 0)).0) lacks_are (added.placed k (0, 0) inside))

  pub all_placed : All (IsPlaced farm (assigned entries)) (enumerate_from farm.slots (machines_of hires))
  all_placed = All-from_get_or (IsPlaced farm (assigned entries)) (enumerate_from farm.slots (machines_of hires)) (0, 0) (λ k below.
      let inside : k < length hires = omega (arith, below, length-enumerate_from farm.slots (machines_of hires), length-map hires (λ (h : ℕ × ℕ). h.0)) in
      let here : get_or (enumerate_from farm.slots (machines_of hires)) k (0, 0) ≡ (farm.slots + k, (get_or hires k (0, 0)).0) =
      get_or-enumerate_from farm.slots (machines_of hires) k (0, 0) (omega (arith, inside, length-map hires (λ (h : ℕ × ℕ). h.0)))
      ∙ ap (λ (m : ℕ). (farm.slots + k, m)) (get_or-map (λ (h : ℕ × ℕ). h.0) hires k (0, 0) 0 inside) in
      subst (IsPlaced farm (assigned entries)) (sym here) (one_placed k inside))
