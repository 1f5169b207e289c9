-- the plan that is copied from the tables is shown
use Rattle.std.proofs.Common.{◌≡◌, ◌≢◌, ℕ, zero, suc, ◌+◌, ◌-◌, ◌<◌, ◌≤◌, Bool, true, false, cond, eqb, leb, ltb, ◌||◌, ◌&&◌, List, [], ◌∷◌, length, map, get_or, count_by, is_some, Option, None, Some, refl, sym, ap, ◌∙◌, subst, arith, inl, inr}
use Rattle.std.specs.List.{list_any, list_all, range_with_len}
use Rattle.std.specs.List.Sorted.{IsStrictlyIncreasing}
use Rattle.std.proofs.lemmas.Bool.{cases_Bool, cases_eq, eq-eqb, eqb-true, eqb-false, ne_eqb, le-leb, ltb-true, ltb-false, or_left, or_right, cond-true, cond-false}
use Rattle.std.proofs.lemmas.List.{get_or-map, length-map}
use Rattle.std.proofs.lemmas.List.Sums.{sum_by-cons, list_all-from_AllPass}
use Rattle.std.proofs.lemmas.List.Elements.{All-from_get_or}
use Rattle.std.proofs.lemmas.List.FromFn.{get_or-map-range_with_len, length-map-range_with_len}
use Rattle.plan_model.specs.Planning.{Instance, IsInstance, IsSound, IsShort, Assignment, assigned, functions, is_live, is_on, may_do, may_have, is_permitted, is_full, is_filled, meets_most, workers_on}
use Rattle.plan_model.specs.Shown.{IsShownPlan, IsEvidence}
use Rattle.plan_model.proofs.Reached.{needs-met, backlog-exact}
use Rattle.round_arena.specs.declared.tables.Tables.{Tables}
use Rattle.round_arena.specs.Plan.{count_on}
use Rattle.round_arena.specs.Round.{plan_entries, function_at}
use Rattle.round_arena.specs.Round as round
use Rattle.round_arena.proofs.Lists.{order-size}
use Rattle.round_arena.proofs.Ranges.{range-below}
use Rattle.round_arena.proofs.Seats.{rises, on-function}
use Rattle.level_search.specs.Filled.{IsFull}
use Rattle.level_search.specs.Levels.{Fits, AreMet}
use Rattle.level_search.specs.Answered.{evidence}

apart : (xs : List ℕ) → IsStrictlyIncreasing xs → (j k : ℕ) → j < k → k < length xs → get_or xs j 0 ≢ get_or xs k 0
apart xs h j k l m q = absurd (omega (arith, q, rises xs h j k l m))

-- a listed map gives each slot its own function
assigned-range : (slot : ℕ → ℕ) (function : ℕ → Option ℕ) (from many w : ℕ) → ((j k : ℕ) → j < k → k < from + many → slot j ≢ slot k) → from ≤ w → w < from + many
    → assigned (map (λ k. (slot k, function k)) (range_with_len from many)) (slot w) ≡ function w
assigned-range slot function from zero w distinct low high = absurd (omega arith)
assigned-range slot function from (suc many) w distinct low high = elim (cases_eq from w) [
  | inl q ↦
      let here : eqb (slot from) (slot w) ≡ true = eq-eqb (slot from) (slot w) (ap slot q) in
      cond-true (eqb (slot from) (slot w)) (function from) (assigned (map (λ k. (slot k, function k)) (range_with_len (from + 1) many)) (slot w)) here ∙ ap function q
  | inr ne ↦
      let other : eqb (slot from) (slot w) ≡ false = ne_eqb (slot from) (slot w) (distinct from w (omega (arith, ne)) high) in
      cond-false (eqb (slot from) (slot w)) (function from) (assigned (map (λ k. (slot k, function k)) (range_with_len (from + 1) many)) (slot w)) other
      ∙ assigned-range slot function (from + 1) many w (λ j k l m. distinct j k l (omega arith)) (omega (arith, ne)) (omega arith)
]

pub assigned-entries : (functions : ℕ) (slots owner : List ℕ) (w : ℕ) → IsStrictlyIncreasing slots → w < length slots → assigned (plan_entries functions slots owner) (get_or slots w 0) ≡ function_at functions (get_or owner w 0)
assigned-entries functions slots owner w h l =
    assigned-range (λ k. get_or slots k 0) (λ k. function_at functions (get_or owner k 0)) 0 (length slots) w (λ j k m n. apart slots h j k m (omega arith)) (omega arith) (omega arith)

-- counts that agree at each place
count_by-same : {X Y : Type 0} (p : X → Bool) (q : Y → Bool) (d : X) (e : Y) (xs : List X) (ys : List Y) → length xs ≡ length ys → ((k : ℕ) → k < length xs → p (get_or xs k d) ≡ q (get_or ys k e)) → count_by p xs ≡ count_by q ys
count_by-same p q d e [] [] s h = refl
count_by-same p q d e [] (y ∷ ys) s h = absurd (omega arith)
count_by-same p q d e (x ∷ xs) [] s h = absurd (omega arith)
count_by-same p q d e (x ∷ xs) (y ∷ ys) s h =
    let rest = count_by-same p q d e xs ys (omega arith) (λ k l. h (suc k) (omega arith)) in
    let here : cond (p x) 1 0 ≡ cond (q y) 1 0 = ap {B = ℕ} (λ b. cond b 1 0) (h 0 (omega arith)) in
    omega (arith, sum_by-cons (λ z. cond (p z) 1 0) x xs, sum_by-cons (λ z. cond (q z) 1 0) y ys, rest, here)

pub any-at : {X : Type 0} (p : X → Bool) (xs : List X) (d : X) (k : ℕ) → k < length xs → p (get_or xs k d) ≡ true → list_any p xs ≡ true
any-at p [] d k l h = absurd (omega arith)
any-at p (x ∷ xs) d zero l h = or_left (p x) (list_any p xs) h
any-at p (x ∷ xs) d (suc k) l h = or_right (p x) (list_any p xs) (any-at p xs d k (omega arith) h)

-- what the tables say of the plan that is copied from them
pub record Tells (i : Instance) (t : Tables) : Type 0 where
  pub sound : round.IsConsistent (length i.least) t
  pub fits : Fits i t
  pub slots : t.slot.now ≡ map (λ worker. worker.0) i.live

abbrev pub plan_of : Instance → Tables → List (ℕ × Option ℕ)
plan_of i t = plan_entries (length i.least) t.slot.now t.owner.now

-- as `round_arena` says it
pub plan_of-is : (i : Instance) (t : Tables) → Tells i t → round.plan_of t ≡ plan_of i t
plan_of-is i t h = ap (λ n. plan_entries n t.slot.now t.owner.now) (order-size (length i.least) t.order.now h.sound.order)

pub many : (i : Instance) (t : Tables) → Tells i t → length t.slot.now ≡ length i.live
many i t h = ap length h.slots ∙ length-map i.live (λ worker. worker.0)

slot-at : (i : Instance) (t : Tables) → Tells i t → (w : ℕ) → w < length i.live → (get_or i.live w (0, 0)).0 ≡ get_or t.slot.now w 0
slot-at i t h w l = sym (get_or-map (λ worker. worker.0) i.live w (0, 0) 0 l) ∙ sym (ap (λ z. get_or z w 0) h.slots)

pub machine-at : (i : Instance) (t : Tables) → Tells i t → (w : ℕ) → w < length i.live → (get_or i.live w (0, 0)).1 ≡ get_or t.machine.now w 0
machine-at i t h w l = sym (get_or-map (λ worker. worker.1) i.live w (0, 0) 0 l) ∙ sym (ap (λ z. get_or z w 0) h.fits.machines)

-- the plan gives each live worker what the tables have
pub plan-at : (i : Instance) (t : Tables) → Tells i t → (w : ℕ) → w < length i.live → assigned (plan_of i t) (get_or i.live w (0, 0)).0 ≡ function_at (length i.least) (get_or t.owner.now w 0)
plan-at i t h w l = ap (assigned (plan_of i t)) (slot-at i t h w l) ∙ assigned-entries (length i.least) t.slot.now t.owner.now w h.sound.rising (omega (arith, many i t h))

pub workers_on-is : (i : Instance) (t : Tables) → Tells i t → (f : ℕ) → f < length i.least → workers_on i (assigned (plan_of i t)) f ≡ count_on t.owner.now f
workers_on-is i t h f l =
    count_by-same (λ worker. is_on f (assigned (plan_of i t) worker.0)) (λ g. eqb g f) (0, 0) 0 i.live t.owner.now (omega (arith, many i t h, h.sound.slots))
    (λ k m. ap (is_on f) (plan-at i t h k m) ∙ on-function (length i.least) (get_or t.owner.now k 0) f l)

may_have-at : (i : Instance) (functions m o : ℕ) → (o < functions → may_do i m o ≡ true) → may_have i m (function_at functions o) ≡ true
may_have-at i functions m o h = elim (cases_Bool (ltb o functions)) [
  | inl busy ↦ ap (may_have i m) (cond-true (ltb o functions) (Some o) None busy) ∙ h (ltb-true o functions busy)
  | inr idle ↦ ap (may_have i m) (cond-false (ltb o functions) (Some o) None idle)
]

permitted-at : (i : Instance) (t : Tables) → Tells i t → (w : ℕ) → w < length i.live → get_or t.owner.now w 0 < length i.least → may_do i (get_or t.machine.now w 0) (get_or t.owner.now w 0) ≡ true
permitted-at i t h w l m =
    h.fits.holds.permitted w (get_or t.owner.now w 0) m (h.sound.assigned.permitted w (omega (arith, l, many i t h, h.sound.slots)) m)

pub is_permitted-plan : (i : Instance) (t : Tables) → Tells i t → is_permitted i (assigned (plan_of i t)) ≡ true
is_permitted-plan i t h =
    list_all-from_AllPass (λ worker. may_have i worker.1 (assigned (plan_of i t) worker.0)) i.live
    (All-from_get_or (λ worker. may_have i worker.1 (assigned (plan_of i t) worker.0) ≡ true) i.live (0, 0)
    (λ w l. ap (may_have i (get_or i.live w (0, 0)).1) (plan-at i t h w l) ∙ ap (λ m. may_have i m (function_at (length i.least) (get_or t.owner.now w 0))) (machine-at i t h w l)
    ∙ may_have-at i (length i.least) (get_or t.machine.now w 0) (get_or t.owner.now w 0) (permitted-at i t h w l)))

are_live-plan : (i : Instance) (t : Tables) → Tells i t → list_all (λ entry. is_live i entry.0) (plan_of i t) ≡ true
are_live-plan i t h =
    let none : ℕ × Option ℕ = (0, None) in
    let entry_at : ℕ → ℕ × Option ℕ = λ k. (get_or t.slot.now k 0, function_at (length i.least) (get_or t.owner.now k 0)) in
    let listed : ℕ × Option ℕ → Bool = λ entry. is_live i entry.0 in
    list_all-from_AllPass listed (plan_of i t)
    (All-from_get_or (λ entry. listed entry ≡ true) (plan_of i t) none
    (λ w l.
    let inside : w < length t.slot.now = omega (arith, l, length-map-range_with_len entry_at 0 (length t.slot.now)) in
    let here : get_or (plan_of i t) w none ≡ entry_at w = get_or-map-range_with_len entry_at 0 (length t.slot.now) w w none inside (omega arith) in
    let there : w < length i.live = omega (arith, inside, many i t h) in
    ap listed here
    ∙ any-at (λ worker. eqb worker.0 (get_or t.slot.now w 0)) i.live (0, 0) w there (eq-eqb (get_or i.live w (0, 0)).0 (get_or t.slot.now w 0) (slot-at i t h w there))))

-- no function has more than its greatest number
pub meets_most-plan : (i : Instance) (t : Tables) → Tells i t → meets_most i (assigned (plan_of i t)) ≡ true
meets_most-plan i t h =
    list_all-from_AllPass (λ f. leb (workers_on i (assigned (plan_of i t)) f) (get_or i.most f 0)) (functions i)
    (λ k d l.
    let below : get_or (functions i) k d < length i.least = range-below (length i.least) k d l in
    le-leb _ _ (omega (arith, workers_on-is i t h (get_or (functions i) k d) below, h.sound.within (get_or (functions i) k d) below, ap (λ m. get_or m (get_or (functions i) k d) 0) h.fits.most)))

-- what an idle worker may do is at its greatest number
idle-row : (i : Instance) (t : Tables) → IsInstance i → Tells i t → IsFull (length i.least) t → (w : ℕ) → w < length i.live → length i.least ≤ get_or t.owner.now w 0
    → list_all (is_filled i (assigned (plan_of i t))) (get_or i.may (get_or t.machine.now w 0) []) ≡ true
idle-row i t valid h full w l idle =
    let m : ℕ = get_or t.machine.now w 0 in
    let row : List ℕ = get_or i.may m [] in
    let known : m < length i.may = omega (arith, valid.machines w (0, 0) l, machine-at i t h w l) in
    list_all-from_AllPass (is_filled i (assigned (plan_of i t))) row
    (All-from_get_or (λ f. is_filled i (assigned (plan_of i t)) f ≡ true) row 0
    (λ k inside.
    let f : ℕ = get_or row k 0 in
    let below : f < length i.least = valid.within m [] known k 0 inside in
    let can : may_do i m f ≡ true = any-at (λ g. eqb g f) row 0 k inside (eq-eqb f f refl) in
    let pair = h.fits.holds.listed w f (omega (arith, l, many i t h, h.sound.slots, h.sound.staff)) below can in
    elim (full w f below pair) [
      | inl busy ↦ absurd (omega (arith, busy, idle))
      | inr filled ↦ le-leb _ _ (omega (arith, filled, workers_on-is i t h f below, ap (λ z. get_or z f 0) h.fits.most))
    ]))

full-at : (functions o : ℕ) (row : Bool) → (functions ≤ o → row ≡ true) → (is_some (function_at functions o) || row) ≡ true
full-at functions o row h = elim (cases_Bool (ltb o functions)) [
  | inl busy ↦ or_left (is_some (function_at functions o)) row (ap is_some (cond-true (ltb o functions) (Some o) None busy))
  | inr idle ↦ or_right (is_some (function_at functions o)) row (h (ltb-false o functions idle))
]

is_full-plan : (i : Instance) (t : Tables) → IsInstance i → Tells i t → IsFull (length i.least) t → is_full i (assigned (plan_of i t)) ≡ true
is_full-plan i t valid h full =
    let plan : Assignment = assigned (plan_of i t) in
    list_all-from_AllPass (λ worker. is_some (plan worker.0) || list_all (is_filled i plan) (get_or i.may worker.1 [])) i.live
    (All-from_get_or (λ worker. (is_some (plan worker.0) || list_all (is_filled i plan) (get_or i.may worker.1 [])) ≡ true) i.live (0, 0)
    (λ w l. ap (λ o. is_some o || list_all (is_filled i plan) (get_or i.may (get_or i.live w (0, 0)).1 [])) (plan-at i t h w l)
    ∙ ap (λ m. is_some (function_at (length i.least) (get_or t.owner.now w 0)) || list_all (is_filled i plan) (get_or i.may m [])) (machine-at i t h w l)
    ∙ full-at (length i.least) (get_or t.owner.now w 0) (list_all (is_filled i plan) (get_or i.may (get_or t.machine.now w 0) [])) (idle-row i t valid h full w l)))

both : (a b : Bool) → a ≡ true → b ≡ true → (a && b) ≡ true
both true b h k = k
both false b h k = h

is-evidence : (i : Instance) (level : ℕ) (set : List ℕ) → (0 < level → IsShort i (level - 1) set) → IsEvidence i level (evidence level set)
is-evidence i level set h = elim (cases_Bool (eqb level 0)) [
  | inl none ↦ subst (λ (z : Option (List ℕ)). IsEvidence i level z) (sym (cond-true (eqb level 0) None (Some set) none)) (eqb-true level 0 none)
  | inr some ↦
      let above : 0 < level = omega (arith, eqb-false level 0 some) in
      subst (λ (z : Option (List ℕ)). IsEvidence i level z) (sym (cond-false (eqb level 0) None (Some set) some)) (above, h above)
]

-- the plan of tables that meet the needs of a level, where a set is short one level below
pub shown-plan : (i : Instance) (t : Tables) (level : ℕ) (set : List ℕ) → IsInstance i → Tells i t → IsFull (length i.least) t → AreMet i t.owner.now level → (0 < level → IsShort i (level - 1) set)
    → IsShownPlan i (plan_entries (length i.least) t.slot.now t.owner.now) level (evidence level set)
shown-plan i t level set valid h full met short =
    let plan : Assignment = assigned (plan_of i t) in
    let reach = needs-met i plan level (λ f l. omega (arith, met f l, workers_on-is i t h f l)) in
    let permitted : is_permitted i plan ≡ true = is_permitted-plan i t h in
    let at_most = meets_most-plan i t h in
    let sound : IsSound i plan = record { permitted = permitted; enough = reach.0; at_most = at_most } in
    record {
      permitted = both (list_all (λ entry. is_live i entry.0) (plan_of i t)) (is_permitted i plan) (are_live-plan i t h) permitted;
      enough = reach.0;
      at_most = at_most;
      full = is_full-plan i t valid h full;
      exact = backlog-exact i plan level set sound reach.1 short;
      evidence = is-evidence i level set short;
    }
