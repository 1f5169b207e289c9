-- Where a function is at an obstacle no plan serves, and where none is each need can be met by an addition.
use Rattle.std.proofs.Common.{◌≡◌, ℕ, ◌<◌, ◌≤◌, Bool, true, false, not, cond, eqb, ltb, ◌&&◌, List, [], ◌∷◌, length, get_or, count_by, Option, None, Some, refl, sym, ap, ◌∙◌, arith, inl, inr}
use Rattle.std.specs.List.{AllByRecursion, list_any, range_with_len}
use Rattle.std.specs.Option.{option_or}
use Rattle.std.proofs.lemmas.Bool.{cases_Bool, cases_lt, ltb-true, ltb-false, lt-ltb, and_parts, false≢true, not-true, not_from_false, and_from, or_from}
use Rattle.std.proofs.lemmas.Option.{none-some, cond_some}
use Rattle.std.proofs.lemmas.List.{get_or_past}
use Rattle.std.proofs.lemmas.List.Elements.{recursion_from_All, All-from_recursion, All-get_or}
use Rattle.std.proofs.lemmas.List.FromFn.{length-range_with_len}
use Rattle.std.proofs.lemmas.List.Folds.{list_any_at}
use Rattle.std.proofs.lemmas.List.Sums.{sum_by-cons}
use Rattle.plan_model.specs.Planning.{Instance, Assignment, may_do, serves, workers_on}
use Rattle.plan_model.proofs.Hall.{workers_on_within}
use Rattle.plan_model.proofs.Ranges.{at_place, range-below}
use Rattle.plan_sizing.specs.Sizing.{Farm, IsFarm, Serves, first_obstacle, first_of, grown, is_known_to, need, obstacle_at}
use Rattle.plan_sizing.specs.declared.size.Obstacle.{Obstacle}
use Rattle.plan_sizing.specs.declared.size.Obstacle.TheVariants.{AboveMost, NoMachine}
use Rattle.plan_sizing.proofs.Serving.{met, bounded}

-- a function that is known to no machine
known_none : (i : Instance) (f : ℕ) → is_known_to i f ≡ false → (m : ℕ) → may_do i m f ≡ false
known_none i f none m = elim (cases_Bool (may_do i m f)) [
  | inr not_one ↦ not_one
  | inl one ↦ elim (cases_lt m (length i.may)) [
    | inl inside ↦
        let at : may_do i (get_or (range_with_len 0 (length i.may)) m 0) f ≡ true = ap (λ k. may_do i k f) (at_place (length i.may) m inside) ∙ one in
        absurd (false≢true (sym none ∙ list_any_at (λ machine. may_do i machine f) (range_with_len 0 (length i.may)) m 0 (omega (arith, inside, length-range_with_len 0 (length i.may))) at))
    | inr past ↦ ap (list_any (λ g. eqb g f)) (get_or_past i.may m [] past)
  ]
]

count_none : {X : Type 0} (p : X → Bool) (xs : List X) → ((x : X) → p x ≡ false) → count_by p xs ≡ 0
count_none p [] none = refl
count_none p (x ∷ xs) none =
    let here : cond (p x) 1 0 ≡ 0 = ap {B = ℕ} (λ b. cond b 1 0) (none x) in
    omega (arith, sum_by-cons (λ y. cond (p y) 1 0) x xs, here, count_none p xs none)

-- has nobody
nobody : (farm : Farm) (added : List ℕ) (plan : Assignment) (f : ℕ) → is_known_to farm.problem f ≡ false → Serves farm added plan → workers_on (grown farm added) plan f ≤ 0
nobody farm added plan f none s =
    let g = grown farm added in
    let reach = workers_on_within g plan (f ∷ []) (tt, tt) g.live s.sound.permitted in
    let no : (w : ℕ × ℕ) → serves g (f ∷ []) w.1 ≡ false = λ w. or_from (may_do g w.1 f) false (known_none farm.problem f none w.1) refl in
    omega (arith, reach, count_none (λ (w : ℕ × ℕ). serves g (f ∷ []) w.1) g.live no, sum_by-cons (workers_on g plan) f [])

-- a function at an obstacle cannot be served
unmet : (farm : Farm) (obstacle : Obstacle) (added : List ℕ) (plan : Assignment) (f : ℕ) → IsFarm farm → f < length farm.problem.least → obstacle_at farm f ≡ Some obstacle → Serves farm added plan → ⊥
unmet farm obstacle added plan f valid below at s =
    let enough = met farm added plan f valid s below in
    let few = bounded farm added plan f s below in
    let most : ℕ = get_or farm.problem.most f 0 in
    let other : Option Obstacle = cond (ltb 0 (need farm f) && not (is_known_to farm.problem f)) (Some (NoMachine f (need farm f))) None in
    elim (cases_Bool (ltb most (need farm f))) [
      | inl above ↦ absurd (omega (arith, enough, few, ltb-true most (need farm f) above))
      | inr within ↦
          let rest : other ≡ Some obstacle = sym (ap (λ b. cond b (Some (AboveMost f (need farm f) most)) other) within) ∙ at in
          let here = cond_some (ltb 0 (need farm f) && not (is_known_to farm.problem f)) (NoMachine f (need farm f)) obstacle rest in
          let both = and_parts (ltb 0 (need farm f)) (not (is_known_to farm.problem f)) here.0 in
          absurd (omega (arith, enough, ltb-true 0 (need farm f) both.0, nobody farm added plan f (not-true (is_known_to farm.problem f) both.1) s))
    ]

-- the function at which the first obstacle is
pub record FindsObstacle (farm : Farm) (n : ℕ) (obstacle : Obstacle) : Type 0 where
  pub function : ℕ
  pub below : function < n
  pub here : obstacle_at farm function ≡ Some obstacle

found : (farm : Farm) (n : ℕ) (obstacle : Obstacle) (fs : List ℕ) → AllByRecursion (λ f. f < n) fs → first_of farm fs ≡ Some obstacle → FindsObstacle farm n obstacle
found farm n obstacle [] below is = absurd (none-some obstacle is)
found farm n obstacle (f ∷ fs) below is = by (obstacle_at farm f) refl (found farm n obstacle fs below.1)
  where
    by : (o : Option Obstacle) → obstacle_at farm f ≡ o → (first_of farm fs ≡ Some obstacle → FindsObstacle farm n obstacle) → FindsObstacle farm n obstacle
    by None none later = later (sym (ap (λ o. option_or o (first_of farm fs)) none) ∙ is)
    by (Some first) some later = record { function = f; below = below.0; here = some ∙ (sym (ap (λ o. option_or o (first_of farm fs)) some) ∙ is) }

-- with an obstacle no addition serves
pub never_serves : (farm : Farm) (obstacle : Obstacle) (added : List ℕ) (plan : Assignment) → IsFarm farm → first_obstacle farm ≡ Some obstacle → Serves farm added plan → ⊥
never_serves farm obstacle added plan valid is s =
    let n : ℕ = length farm.problem.least in
    let at = found farm n obstacle (range_with_len 0 n) (recursion_from_All (λ f. f < n) (range_with_len 0 n) (range-below n)) is in
    unmet farm obstacle added plan at.function valid at.below at.here s

all_free : (farm : Farm) (fs : List ℕ) → first_of farm fs ≡ None → AllByRecursion (λ f. obstacle_at farm f ≡ None) fs
all_free farm [] none = tt
all_free farm (f ∷ fs) none = by (obstacle_at farm f) refl (all_free farm fs)
  where
    by : (o : Option Obstacle) → obstacle_at farm f ≡ o → (first_of farm fs ≡ None → AllByRecursion (λ f. obstacle_at farm f ≡ None) fs) → AllByRecursion (λ f. obstacle_at farm f ≡ None) (f ∷ fs)
    by None here later = (here, later (sym (ap (λ o. option_or o (first_of farm fs)) here) ∙ none))
    by (Some first) some later = absurd (none-some first (sym none ∙ ap (λ o. option_or o (first_of farm fs)) some))

-- a function whose need an addition can meet
pub record IsFree (farm : Farm) (f : ℕ) : Type 0 where
  pub within : need farm f ≤ get_or farm.problem.most f 0
  pub known : 0 < need farm f → is_known_to farm.problem f ≡ true

free_at : (farm : Farm) (f : ℕ) → obstacle_at farm f ≡ None → IsFree farm f
free_at farm f none =
    let most : ℕ = get_or farm.problem.most f 0 in
    let above : Option Obstacle = Some (AboveMost f (need farm f) most) in
    let other : Option Obstacle = cond (ltb 0 (need farm f) && not (is_known_to farm.problem f)) (Some (NoMachine f (need farm f))) None in
    elim (cases_Bool (ltb most (need farm f))) [
      | inl high ↦ absurd (none-some (AboveMost f (need farm f) most) (sym none ∙ ap (λ b. cond b above other) high))
      | inr low ↦ record {
        within = ltb-false most (need farm f) low;
        known = λ some. elim (cases_Bool (is_known_to farm.problem f)) [
          | inl one ↦ one
          | inr not_one ↦
              let test : (ltb 0 (need farm f) && not (is_known_to farm.problem f)) ≡ true = and_from (ltb 0 (need farm f)) (not (is_known_to farm.problem f)) (lt-ltb 0 (need farm f) some) (not_from_false (is_known_to farm.problem f) not_one) in
              absurd (none-some (NoMachine f (need farm f)) (sym none ∙ ap (λ b. cond b above other) low ∙ ap (λ b. cond b (Some (NoMachine f (need farm f))) None) test))
        ];
      }
    ]

-- without an obstacle each need can be met
pub free : (farm : Farm) → first_obstacle farm ≡ None → (f : ℕ) → f < length farm.problem.least → IsFree farm f
free farm none f below =
    let n : ℕ = length farm.problem.least in
    let all = All-from_recursion (λ g. obstacle_at farm g ≡ None) (range_with_len 0 n) (all_free farm (range_with_len 0 n) none) in
    let here : obstacle_at farm (get_or (range_with_len 0 n) f 0) ≡ None = All-get_or (λ g. obstacle_at farm g ≡ None) (range_with_len 0 n) f 0 (omega (arith, below, length-range_with_len 0 n)) all in
    free_at farm f (sym (ap (obstacle_at farm) (at_place n f below)) ∙ here)
