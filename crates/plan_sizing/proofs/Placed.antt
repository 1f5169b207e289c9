-- The machines of the added workers, and how many are added for each function.
use Rattle.std.proofs.Common.{◌≡◌, ℕ, zero, suc, ◌+◌, ◌<◌, ◌≤◌, true, false, cond, eqb, List, [], ◌++◌, length, get_or, take, replicate, count_by, Option, None, Some, IfNone, IfSome, All, refl, sym, ap, ◌∙◌, subst, arith, inl, inr}
use Rattle.std.specs.Prelude.{sum}
use Rattle.std.specs.List.{range_with_len}
use Rattle.std.specs.List.Sorted.{IsNonDecreasingBy, IsPermutation}
use Rattle.std.proofs.lemmas.Bool.{cases_eq, eq-eqb, ne_eqb, false≢true}
use Rattle.std.proofs.lemmas.List.{get_or-map, length-append, length-map, length-replicate, take_all}
use Rattle.std.proofs.lemmas.List.Elements.{All-append, All-from_get_or, All-nil, All-replicate}
use Rattle.std.proofs.lemmas.List.Folds.{list_any_none}
use Rattle.std.proofs.lemmas.List.FromFn.{length-range_with_len}
use Rattle.std.proofs.lemmas.List.Sorted.{All-permutation, length_permutation, sum_by-IsPermutation}
use Rattle.std.proofs.lemmas.List.Sums.{sum_by-append, sum_by-cons, sum_by_more}
use Rattle.plan_model.specs.Planning.{Instance, may_do}
use Rattle.plan_model.proofs.Ranges.{at_place}
use Rattle.plan_sizing.specs.Hiring.{Adds, AreHires, AreInOrder, AreScores, IsBestBelow, IsBestFor}
use Rattle.plan_sizing.specs.Sizing.{is_known_to}

-- the next machine is better than those before
pub best_next : (i : Instance) (scores : List ℕ) (f k : ℕ) (best : Option ℕ) → IsBestBelow i scores f k best → may_do i k f ≡ true → IfSome best (λ b. get_or scores b 0 < get_or scores k 0) → IsBestBelow i scores f (k + 1) (Some k)
best_next i scores f k None h may better = (omega arith, may, λ m below can. at_or m below can)
  where
    at_or : (m : ℕ) → m < k + 1 → may_do i m f ≡ true → get_or scores m 0 ≤ get_or scores k 0
    at_or m below can = elim (cases_eq m k) [
      | inl same ↦ omega (arith, ap (λ j. get_or scores j 0) same)
      | inr other ↦ absurd (false≢true (sym (h m (omega (arith, below, other))) ∙ can))
    ]
best_next i scores f k (Some b) h may better = (omega arith, may, λ m below can. at_or m below can)
  where
    at_or : (m : ℕ) → m < k + 1 → may_do i m f ≡ true → get_or scores m 0 ≤ get_or scores k 0
    at_or m below can = elim (cases_eq m k) [
      | inl same ↦ omega (arith, ap (λ j. get_or scores j 0) same)
      | inr other ↦ omega (arith, h.2 m (omega (arith, below, other)) can, better)
    ]

-- it is not
pub best_stays : (i : Instance) (scores : List ℕ) (f k : ℕ) (best : Option ℕ) → IsBestBelow i scores f k best → IfNone best (may_do i k f ≡ false) → IfSome best (λ b. may_do i k f ≡ true → get_or scores k 0 ≤ get_or scores b 0) → IsBestBelow i scores f (k + 1) best
best_stays i scores f k None h none some = λ m below. elim (cases_eq m k) [
  | inl same ↦ ap (λ j. may_do i j f) same ∙ none
  | inr other ↦ h m (omega (arith, below, other))
]
best_stays i scores f k (Some b) h none some = (omega (arith, h.0), h.1, λ m below can. at_or m below can)
  where
    at_or : (m : ℕ) → m < k + 1 → may_do i m f ≡ true → get_or scores m 0 ≤ get_or scores b 0
    at_or m below can = elim (cases_eq m k) [
      | inl same ↦ omega (arith, ap (λ j. get_or scores j 0) same, some (ap (λ j. may_do i j f) (sym same) ∙ can))
      | inr other ↦ h.2 m (omega (arith, below, other)) can
    ]

-- where no machine is the best, none may do the function
pub none_known : (i : Instance) (scores : List ℕ) (f : ℕ) → IsBestBelow i scores f (length i.may) None → is_known_to i f ≡ false
none_known i scores f h =
    list_any_none (λ machine. may_do i machine f) (range_with_len 0 (length i.may)) (All-from_get_or (λ machine. may_do i machine f ≡ false) (range_with_len 0 (length i.may)) 0 (λ k below.
    let inside : k < length i.may = omega (arith, below, length-range_with_len 0 (length i.may)) in
    ap (λ m. may_do i m f) (at_place (length i.may) k inside) ∙ h k inside))

-- and a best one is best by the functions that lack workers
pub best_for : (i : Instance) (lacks scores : List ℕ) (f machine : ℕ) → AreScores i lacks scores → IsBestBelow i scores f (length i.may) (Some machine) → IsBestFor i lacks f machine
best_for i lacks scores f machine scored h = record {
  known = h.0;
  permitted = h.1;
  best = λ other below can. omega (arith, h.2 other below can, scored.each other below, scored.each machine h.0);
}

-- workers for the functions below a number
pub record AreHiresBelow (i : Instance) (lacks : List ℕ) (end : ℕ) (hires : List (ℕ × ℕ)) : Type 0 where
  pub placed : All (λ hire. IsBestFor i lacks hire.1 hire.0) hires
  pub counts : (f : ℕ) → f < end → count_by (λ hire. eqb hire.1 f) hires ≡ get_or lacks f 0
  pub later : (f : ℕ) → end ≤ f → count_by (λ hire. eqb hire.1 f) hires ≡ 0
  pub many : length hires ≡ sum (take end lacks)

pub hires_none : (i : Instance) (lacks : List ℕ) → AreHiresBelow i lacks 0 []
hires_none i lacks = record { placed = All-nil (λ hire. IsBestFor i lacks hire.1 hire.0); counts = λ f below. absurd (omega (arith, below)); later = λ f past. refl; many = refl }

count_same : (k m f : ℕ) → count_by (λ (hire : ℕ × ℕ). eqb hire.1 f) (replicate k (m, f)) ≡ k
count_same zero m f = refl
count_same (suc k) m f =
    let here : cond (eqb f f) 1 0 ≡ 1 = ap {B = ℕ} (λ b. cond b 1 0) (eq-eqb f f refl) in
    omega (arith, sum_by-cons (λ (hire : ℕ × ℕ). cond (eqb hire.1 f) 1 0) (m, f) (replicate k (m, f)), here, count_same k m f)

count_other : (k m n f : ℕ) → (n ≡ f → ⊥) → count_by (λ (hire : ℕ × ℕ). eqb hire.1 f) (replicate k (m, n)) ≡ 0
count_other zero m n f other = refl
count_other (suc k) m n f other =
    let here : cond (eqb n f) 1 0 ≡ 0 = ap {B = ℕ} (λ b. cond b 1 0) (ne_eqb n f other) in
    omega (arith, sum_by-cons (λ (hire : ℕ × ℕ). cond (eqb hire.1 f) 1 0) (m, n) (replicate k (m, n)), here, count_other k m n f other)

all_equal : {X : Type 0} (P : X → Type 0) (k : ℕ) (x : X) → (0 < k → P x) → All P (replicate k x)
all_equal P zero x h = All-nil P
all_equal P (suc k) x h = All-replicate P (suc k) x (h (omega arith))

-- those for one function more
pub hires_next : (i : Instance) (lacks : List ℕ) (n : ℕ) (hires new : List (ℕ × ℕ)) → AreHiresBelow i lacks n hires → n < length lacks → Adds i lacks n (get_or lacks n 0) hires new → AreHiresBelow i lacks (n + 1) new
hires_next i lacks n hires new h below adds =
    let k : ℕ = get_or lacks n 0 in
    let one : ℕ × ℕ = (adds.machine, n) in
    let more : List (ℕ × ℕ) = replicate k one in
    let split : (f : ℕ) → count_by (λ hire. eqb hire.1 f) (hires ++ more) ≡ count_by (λ hire. eqb hire.1 f) hires + count_by (λ hire. eqb hire.1 f) more =
    λ f. sum_by-append (λ (hire : ℕ × ℕ). cond (eqb hire.1 f) 1 0) hires more in
    subst (AreHiresBelow i lacks (n + 1)) (sym adds.added)
    (record {
      placed = All-append (λ hire. IsBestFor i lacks hire.1 hire.0) hires more h.placed (all_equal (λ hire. IsBestFor i lacks hire.1 hire.0) k one adds.best);
      counts = λ f low. elim (cases_eq f n) [
        | inl same ↦ subst (λ (g : ℕ). count_by (λ hire. eqb hire.1 g) (hires ++ more) ≡ get_or lacks g 0) (sym same) (omega (arith, split n, h.later n (omega arith), count_same k adds.machine n))
        | inr other ↦ omega (arith, split f, h.counts f (omega (arith, low, other)), count_other k adds.machine n f (λ e. other (sym e)))
      ];
      later = λ f past. omega (arith, split f, h.later f (omega (arith, past)), count_other k adds.machine n f (λ e. omega (arith, e, past)));
      many = omega (arith, length-append hires more, length-replicate k one, h.many, sum_by_more (λ x. x) lacks n 0 below);
    })

-- all of them, in another order
pub hires_all : (i : Instance) (lacks : List ℕ) (n : ℕ) (hires sorted : List (ℕ × ℕ)) → AreHiresBelow i lacks n hires → length lacks ≤ n → IsPermutation hires sorted → AreHires i lacks sorted
hires_all i lacks n hires sorted h all moved = record {
  placed = All-permutation (λ hire. IsBestFor i lacks hire.1 hire.0) hires sorted moved h.placed;
  counts = λ f below. sum_by-IsPermutation (λ (hire : ℕ × ℕ). cond (eqb hire.1 f) 1 0) hires sorted moved ∙ h.counts f (omega (arith, below, all));
  many = length_permutation hires sorted moved ∙ h.many ∙ ap sum (take_all n lacks all);
}

pub in_order : (hires : List (ℕ × ℕ)) → IsNonDecreasingBy (λ (hire : ℕ × ℕ). hire.0) hires → AreInOrder hires
in_order hires h j k d low below =
    let inside : k < length hires = omega (arith, below, length-map hires (λ (hire : ℕ × ℕ). hire.0)) in
    omega (arith, get_or-map (λ (hire : ℕ × ℕ). hire.0) hires j (0, 0) d (omega (arith, low, inside)), get_or-map (λ (hire : ℕ × ℕ). hire.0) hires k (0, 0) d inside, h j k (0, 0) low inside)
