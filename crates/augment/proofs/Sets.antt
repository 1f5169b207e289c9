-- the functions that a stuck search has reached are short of workers
use Rattle.std.proofs.Common.{◌≡◌, ℕ, zero, suc, ◌+◌, ◌-◌, ◌<◌, ◌≤◌, Bool, true, false, List, [], ◌∷◌, ◌++◌, length, get_or, cond, eqb, ltb, count_by, sum_by, filter, All, refl, sym, ap, ◌∙◌, subst, arith, inl, inr}
use Rattle.std.specs.List.{list_any, range_with_len}
use Rattle.std.specs.List.Sorted.{IsStrictlyIncreasing}
use Rattle.std.proofs.lemmas.Bool.{cases_eq, eq-eqb, ltb-true, lt-ltb, or_cases, or_left, or_right, false≢true}
use Rattle.std.proofs.lemmas.List.Sums.{count_by-le-length, sum_by-cons, sum_by-append}
use Rattle.std.proofs.lemmas.List.Folds.{list_any-append}
use Rattle.std.proofs.lemmas.List.Elements.{All-filter, filter-append}
use Rattle.std.proofs.lemmas.List.Kept.{IsStrictlyIncreasing-filter}
use Rattle.augment.specs.declared.search.Tree.{Tree}
use Rattle.round_arena.specs.declared.tables.Pairs.{Pairs}
use Rattle.augment.specs.Moves.{one_if_equal}
use Rattle.augment.proofs.Totals.{total}
use Rattle.round_arena.specs.Plan.{IsCounted, count_on}
use Rattle.augment.specs.Tree.{IsClosed}
use Rattle.augment.specs.Moves.{IsStuck}
use Rattle.round_arena.specs.Planning.{neighbours, LacksWorkers}
use Rattle.round_arena.proofs.Ranges.{range-rises, range-below}
use Rattle.round_arena.specs.Plan.{Represents}
use Rattle.round_arena.proofs.Lists.{range_more}
use Rattle.augment.specs.Short.{marked}
use Rattle.augment.proofs.Totals.{total-lt}

-- the marked numbers below n, one place after the other
abbrev pub marks : List ℕ → ℕ → List ℕ
marks place zero = []
marks place (suc n) = marks place n ++ cond (ltb 0 (get_or place n 0)) (n ∷ []) []

-- a member of the marked numbers that passes the test
pub record Finds (p : ℕ → Bool) (place : List ℕ) (n : ℕ) : Type 0 where
  pub at : ℕ
  pub below : at < n
  pub mark : 0 < get_or place at 0
  pub passes : p at ≡ true

list_any_one : (p : ℕ → Bool) (b : Bool) (x : ℕ) → list_any p (cond b (x ∷ []) []) ≡ true → (b ≡ true) × (p x ≡ true)
list_any_one p true x h = (refl, elim (or_cases (p x) false h) [ inl q ↦ q | inr e ↦ absurd (false≢true e) ])
list_any_one p false x h = absurd (false≢true h)

one_list_any : (p : ℕ → Bool) (b : Bool) (x : ℕ) → b ≡ true → p x ≡ true → list_any p (cond b (x ∷ []) []) ≡ true
one_list_any p true x e h = or_left (p x) false h
one_list_any p false x e h = absurd (false≢true e)

pub Finds-from_any : (p : ℕ → Bool) (place : List ℕ) (n : ℕ) → list_any p (marks place n) ≡ true → Finds p place n
Finds-from_any p place zero h = absurd (false≢true h)
Finds-from_any p place (suc n) h =
    let last : List ℕ = cond (ltb 0 (get_or place n 0)) (n ∷ []) [] in
    elim (or_cases (list_any p (marks place n)) (list_any p last) (sym (list_any-append p (marks place n) last) ∙ h)) [
      | inl before ↦
          let f = Finds-from_any p place n before in
          record { at = f.at; below = omega (arith, f.below); mark = f.mark; passes = f.passes }
      | inr here ↦
          let one = list_any_one p (ltb 0 (get_or place n 0)) n here in
          record { at = n; below = omega arith; mark = ltb-true 0 (get_or place n 0) one.0; passes = one.1 }
    ]

pub any-from_mark : (p : ℕ → Bool) (place : List ℕ) (n f : ℕ) → f < n → 0 < get_or place f 0 → p f ≡ true → list_any p (marks place n) ≡ true
any-from_mark p place zero f l m h = absurd (omega arith)
any-from_mark p place (suc n) f l m h =
    let last : List ℕ = cond (ltb 0 (get_or place n 0)) (n ∷ []) [] in
    list_any-append p (marks place n) last ∙ elim (cases_eq f n) [
      | inl q ↦ or_right (list_any p (marks place n)) (list_any p last)
          (one_list_any p (ltb 0 (get_or place n 0)) n (lt-ltb 0 (get_or place n 0) (omega (arith, ap (λ z. get_or place z 0) q))) (sym (ap p q) ∙ h))
      | inr ne ↦ or_left (list_any p (marks place n)) (list_any p last) (any-from_mark p place n f (omega (arith, ne)) m h)
    ]

-- g where the number is marked
abbrev at_marks : List ℕ → (ℕ → ℕ) → ℕ → ℕ
at_marks place g f = cond (ltb 0 (get_or place f 0)) (g f) 0

sum_by_one : (g : ℕ → ℕ) (b : Bool) (x : ℕ) → sum_by g (cond b (x ∷ []) []) ≡ cond b (g x) 0
sum_by_one g true x = omega arith
sum_by_one g false x = refl

pub sum_by-marks : (g : ℕ → ℕ) (place : List ℕ) (n : ℕ) → sum_by g (marks place n) ≡ total n (at_marks place g)
sum_by-marks g place zero = refl
sum_by-marks g place (suc n) =
    omega (arith, sum_by-append g (marks place n) (cond (ltb 0 (get_or place n 0)) (n ∷ []) []), sum_by_one g (ltb 0 (get_or place n 0)) n, sum_by-marks g place n)

sum_by-add : (g h : ℕ → ℕ) (set : List ℕ) → sum_by (λ f. g f + h f) set ≡ sum_by g set + sum_by h set
sum_by-add g h [] = refl
sum_by-add g h (x ∷ xs) = omega (arith, sum_by-cons (λ f. g f + h f) x xs, sum_by-cons g x xs, sum_by-cons h x xs, sum_by-add g h xs)

sum_by-cong : (g h : ℕ → ℕ) (set : List ℕ) → ((f : ℕ) → g f ≡ h f) → sum_by g set ≡ sum_by h set
sum_by-cong g h [] e = refl
sum_by-cong g h (x ∷ xs) e = omega (arith, sum_by-cons g x xs, sum_by-cons h x xs, e x, sum_by-cong g h xs e)

-- a number that the set holds counts there
one-from_any : (x : ℕ) (set : List ℕ) → list_any (eqb x) set ≡ true → 1 ≤ sum_by (one_if_equal x) set
one-from_any x [] h = absurd (false≢true h)
one-from_any x (y ∷ ys) h = elim (or_cases (eqb x y) (list_any (eqb x) ys) h) [
  | inl here ↦
      let one : one_if_equal x y ≡ 1 = ap (λ b. cond b 1 0) here in
      omega (arith, sum_by-cons (one_if_equal x) y ys)
  | inr there ↦ omega (arith, sum_by-cons (one_if_equal x) y ys, one-from_any x ys there)
]

one_at_most : (b : Bool) (n : ℕ) → (b ≡ true → 1 ≤ n) → cond b 1 0 ≤ n
one_at_most true n h = h refl
one_at_most false n h = omega arith

-- where each worker who passes is on a function of the set, no more pass than are on those functions
pub count_by-union : (p : ℕ → Bool) (machines owner set : List ℕ) → length machines ≡ length owner
    → ((w : ℕ) → w < length machines → p (get_or machines w 0) ≡ true → list_any (eqb (get_or owner w 0)) set ≡ true)
    → count_by p machines ≤ sum_by (count_on owner) set
count_by-union p [] owner set e h = omega arith
count_by-union p (m ∷ ms) [] set e h = absurd (omega arith)
count_by-union p (m ∷ ms) (x ∷ xs) set e h =
    let rest : count_by p ms ≤ sum_by (count_on xs) set = count_by-union p ms xs set (omega arith) (λ w l q. h (suc w) (omega arith) q) in
    let here : cond (p m) 1 0 ≤ sum_by (one_if_equal x) set = one_at_most (p m) (sum_by (one_if_equal x) set) (λ q. one-from_any x set (h 0 (omega arith) q)) in
    let split : sum_by (count_on (x ∷ xs)) set ≡ sum_by (λ f. one_if_equal x f + count_on xs f) set =
    sum_by-cong (count_on (x ∷ xs)) (λ f. one_if_equal x f + count_on xs f) set (λ f. sum_by-cons (λ g. cond (eqb g f) 1 0) x xs) in
    omega (arith, sum_by-cons (λ y. cond (p y) 1 0) m ms, sum_by-add (one_if_equal x) (count_on xs) set)

cond-le : (b : Bool) (m n : ℕ) → (b ≡ true → m ≤ n) → cond b m 0 ≤ cond b n 0
cond-le true m n h = h refl
cond-le false m n h = omega arith

-- each function reached is closed
pub IsClosed-marked : (pairs : Pairs) (owner count need : List ℕ) (t : Tree) (root f : ℕ) → IsStuck pairs owner count need t root → f < length need → 0 < get_or t.place.now f 0 → IsClosed pairs t f
IsClosed-marked pairs owner count need t root f s l m =
    let at = s.tree_holds.marked f l m in
    subst (λ (z : ℕ). IsClosed pairs t z) at.1 (s.closed (get_or t.place.now f 0 - 1) (omega (arith, at.0)))

tight-marked : (pairs : Pairs) (owner count need : List ℕ) (t : Tree) (root f : ℕ) → IsStuck pairs owner count need t root → IsCounted (length need) owner count → f < length need → 0 < get_or t.place.now f 0 → count_on owner f ≤ get_or need f 0
tight-marked pairs owner count need t root f s c l m =
    let at = s.tree_holds.marked f l m in
    let tight : get_or count (get_or t.reached.now (get_or t.place.now f 0 - 1) 0) 0 ≤ get_or need (get_or t.reached.now (get_or t.place.now f 0 - 1) 0) 0 = s.tree_holds.tight (get_or t.place.now f 0 - 1) (omega (arith, at.0)) in
    omega (arith, tight, c.counts f (omega arith), ap (λ z. get_or count z 0) at.1, ap (λ z. get_or need z 0) at.1)

-- the marked numbers are those of the range that are marked
pub marks-marked : (place : List ℕ) (n : ℕ) → marks place n ≡ marked place n
marks-marked place zero = refl
marks-marked place (suc n) =
    let p : ℕ → Bool = λ f. ltb 0 (get_or place f 0) in
    ap (λ xs. xs ++ cond (p n) (n ∷ []) []) (marks-marked place n) ∙ sym (filter-append p (range_with_len 0 n) (n ∷ [])) ∙ ap (filter p) (sym (range_more 0 n n (omega arith)))

pub marked-rises : (place : List ℕ) (n : ℕ) → IsStrictlyIncreasing (marked place n)
marked-rises place n = IsStrictlyIncreasing-filter (λ f. ltb 0 (get_or place f 0)) (range_with_len 0 n) (range-rises n)

pub marked-below : (place : List ℕ) (n : ℕ) → All (λ f. f < n) (marked place n)
marked-below place n = All-filter (λ f. ltb 0 (get_or place f 0)) (λ f. f < n) (range_with_len 0 n) (range-below n)

-- The set of the functions that a stuck search has reached is short: each worker who may do one of
-- them is on one of them, none has more workers than it needs, and the root has fewer.
pub IsShort-stuck : (permits : ℕ → ℕ → Bool) (machines : List ℕ) (pairs : Pairs) (owner count need : List ℕ) (t : Tree) (root : ℕ)
    → Represents permits machines pairs (length need) → length machines ≡ length owner → IsCounted (length need) owner count → root < length need
    → IsStuck pairs owner count need t root → LacksWorkers permits machines (length need) (λ f. get_or need f 0) (marked t.place.now (length need))
IsShort-stuck permits machines pairs owner count need t root r e c l s =
    let functions : ℕ = length need in
    let place : List ℕ = t.place.now in
    let set : List ℕ = marks place functions in
    let on_set : (w : ℕ) → w < length machines → list_any (permits (get_or machines w 0)) set ≡ true → list_any (eqb (get_or owner w 0)) set ≡ true =
    λ w k q.
    let f = Finds-from_any (permits (get_or machines w 0)) place functions q in
    let pair = r.listed w f.at k f.below f.passes in
    let m : ℕ = pair.0 in
    let of_function = pair.1 in
    let of_machine = pair.2 in
    let closed = IsClosed-marked pairs owner count need t root f.at s f.below f.mark of_function.0 of_function.1 of_function.2 in
    let passed : get_or t.passed.now m false ≡ true = ap (λ z. get_or t.passed.now z false) (sym of_function.3) ∙ closed in
    let reached = s.tree_holds.passed m passed of_machine.0 of_machine.1 of_machine.2 in
    let same : get_or owner (get_or pairs.workers.items.now of_machine.0 0) 0 ≡ get_or owner w 0 = ap (λ z. get_or owner z 0) of_machine.3 in
    any-from_mark (eqb (get_or owner w 0)) place functions (get_or owner w 0) (omega (arith, reached.0)) (omega (arith, reached.1, ap (λ z. get_or place z 0) same)) (eq-eqb (get_or owner w 0) (get_or owner w 0) refl) in
    let few : neighbours permits machines set ≤ sum_by (count_on owner) set = count_by-union (λ m. list_any (permits m) set) machines owner set e on_set in
    let root_mark : get_or place root 0 ≡ 1 = ap (λ z. get_or place z 0) (sym s.first) ∙ s.tree_holds.placed 0 s.some in
    let marked_root : ltb 0 (get_or place root 0) ≡ true = lt-ltb 0 (get_or place root 0) (omega arith) in
    let at_root : (g : ℕ → ℕ) → at_marks place g root ≡ g root = λ g. ap (λ b. cond b (g root) 0) marked_root in
    let less : total functions (at_marks place (count_on owner)) < total functions (at_marks place (λ f. get_or need f 0)) =
    total-lt functions (at_marks place (count_on owner)) (at_marks place (λ f. get_or need f 0)) root l
    (λ f k. cond-le (ltb 0 (get_or place f 0)) (count_on owner f) (get_or need f 0) (λ q. tight-marked pairs owner count need t root f s c k (ltb-true 0 (get_or place f 0) q)))
    (omega (arith, at_root (count_on owner), at_root (λ f. get_or need f 0), s.lacking, c.counts root (omega arith))) in
    record {
      rising = marked-rises place functions;
      within = marked-below place functions;
      short = subst (λ (z : List ℕ). neighbours permits machines z < sum_by (λ f. get_or need f 0) z) (marks-marked place functions) (omega (arith, few, less, sum_by-marks (count_on owner) place functions, sum_by-marks (λ f. get_or need f 0) place functions));
    }

-- a function that needs more workers than there are is short alone
pub LacksWorkers-alone : (permits : ℕ → ℕ → Bool) (machines : List ℕ) (functions : ℕ) (need : ℕ → ℕ) (f : ℕ) → f < functions → length machines < need f → LacksWorkers permits machines functions need (f ∷ [])
LacksWorkers-alone permits machines functions need f below above = record {
  rising = λ k l. absurd (omega (arith, l));
  within = λ k d l. elim (cases_eq k 0) [
    | inl q ↦ omega (arith, below, ap (λ z. get_or (f ∷ []) z d) q)
    | inr ne ↦ absurd (omega (arith, l, ne))
  ];
  short = omega (arith, above, count_by-le-length (λ m. list_any (permits m) (f ∷ [])) machines, sum_by-cons need f []);
}
