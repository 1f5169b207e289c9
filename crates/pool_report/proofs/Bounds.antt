-- The numbers on a report's lines are small enough for them.
use Rattle.std.proofs.Common.{◌≡◌, ◌≢◌, ℕ, ◌+◌, ◌-◌, ◌*◌, ◌^◌, ◌<◌, ◌≤◌, zero, suc, max, min, Bool, true, false, cond, eqb, List, [], ◌∷◌, length, find, fold, sum_by, get_or, unwrap_or, All, refl, lit<, inl, inr, arith}
use Rattle.std.specs.List.{range_with_len}
use Rattle.std.specs.Int.{div_ceil}
use Rattle.std.specs.List.Sorted.{IsStrictlyIncreasing}
use Rattle.std.proofs.lemmas.Bool.{cases_Bool, cases_lt, eqb-false}
use Rattle.std.proofs.lemmas.List.{get_or_past, length-map}
use Rattle.std.proofs.lemmas.List.Sums.{count_by-le-length, sum_by-le}
use Rattle.plan_model.specs.Planning.{Assignment, Instance, IsInstance, backlog_of, cost, counted_waiting, functions, is_stranded, machines_of, may_do, need, neighbours, serves, workers_on}
use Rattle.plan_model.proofs.Hall.{length-rising}
use Rattle.plan_model.proofs.Needs.{div_ceil-le}

find_within : (p : ℕ → Bool) (from many d m : ℕ) → (0 < many → from + many ≤ m) → d ≤ m → unwrap_or (find p (range_with_len from many)) d ≤ m
find_within p from zero d m range low = low
find_within p from (suc many) d m range low = by (p from) refl (find_within p (from + 1) many d m (λ some. omega (arith, range (omega arith))) low)
  where
    by : (b : Bool) → p from ≡ b → unwrap_or (find p (range_with_len (from + 1) many)) d ≤ m → unwrap_or (find p (range_with_len from (suc many))) d ≤ m
    by true is rest = rw is (omega (arith, range (omega arith)))
    by false is rest = rw is rest

pub need_few : (i : Instance) (level f : ℕ) → need i level f ≤ length i.live + 1
need_few i level f = find_within _ (get_or i.least f 0) (min (length i.live) (get_or i.most f 0) + 1 - get_or i.least f 0) (length i.live + 1) (length i.live + 1) (λ some. omega (arith, some)) (omega arith)

pub sum_few : (i : Instance) (level : ℕ) (set : List ℕ) → IsInstance i → IsStrictlyIncreasing set → All (λ f. f < length i.least) set → sum_by (need i level) set < 2 ^ 64
sum_few i level set valid rising within =
    let each : All (λ f. need i level f ≤ 4097) set = λ k d below. omega (arith, need_few i level (get_or set k d), valid.limits.workers) in
    omega (arith, sum_by-le (need i level) 4097 set each, length-rising (length i.least) set rising within, valid.limits.functions)

pub have_few : (i : Instance) (set : List ℕ) → IsInstance i → neighbours (may_do i) (machines_of i) set < 2 ^ 64
have_few i set valid =
    omega (arith, count_by-le-length (serves i set) (machines_of i), length-map i.live (λ (worker : ℕ × ℕ). worker.1), valid.limits.workers)

pub waiting_few : (xs : List ℕ) (k : ℕ) → All (λ w. w < 2 ^ 32) xs → get_or xs k 0 < 2 ^ 32
waiting_few xs k h = elim (cases_lt k (length xs)) [ inl inside ↦ h k 0 inside | inr past ↦ rw (get_or_past xs k 0 past) (lit< tt) ]

-- ---- no backlog is 2 ^ 32 itself

counted_few : (b : Bool) (w : ℕ) → w < 2 ^ 32 → cond b 0 w < 2 ^ 32
counted_few true w h = lit< tt
counted_few false w h = h

cost_other : (w n : ℕ) → w < 2 ^ 32 → cost w n ≢ 2 ^ 32
cost_other w n small = elim (cases_Bool (eqb w 0)) [
  | inl none ↦ rw none (λ e. omega (arith, e))
  | inr some ↦ elim (cases_Bool (eqb n 0)) [
    | inl idle ↦ rw (some, idle) (λ e. eqb-false w 0 some (omega (arith, e)))
    | inr busy ↦ rw (some, busy) (λ e. omega (arith, e, small, within (eqb-false n 0 busy)))
  ]
]
  where
    within : (n ≡ 0 → ⊥) → div_ceil w n ≤ w
    within other = div_ceil-le w n w (omega (arith, other)) (larger n other)
      where
        larger : (n : ℕ) → (n ≡ 0 → ⊥) → w ≤ w * n
        larger zero other = absurd (other refl)
        larger (suc n) other = omega arith

max_other : (a b k : ℕ) → a ≢ k → b ≢ k → max a b ≢ k
max_other a b k left right e = elim (cases_lt a b) [ inl below ↦ right (omega (arith, e)) | inr above ↦ left (omega (arith, e)) ]

fold_other : (h : ℕ → ℕ) (a k : ℕ) (xs : List ℕ) → a ≢ k → ((x : ℕ) → h x ≢ k) → fold (λ m x. max m (h x)) a xs ≢ k
fold_other h a k [] start each = start
fold_other h a k (x ∷ xs) start each = fold_other h (max a (h x)) k xs (max_other a (h x) k start (each x)) each

pub backlog_other : (i : Instance) (plan : Assignment) → IsInstance i → backlog_of i plan ≢ 2 ^ 32
backlog_other i plan valid =
    fold_other (λ f. cost (counted_waiting i f) (workers_on i plan f)) 0 (2 ^ 32) (functions i) (λ e. omega (arith, e))
    (λ f. cost_other (counted_waiting i f) (workers_on i plan f) (counted_few (is_stranded i f) (get_or i.waiting f 0) (waiting_few i.waiting f valid.counted)))
