-- A plan that meets the needs of a level reaches it, and needs do not rise with the level.
use Rattle.std.proofs.Common.{◌≡◌, ℕ, ◌+◌, ◌-◌, ◌<◌, ◌≤◌, zero, suc, min, Bool, true, leb, List, length, get_or, find, All, IsTrue, unwrap_or, sym, arith, inl, inr, ◌∙◌}
use Rattle.std.specs.List.{range_with_len}
use Rattle.std.proofs.lemmas.Bool.{leb-true, le-leb, cases_lt, cases_Bool, false≢true}
use Rattle.std.proofs.lemmas.List.Elements.{recursion_from_All, All-from_get_or}
use Rattle.std.proofs.lemmas.List.FromFn.{length-range_with_len}
use Rattle.std.proofs.lemmas.List.Sums.{count_by-le-length, list_all-from_AllPass}
use Rattle.plan_model.specs.Planning.{Instance, Assignment, IsSound, IsShort, functions, counted_waiting, cost, workers_on, is_on, need, meets_least, backlog_of}
use Rattle.plan_model.proofs.Hall.{fold_max-le, hall_count}
use Rattle.plan_model.proofs.Needs.{cost-falls, need_is}
use Rattle.plan_model.proofs.Ranges.{at_place}

-- a range is searched from its first number on
past : (r : ℕ → Bool) (from many d : ℕ) → from + many ≤ d → from ≤ unwrap_or (find r (range_with_len from many)) d
past r from zero d room = omega (arith, room)
past r from (suc many) d room =
    let rest = past r (from + 1) many d (omega (arith, room)) in
    elim (cases_Bool (r from)) [ inl is ↦ rw is (omega arith) | inr is ↦ rw is (omega (arith, rest)) ]

-- a test that passes more often is found no later
sooner : (p q : ℕ → Bool) → ((n : ℕ) → p n ≡ true → q n ≡ true) → (from many d : ℕ) → from + many ≤ d → unwrap_or (find q (range_with_len from many)) d ≤ unwrap_or (find p (range_with_len from many)) d
sooner p q more from zero d room = omega arith
sooner p q more from (suc many) d room =
    let rest = sooner p q more (from + 1) many d (omega (arith, room)) in
    let low = past p from (suc many) d room in
    elim (cases_Bool (q from)) [
      | inl passes ↦ rw passes low
      | inr fails ↦ elim (cases_Bool (p from)) [ inl is ↦ absurd (false≢true (sym fails ∙ more from is)) | inr is ↦ rw (is, fails) rest ]
    ]

-- no function needs fewer workers at a lower level
pub need-falls : (i : Instance) (low high f : ℕ) → low ≤ high → need i high f ≤ need i low f
need-falls i low high f up =
    let last = min (length i.live) (get_or i.most f 0) in
    elim (cases_lt last (get_or i.least f 0)) [
      | inl above ↦ (let none : last + 1 - get_or i.least f 0 ≡ 0 = omega (arith, above) in rw none (omega arith))
      | inr within ↦ sooner (λ n. leb (cost (counted_waiting i f) n) low) (λ n. leb (cost (counted_waiting i f) n) high) (λ n passes. le-leb _ _ (omega (arith, up, leb-true _ _ passes))) (get_or i.least f 0) (last + 1 - get_or i.least f 0) (length i.live + 1) (omega (arith, within))
    ]

-- a need that all workers can meet is at most the greatest number
pub need-fits : (i : Instance) (level f : ℕ) → need i level f ≤ length i.live → need i level f ≤ get_or i.most f 0
need-fits i level f few = (need_is i level f few).1

-- a function with as many workers as it needs has its least number, and costs at most the level
pub need-met : (i : Instance) (level f n : ℕ) → need i level f ≤ n → n ≤ length i.live → (get_or i.least f 0 ≤ n) × (cost (counted_waiting i f) n ≤ level)
need-met i level f n met few =
    let is = need_is i level f (omega (arith, met, few)) in
    (omega (arith, is.0, met), omega (arith, is.2, cost-falls (counted_waiting i f) (need i level f) n met))

-- what holds of each function
each : (i : Instance) (P : ℕ → Type 0) → ((f : ℕ) → f < length i.least → P f) → All P (functions i)
each i P h = All-from_get_or P (functions i) 0 (λ k below. (let inside : k < length i.least = omega (arith, below, length-range_with_len 0 (length i.least)) in rw (at_place (length i.least) k inside) (h k inside)))

-- a plan that meets the needs of a level meets the least numbers, and its backlog is within the level
pub needs-met : (i : Instance) (plan : Assignment) (level : ℕ) → ((f : ℕ) → f < length i.least → need i level f ≤ workers_on i plan f) → IsTrue (meets_least i plan) × (backlog_of i plan ≤ level)
needs-met i plan level met = (
  list_all-from_AllPass (λ f. leb (get_or i.least f 0) (workers_on i plan f)) (functions i) (each i (λ f. leb (get_or i.least f 0) (workers_on i plan f) ≡ true) (λ f inside. le-leb _ _ (one f inside).0)),
  fold_max-le (λ f. cost (counted_waiting i f) (workers_on i plan f)) 0 level (functions i) (omega arith) (recursion_from_All (λ f. cost (counted_waiting i f) (workers_on i plan f) ≤ level) (functions i) (each i (λ f. cost (counted_waiting i f) (workers_on i plan f) ≤ level) (λ f inside. (one f inside).1))),
)
  where
    one : (f : ℕ) → f < length i.least → (get_or i.least f 0 ≤ workers_on i plan f) × (cost (counted_waiting i f) (workers_on i plan f) ≤ level)
    one f inside = need-met i level f (workers_on i plan f) (met f inside) (count_by-le-length (λ worker. is_on f (plan worker.0)) i.live)

-- where a set is short one level below, the level is the backlog
pub backlog-exact : (i : Instance) (plan : Assignment) (level : ℕ) (set : List ℕ) → IsSound i plan → backlog_of i plan ≤ level → (0 < level → IsShort i (level - 1) set) → level ≡ backlog_of i plan
backlog-exact i plan level set sound within short = elim (cases_lt 0 level) [
  | inl above ↦ omega (arith, within, hall_count i (level - 1) set plan (short above) sound)
  | inr none ↦ omega (arith, within, none)
]
