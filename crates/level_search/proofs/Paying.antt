-- the looks that a plan takes at least
use Rattle.std.proofs.Common.{◌≡◌, ℕ, suc, ◌+◌, ◌<◌, ◌≤◌, Option, None, Some, List, [], ◌∷◌, Bool, true, false, eqb, ltb, cond, length, get_or, map, count_by, sum_by, is_some, refl, sym, ap, ◌∙◌, arith}
use Rattle.std.specs.List.{range_with_len}
use Rattle.std.proofs.lemmas.Bool.Decides.{nat_tests}
use Rattle.std.proofs.lemmas.List.Elements.{recursion_from_All}
use Rattle.std.proofs.lemmas.List.FromFn.{fill_by_all}
use Rattle.std.proofs.lemmas.List.Sums.{sum_by-cons}
use Rattle.plan_model.specs.Planning.{Instance, functions, need}
use Rattle.plan_model.proofs.Hall.{count_by-map, sum_by-le_each}
use Rattle.round_arena.specs.declared.tables.Tables.{Tables}
use Rattle.round_arena.specs.Input.{cut_plan}
use Rattle.round_arena.specs.Plan.{pair_total, count_on}
use Rattle.round_arena.specs.Round.{IsConsistent, SamePairs, function_at, plan_of}
use Rattle.round_arena.proofs.Lists.{order-size}
use Rattle.round_arena.proofs.Ranges.{range-below}
use Rattle.augment.specs.Round.{Hires}
use Rattle.augment.proofs.Gains.{total-count_on}
use Rattle.augment.proofs.Totals.{total-range}
use Rattle.level_search.specs.Levels.{AreMet}
use Rattle.plan_model.specs.declared.answer.Answer.{Answer}
use Rattle.plan_model.specs.declared.answer.Answer.TheVariants.{Planned, NoPlan}
use Rattle.level_search.specs.declared.bisect.Found.{Found}
use Rattle.level_search.specs.declared.bisect.Found.TheVariants.{Level, Nothing}
use Rattle.level_search.specs.Answered.{Starts}
use Rattle.level_search.specs.Found.{IsFound}
use Rattle.level_search.specs.Paid.{Fills, PaysForPlan, kept_count}
use Rattle.std.specs.Option.{IfNone}
use Rattle.level_search.proofs.Looks.{pairs-same}

-- a worker has one of n functions or is idle
busy_or_idle : (n : ℕ) (owner : List ℕ) → ((w : ℕ) → w < length owner → get_or owner w 0 ≤ n)
    → count_by (λ f. is_some (function_at n f)) owner + count_on owner n ≡ length owner
busy_or_idle n [] below = refl
busy_or_idle n (f ∷ owner) below =
    let rest = busy_or_idle n owner (λ w l. below (suc w) (omega arith)) in
    let here : cond (is_some (function_at n f)) 1 0 + cond (eqb f n) 1 0 ≡ 1 = one (below 0 (omega arith)) in
    omega (arith, rest, here, sum_by-cons (λ g. cond (is_some (function_at n g)) 1 0) f owner, sum_by-cons (λ g. cond (eqb g n) 1 0) f owner)
  where
    one : f ≤ n → cond (is_some (function_at n f)) 1 0 + cond (eqb f n) 1 0 ≡ 1
    one l = by (ltb f n) refl (eqb f n) refl
      where
        by : (a : Bool) → ltb f n ≡ a → (b : Bool) → eqb f n ≡ b → cond (is_some (function_at n f)) 1 0 + cond (eqb f n) 1 0 ≡ 1
        by true p true q = absurd (grind (arith, nat_tests))
        by true p false q = rw (p, q)
        by false p true q = rw (p, q)
        by false p false q = absurd (grind (arith, nat_tests))

-- the workers with a function, by the plan that the tables hold
kept_by : (i : Instance) (t : Tables) (plan : List (ℕ × Option ℕ)) → IsConsistent (length i.least) t → plan_of t ≡ cut_plan i plan
    → kept_count i plan + count_on t.owner.now (length i.least) ≡ length t.owner.now
kept_by i t plan sound same =
    let n = length i.least in
    let owner = t.owner.now in
    let whole : owner ≡ map (λ w. get_or owner w 0) (range_with_len 0 (length owner)) = fill_by_all (λ w. get_or owner w 0) owner (length owner) 0 refl (λ k l. refl) in
    let by_place : kept_count i plan ≡ count_by (λ w. is_some (function_at (length t.order.now) (get_or owner w 0))) (range_with_len 0 (length t.slot.now)) =
    ap (count_by (λ entry. is_some entry.1)) (sym same)
    ∙ count_by-map (λ entry. is_some entry.1) (λ w. (get_or t.slot.now w 0, function_at (length t.order.now) (get_or owner w 0))) (range_with_len 0 (length t.slot.now)) in
    let sizes : count_by (λ w. is_some (function_at (length t.order.now) (get_or owner w 0))) (range_with_len 0 (length t.slot.now)) ≡ count_by (λ w. is_some (function_at n (get_or owner w 0))) (range_with_len 0 (length owner)) =
    ap (λ m. count_by (λ w. is_some (function_at m (get_or owner w 0))) (range_with_len 0 (length t.slot.now))) (order-size n t.order.now sound.order)
    ∙ ap (λ m. count_by (λ w. is_some (function_at n (get_or owner w 0))) (range_with_len 0 m)) sound.slots in
    let by_owner : count_by (λ w. is_some (function_at n (get_or owner w 0))) (range_with_len 0 (length owner)) ≡ count_by (λ f. is_some (function_at n f)) owner =
    sym (count_by-map (λ f. is_some (function_at n f)) (λ w. get_or owner w 0) (range_with_len 0 (length owner))) ∙ ap (count_by (λ f. is_some (function_at n f))) (sym whole) in
    omega (arith, by_place, sizes, by_owner, busy_or_idle n owner sound.assigned.below)

-- the needs of a level that is met are not more than the workers who have a function
pub needed_by : (i : Instance) (owner : List ℕ) (level : ℕ) → AreMet i owner level → sum_by (need i level) (functions i) + count_on owner (length i.least) ≤ length owner
needed_by i owner level met =
    let n = length i.least in
    let each = recursion_from_All (λ f. need i level f ≤ count_on owner f) (functions i) (λ k d l. met _ (range-below n k d l)) in
    omega (arith, sum_by-le_each (need i level) (count_on owner) (functions i) each, total-range n (count_on owner), total-count_on (suc n) owner)

-- what was paid when the level was found
pub paid_by_then : (i : Instance) (t u : Tables) (plan : List (ℕ × Option ℕ)) (level : ℕ) → IsConsistent (length i.least) t → SamePairs t u → t.looks ≡ 0
    → plan_of t ≡ cut_plan i plan → Hires (length i.least) t u → AreMet i u.owner.now level
    → sum_by (need i level) (functions i) ≤ u.looks + kept_count i plan
paid_by_then i t u plan level sound same fresh kept hired met =
    omega (arith, kept_by i t plan sound kept, needed_by i u.owner.now level met, hired, same.staff, fresh)

-- and at the end, where the tables v are those of u with other owners
pub paid_by_end : (i : Instance) (t u v : Tables) (plan : List (ℕ × Option ℕ)) (found : Found) (answer : Answer) (looks : ℕ) → Starts i t → SamePairs t u → SamePairs u v
    → plan_of t ≡ cut_plan i plan → Hires (length i.least) t u → IsFound i u found → v.looks ≡ u.looks → Fills found (pair_total v.pairs) v.looks looks answer
    → PaysForPlan i plan answer looks
paid_by_end i t u v plan found (NoPlan set) looks starts tu uv kept hired is same fills = tt
paid_by_end i t u v plan (Nothing none) (Planned entries backlog set) looks starts tu uv kept hired is same fills = absurd fills.0
paid_by_end i t u v plan (Level level short) (Planned entries backlog set) looks starts tu uv kept hired is same fills =
    let then = paid_by_then i t u plan level starts.sound tu starts.looks kept hired is.0 in
    let level_is : sum_by (need i backlog) (functions i) ≡ sum_by (need i level) (functions i) = ap (λ k. sum_by (need i k) (functions i)) fills.0 in
    omega (arith, then, level_is, fills.1, same, pairs-same t u tu, pairs-same u v uv, starts.pairs)

-- what follows from what a clause says where there is no value
pub IfNone_then : {X P Q : Type 0} (r : Option X) → IfNone r P → (P → Q) → IfNone r Q
IfNone_then None p follows = follows p
IfNone_then (Some x) p follows = p
