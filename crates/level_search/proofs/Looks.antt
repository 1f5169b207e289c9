-- how many looks a round can take
use Rattle.std.proofs.Common.{◌≡◌, ℕ, suc, ◌+◌, ◌*◌, ◌<◌, ◌≤◌, List, [], ◌∷◌, length, count_by, sum_by, ap, ◌∙◌, arith}
use Rattle.std.proofs.Math.Nat.{mul-le-mul_left}
use Rattle.std.proofs.lemmas.List.{length-map}
use Rattle.std.proofs.lemmas.List.Sums.{count_by-le-length, sum_by-cons}
use Rattle.std.proofs.lemmas.List.FromFn.{length-range_with_len}
use Rattle.plan_model.specs.Planning.{Instance, IsInstance, functions, may_do, machines_of}
use Rattle.round_arena.specs.Input.{pair_count}
use Rattle.round_arena.specs.declared.tables.Tables.{Tables}
use Rattle.round_arena.specs.Plan.{pair_total}
use Rattle.round_arena.specs.Round.{SamePairs}
use Rattle.plan_model.specs.declared.answer.Answer.{Answer}
use Rattle.plan_model.specs.declared.answer.Answer.TheVariants.{Planned, NoPlan}
use Rattle.level_search.specs.declared.bisect.Found.{Found}
use Rattle.level_search.specs.Answered.{Starts}
use Rattle.level_search.specs.Paid.{Fills, passes}

sum_by-few : (xs : List ℕ) (b : ℕ) (g : ℕ → ℕ) → ((k : ℕ) → g k ≤ b) → sum_by g xs ≤ b * length xs
sum_by-few [] b g h = omega arith
sum_by-few (x ∷ xs) b g h =
    let more : b * suc (length xs) ≡ b * length xs + b = omega arith in
    omega (arith, sum_by-cons g x xs, sum_by-few xs b g h, h x)

pub pair_count-few : (i : Instance) → IsInstance i → pair_count i ≤ 4194304
pair_count-few i h =
    let each : (f : ℕ) → count_by (λ m. may_do i m f) (machines_of i) ≤ 4096 =
    λ f. omega (arith, count_by-le-length (λ m. may_do i m f) (machines_of i), length-map i.live (λ worker. worker.1), h.limits.workers) in
    omega (arith, sum_by-few (functions i) 4096 (λ f. count_by (λ m. may_do i m f) (machines_of i)) each, length-range_with_len 0 (length i.least), h.limits.functions)

-- the bound of a whole round is far below the greatest number
pub looks-few : (i : Instance) → IsInstance i → 34 * ((length i.live + 1) * pair_count i) < 9223372036854775808
looks-few i h =
    let few : (length i.live + 1) * pair_count i ≤ (length i.live + 1) * 4194304 = mul-le-mul_left (length i.live + 1) (pair_count-few i h) in
    omega (arith, few, h.limits.workers)

-- the tables at the start
pub staff-starts : (i : Instance) (t : Tables) → Starts i t → length t.owner.now ≡ length i.live
staff-starts i t s = omega (arith, s.sound.slots, ap length s.slots, length-map i.live (λ worker. worker.0))

pub looks-start : (i : Instance) (t : Tables) → Starts i t → t.looks + 34 * ((length t.owner.now + 1) * pair_total t.pairs) ≡ 34 * ((length i.live + 1) * pair_count i)
looks-start i t s =
    let product : (length t.owner.now + 1) * pair_total t.pairs ≡ (length i.live + 1) * pair_count i =
    ap (λ n. (n + 1) * pair_total t.pairs) (staff-starts i t s) ∙ ap (λ n. (length i.live + 1) * n) s.pairs in
    omega (arith, product, s.looks)

pub pairs-same : (t u : Tables) → SamePairs t u → pair_total u.pairs ≡ pair_total t.pairs
pairs-same t u s = ap pair_total s.pairs

-- the looks at the end, from those when the level was found
pub looks-end : (found : Found) (answer : Answer) (pairs old new bound : ℕ) → Fills found pairs old new answer → old + passes found * pairs ≤ bound → new ≤ bound
looks-end found (Planned entries backlog set) pairs old new bound fills room = omega (arith, fills.2, room)
looks-end found (NoPlan set) pairs old new bound fills room = omega (arith, fills, room)
