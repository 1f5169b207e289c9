-- The tables before the live workers serve, and what they leave.
use Rattle.std.proofs.Common.{◌≡◌, ℕ, suc, ◌+◌, ◌-◌, ◌*◌, ◌<◌, ◌≤◌, cond, eqb, ltb, List, [], ◌∷◌, length, map, get_or, count_by, sum_by, Option, None, Some, All, refl, sym, ap, ◌∙◌, arith, inl, inr}
use Rattle.std.specs.Prelude.{sum}
use Rattle.std.specs.List.{range_with_len}
use Rattle.std.proofs.lemmas.Bool.{cases_Bool, cond-true, ltb-false, ne_eqb}
use Rattle.std.proofs.lemmas.List.{get_or-map, length-map}
use Rattle.std.proofs.lemmas.List.Elements.{recursion_from_All}
use Rattle.std.proofs.lemmas.List.FromFn.{fill_by_all, get_or-map-range_with_len, length-range_with_len}
use Rattle.std.proofs.lemmas.List.Sums.{count_by-le-length, sum-map, sum_by-cons}
use Rattle.std.proofs.lemmas.Option.{none-some}
use Rattle.plan_model.specs.Planning.{Instance, IsInstance, functions, machines_of, may_do, neighbours}
use Rattle.plan_model.proofs.Hall.{sum_by-le_each}
use Rattle.round_arena.specs.declared.tables.Tables.{Tables}
use Rattle.round_arena.specs.Input.{cut_plan, kept_at, pair_count}
use Rattle.round_arena.specs.Plan.{count_on}
use Rattle.round_arena.specs.Round as round
use Rattle.round_arena.specs.Round.{function_at, plan_entries, plan_of}
use Rattle.round_arena.proofs.Lists.{order-size}
use Rattle.augment.specs.Most.{LacksJust, lacking}
use Rattle.plan_sizing.specs.Hiring.{AreLacks, AreNeeds}
use Rattle.plan_sizing.specs.Sizing.{Farm, IsShortBy, need}

-- who is idle is on no function
nobody_on : (owner : List ℕ) (n f : ℕ) → f < n → ((w : ℕ) → w < length owner → n ≤ get_or owner w 0) → count_on owner f ≡ 0
nobody_on [] n f below idle = refl
nobody_on (x ∷ xs) n f below idle =
    let here : cond (eqb x f) 1 0 ≡ 0 = ap {B = ℕ} (λ b. cond b 1 0) (ne_eqb x f (λ same. omega (arith, same, below, idle 0 (omega arith)))) in
    omega (arith, sum_by-cons (λ g. cond (eqb g f) 1 0) x xs, here, nobody_on xs n f below (λ w l. idle (suc w) (omega (arith, l))))

idle_from : (n o : ℕ) → function_at n o ≡ None → n ≤ o
idle_from n o none = elim (cases_Bool (ltb o n)) [
  | inl busy ↦ absurd (none-some o (sym none ∙ cond-true (ltb o n) (Some o) None busy))
  | inr idle ↦ ltb-false o n idle
]

-- tables that were built from no plan have nobody on a function
pub none_on : (i : Instance) (t : Tables) (f : ℕ) → round.IsConsistent (length i.least) t → t.slot.now ≡ map (λ worker. worker.0) i.live → plan_of t ≡ cut_plan i [] → f < length i.least → count_on t.owner.now f ≡ 0
none_on i t f sound slots kept below =
    let size : length t.order.now ≡ length i.least = order-size (length i.least) t.order.now sound.order in
    let many : length t.slot.now ≡ length i.live = ap length slots ∙ length-map i.live (λ (w : ℕ × ℕ). w.0) in
    nobody_on t.owner.now (length i.least) f below (λ w l.
    let inside : w < length t.slot.now = omega (arith, l, sound.slots) in
    let left : get_or (plan_of t) w (0, None) ≡ (get_or t.slot.now w 0, function_at (length t.order.now) (get_or t.owner.now w 0)) =
    get_or-map-range_with_len (λ k. (get_or t.slot.now k 0, function_at (length t.order.now) (get_or t.owner.now k 0))) 0 (length t.slot.now) w w (0, None) inside (omega arith) in
    let right : get_or (cut_plan i []) w (0, None) ≡ ((get_or i.live w (0, 0)).0, None) = get_or-map (λ (worker : ℕ × ℕ). (worker.0, kept_at i [] worker.0 worker.1)) i.live w (0, 0) (0, None) (omega (arith, inside, many)) in
    let none : function_at (length t.order.now) (get_or t.owner.now w 0) ≡ None =
    sym (ap (λ (e : ℕ × Option ℕ). e.1) left) ∙ ap (λ (entries : List (ℕ × Option ℕ)). (get_or entries w (0, None)).1) kept ∙ ap (λ (e : ℕ × Option ℕ). e.1) right in
    idle_from (length i.least) (get_or t.owner.now w 0) (ap (λ n. function_at n (get_or t.owner.now w 0)) (sym size) ∙ none))

sum_by_few : (xs : List ℕ) (b : ℕ) (g : ℕ → ℕ) → ((k : ℕ) → g k ≤ b) → sum_by g xs ≤ b * length xs
sum_by_few [] b g h = omega arith
sum_by_few (x ∷ xs) b g h = (let more : b * suc (length xs) ≡ b * length xs + b = omega arith in omega (arith, more, sum_by-cons g x xs, sum_by_few xs b g h, h x))

-- the permitted pairs are few
pub pairs_few : (i : Instance) → IsInstance i → pair_count i ≤ 4194304
pairs_few i valid =
    let each : (f : ℕ) → count_by (λ m. may_do i m f) (machines_of i) ≤ 4096 = λ f. omega (arith, count_by-le-length (λ m. may_do i m f) (machines_of i), length-map i.live (λ (worker : ℕ × ℕ). worker.1), valid.limits.workers) in
    omega (arith, sum_by_few (functions i) 4096 (λ f. count_by (λ m. may_do i m f) (machines_of i)) each, length-range_with_len 0 (length i.least), valid.limits.functions)

-- what is lacking in all is the sum over the functions
pub lacks_sum : (needs counts lacks owner : List ℕ) → AreLacks needs counts lacks → ((f : ℕ) → f < length needs → get_or counts f 0 ≡ count_on owner f) → sum lacks ≡ lacking needs owner
lacks_sum needs counts lacks owner h counted =
    let g : ℕ → ℕ = λ f. get_or needs f 0 - count_on owner f in
    let listed : lacks ≡ map g (range_with_len 0 (length needs)) = fill_by_all g lacks (length needs) 0 h.many (λ k l. omega (arith, h.each k l, counted k l)) in
    ap sum listed ∙ sum-map g (range_with_len 0 (length needs))

-- two sums whose terms agree at the elements
sum_by_agree : (g h : ℕ → ℕ) (set : List ℕ) → All (λ f. g f ≡ h f) set → sum_by g set ≡ sum_by h set
sum_by_agree g h set same =
    let up = sum_by-le_each g h set (recursion_from_All (λ f. g f ≤ h f) set (λ k d l. omega (arith, same k d l))) in
    let down = sum_by-le_each h g set (recursion_from_All (λ f. h f ≤ g f) set (λ k d l. omega (arith, same k d l))) in
    omega (arith, up, down)

-- the set that the serving gives is short by as many as are lacking
pub short_by : (farm : Farm) (machines needs owner set : List ℕ) (many : ℕ) → machines ≡ machines_of farm.problem → AreNeeds farm needs → many ≡ lacking needs owner
    → LacksJust (may_do farm.problem) machines (length needs) (λ f. get_or needs f 0) (lacking needs owner) set → IsShortBy farm many set
short_by farm machines needs owner set many same wants is h =
    let within : All (λ f. f < length farm.problem.least) set = λ k d l. omega (arith, h.within k d l, wants.many) in
    let sums : sum_by (λ f. get_or needs f 0) set ≡ sum_by (need farm) set = sum_by_agree (λ f. get_or needs f 0) (need farm) set (λ k d l. wants.each (get_or set k d) (within k d l)) in
    let now : neighbours (may_do farm.problem) machines set ≡ neighbours (may_do farm.problem) (machines_of farm.problem) set = ap (λ ms. neighbours (may_do farm.problem) ms set) same in
    record { rising = h.rising; within = within; exact = omega (arith, h.exact, sums, now, is) }
