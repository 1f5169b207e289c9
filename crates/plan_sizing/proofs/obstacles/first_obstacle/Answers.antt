use Rattle.std.proofs.Common.{◌≡◌, ◌+◌, ◌<◌, ℕ, true, false, length, drop, is_some, Option, None, Some, refl, sym, ap, ◌∙◌, arith}
use Rattle.std.specs.List.{range_with_len}
use Rattle.std.specs.Option.{option_or}
use Rattle.std.proofs.lemmas.Bool.{false≢true}
use Rattle.std.proofs.lemmas.List.{at_drop_more, at_drop_all}
use Rattle.std.proofs.lemmas.List.FromFn.{length-range_with_len}
use Rattle.plan_model.specs.Planning.{Instance}
use Rattle.plan_model.proofs.Ranges.{at_place}
use Rattle.plan_sizing.specs.Sizing.{Farm, first_of, obstacle_at}
use Rattle.plan_sizing.specs.declared.size.Obstacle.{Obstacle}
use Rattle.plan_sizing.proofs.obstacles.first_obstacle.Goals as goal

or_some : (o p : Option Obstacle) → is_some o ≡ true → option_or o p ≡ o
or_some None p h = absurd (false≢true h)
or_some (Some x) p h = refl

or_none : (o p : Option Obstacle) → is_some o ≡ false → option_or o p ≡ p
or_none None p h = refl
or_none (Some x) p h = absurd (false≢true (sym h))

-- one function more
step : (farm : Farm) (n k : ℕ) → k < n → first_of farm (drop k (range_with_len 0 n)) ≡ option_or (obstacle_at farm k) (first_of farm (drop (k + 1) (range_with_len 0 n)))
step farm n k below =
    at_drop_more (first_of farm) (range_with_len 0 n) k 0 (omega (arith, below, length-range_with_len 0 n))
    ∙ ap (λ f. option_or (obstacle_at farm f) (first_of farm (drop (k + 1) (range_with_len 0 n)))) (at_place n k below)

pub returns-then-is_some : goal.returns-then-is_some
returns-then-is_some c =
    let farm = c.args.farm.now in
    let n : ℕ = length farm.problem.least in
    let k : ℕ = c.loop-number.number in
    let many : c.functions-number-end.result ≡ n = c.functions-number-end.ensures.all ∙ ap (λ (i : Instance). length i.least) c.input.ensures in
    let here : c.obstacle_at-obstacle.result ≡ obstacle_at farm k = c.obstacle_at-obstacle.ensures ∙ ap (obstacle_at farm) c.new.ensures in
    let some : is_some (obstacle_at farm k) ≡ true = ap is_some (sym here) ∙ sym c.is_some.ensures ∙ c.if-is_some.true in
    here ∙ sym (c.loop-number.invariant ∙ step farm n k (omega (arith, many, c.loop-number-test.true)) ∙ or_some (obstacle_at farm k) (first_of farm (drop (k + 1) (range_with_len 0 n))) some)

pub loop-number-preserved : goal.loop-number-preserved
loop-number-preserved c =
    let farm = c.args.farm.now in
    let n : ℕ = length farm.problem.least in
    let k : ℕ = c.loop-number.number in
    let many : c.functions-number-end.result ≡ n = c.functions-number-end.ensures.all ∙ ap (λ (i : Instance). length i.least) c.input.ensures in
    let here : c.obstacle_at-obstacle.result ≡ obstacle_at farm k = c.obstacle_at-obstacle.ensures ∙ ap (obstacle_at farm) c.new.ensures in
    let none : is_some (obstacle_at farm k) ≡ false = ap is_some (sym here) ∙ sym c.is_some.ensures ∙ c.if-is_some.false in
    c.loop-number.invariant ∙ step farm n k (omega (arith, many, c.loop-number-test.true)) ∙ or_none (obstacle_at farm k) (first_of farm (drop (k + 1) (range_with_len 0 n))) none

pub returns : goal.returns
returns c =
    let farm = c.args.farm.now in
    let n : ℕ = length farm.problem.least in
    let many : c.functions-number-end.result ≡ n = c.functions-number-end.ensures.all ∙ ap (λ (i : Instance). length i.least) c.input.ensures in
    sym (c.loop-number.invariant ∙ at_drop_all (first_of farm) (range_with_len 0 n) c.loop-number.number (omega (arith, many, c.loop-number-test.false, length-range_with_len 0 n)))
