use Rattle.std.proofs.Common.{◌≡◌, ◌&&◌, ℕ, Bool, leb, length, get_or, sym, ap, ◌∙◌, arith}
use Rattle.std.specs.List.{list_all}
use Rattle.std.proofs.lemmas.Bool.{le-leb, lt-leb}
use Rattle.plan_model.specs.Planning.{Instance, assigned, workers_on}
use Rattle.plan_model.proofs.Ranges.{list_all-range_fails, list_all-range_more, take-range_all}
use Rattle.plan_sizing.specs.Sizing.{grown}
use Rattle.plan_sizing.proofs.checker.meets_most.Goals as goal

pub returns-then-most-number : goal.returns-then-most-number
returns-then-most-number c =
    let farm = c.args.farm.now in
    let k : ℕ = c.loop-number.number in
    let on : ℕ → ℕ = workers_on (grown farm c.args.added.now) (assigned c.args.plan.now) in
    let many : c.functions-number-end.result ≡ length farm.problem.least = c.functions-number-end.ensures.all ∙ ap (λ (i : Instance). length i.least) c.input.ensures in
    let has : get_or c.args.counts.now k 0 ≡ on k = c.requires.each k (omega (arith, c.loop-number-test.true, c.functions-number-end.ensures.few)) in
    let most : get_or c.most.result.now k 0 ≡ get_or farm.problem.most k 0 = ap (λ m. get_or m k 0) c.most.ensures.all ∙ ap (λ (i : Instance). get_or i.most k 0) c.input-in-loop-number.ensures in
    sym (list_all-range_fails (λ f. leb (on f) (get_or farm.problem.most f 0)) (length farm.problem.least) k (omega (arith, many, c.loop-number-test.true)) (lt-leb (on k) (get_or farm.problem.most k 0) (omega (arith, has, most, c.if-most-number.true))))

pub loop-number-preserved : goal.loop-number-preserved
loop-number-preserved c =
    let farm = c.args.farm.now in
    let k : ℕ = c.loop-number.number in
    let on : ℕ → ℕ = workers_on (grown farm c.args.added.now) (assigned c.args.plan.now) in
    let p : ℕ → Bool = λ f. leb (on f) (get_or farm.problem.most f 0) in
    let many : c.functions-number-end.result ≡ length farm.problem.least = c.functions-number-end.ensures.all ∙ ap (λ (i : Instance). length i.least) c.input.ensures in
    let has : get_or c.args.counts.now k 0 ≡ on k = c.requires.each k (omega (arith, c.loop-number-test.true, c.functions-number-end.ensures.few)) in
    let most : get_or c.most.result.now k 0 ≡ get_or farm.problem.most k 0 = ap (λ m. get_or m k 0) c.most.ensures.all ∙ ap (λ (i : Instance). get_or i.most k 0) c.input-in-loop-number.ensures in
    list_all-range_more p (length farm.problem.least) k (omega (arith, many, c.loop-number-test.true)) ∙ ap (λ b. b && p k) c.loop-number.invariant ∙ le-leb (on k) (get_or farm.problem.most k 0) (omega (arith, has, most, c.if-most-number.false))

pub returns : goal.returns
returns c =
    let farm = c.args.farm.now in
    let on : ℕ → ℕ = workers_on (grown farm c.args.added.now) (assigned c.args.plan.now) in
    let p : ℕ → Bool = λ f. leb (on f) (get_or farm.problem.most f 0) in
    let many : c.functions-number-end.result ≡ length farm.problem.least = c.functions-number-end.ensures.all ∙ ap (λ (i : Instance). length i.least) c.input.ensures in
    sym c.loop-number.invariant ∙ ap (list_all p) (take-range_all (length farm.problem.least) c.loop-number.number (omega (arith, many, c.loop-number-test.false)))
