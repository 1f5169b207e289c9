use Rattle.std.proofs.Common.{◌≡◌, ◌<◌, ◌&&◌, ℕ, Bool, leb, length, max, fold, get_or, sym, ap, ◌∙◌, arith}
use Rattle.std.specs.List.{list_all}
use Rattle.plan_model.specs.Planning.{workers_on, counted_waiting, cost, assigned}
use Rattle.plan_model.proofs.Ranges.{list_all-range_more, fold-range_more, take-range_all}
use Rattle.plan_model.proofs.checker.outcome_of.Goals.{then-meets_least, else-meets_least, then-meets_most, else-meets_most}
use Rattle.plan_model.proofs.checker.outcome_of.Goals as goal

pub loop-number-preserved : goal.loop-number-preserved
loop-number-preserved c =
    let i = c.args.input.now in
    let n = c.loop-number.number in
    let on : ℕ → ℕ = workers_on i (assigned c.args.plan.now) in
    let p : ℕ → Bool = λ f. leb (get_or i.least f 0) (on f) in
    let q : ℕ → Bool = λ f. leb (on f) (get_or i.most f 0) in
    let h : ℕ → ℕ → ℕ = λ worst f. max worst (cost (counted_waiting i f) (on f)) in
    let below : n < length i.least = omega (arith, c.loop-number-test.true, c.functions-number-end.ensures.all) in
    let at = c.count_workers-counts.ensures.each n (omega (arith, below, c.functions-number-end.ensures.all, c.functions-number-end.ensures.few)) in
    let more_least = list_all-range_more p (length i.least) n below in
    let more_most = list_all-range_more q (length i.least) n below in
    let here : c.cost.result ≡ cost (counted_waiting i n) (on n) = c.cost.ensures ∙ ap (λ w. cost w (get_or c.count_workers-counts.result n 0)) (c.counted_waiting-waiting.ensures ∙ ap (counted_waiting i) c.new.ensures) ∙ ap (cost (counted_waiting i n)) at in (
      elim c.if-meets_least.branch [
        | then-meets_least w ↦ w.meets_least-is ∙ ap (λ l. leb (get_or l n 0) (get_or c.count_workers-counts.result n 0)) w.least.ensures ∙ ap (leb (get_or i.least n 0)) at ∙ sym (more_least ∙ ap (λ b. b && p n) (sym c.loop-number.invariant.0 ∙ w.if-meets_least.true))
        | else-meets_least w ↦ w.meets_least-is ∙ w.if-meets_least.false ∙ sym (more_least ∙ ap (λ b. b && p n) (sym c.loop-number.invariant.0 ∙ w.if-meets_least.false))
      ],
      elim c.if-meets_most.branch [
        | then-meets_most w ↦ w.meets_most-is ∙ ap (λ l. leb (get_or c.count_workers-counts.result n 0) (get_or l n 0)) w.most.ensures.all ∙ ap (λ m. leb m (get_or i.most n 0)) at ∙ sym (more_most ∙ ap (λ b. b && q n) (sym c.loop-number.invariant.1 ∙ w.if-meets_most.true))
        | else-meets_most w ↦ w.meets_most-is ∙ w.if-meets_most.false ∙ sym (more_most ∙ ap (λ b. b && q n) (sym c.loop-number.invariant.1 ∙ w.if-meets_most.false))
      ],
      c.max-backlog.ensures ∙ ap (λ b. max b c.cost.result) c.loop-number.invariant.2 ∙ ap (max _) here ∙ sym (fold-range_more h 0 (length i.least) n below),
    )

pub returns-clause-least : goal.returns-clause-least
returns-clause-least c =
    let i = c.args.input.now in
    let p : ℕ → Bool = λ f. leb (get_or i.least f 0) (workers_on i (assigned c.args.plan.now) f) in
    c.loop-number.invariant.0 ∙ ap (list_all p) (take-range_all (length i.least) c.loop-number.number (omega arith))

pub returns-clause-most : goal.returns-clause-most
returns-clause-most c =
    let i = c.args.input.now in
    let p : ℕ → Bool = λ f. leb (workers_on i (assigned c.args.plan.now) f) (get_or i.most f 0) in
    c.loop-number.invariant.1 ∙ ap (list_all p) (take-range_all (length i.least) c.loop-number.number (omega arith))

pub returns-clause-backlog : goal.returns-clause-backlog
returns-clause-backlog c =
    let i = c.args.input.now in
    let h : ℕ → ℕ → ℕ = λ worst f. max worst (cost (counted_waiting i f) (workers_on i (assigned c.args.plan.now) f)) in
    c.loop-number.invariant.2 ∙ ap (fold h 0) (take-range_all (length i.least) c.loop-number.number (omega arith))
