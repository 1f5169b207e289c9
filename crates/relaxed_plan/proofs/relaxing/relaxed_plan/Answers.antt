use Rattle.std.proofs.Common.{◌∷◌, arith, subst, sym, ◌∙◌}
use Rattle.plan_model.specs.Planning.{Instance}
use Rattle.plan_model.specs.Shown.{Shown}
use Rattle.plan_model.specs.declared.answer.Answer.{Answer}
use Rattle.relaxed_plan.specs.Relaxed.{let_off_of}
use Rattle.relaxed_plan.proofs.Counts.{end_in_turn}
use Rattle.relaxed_plan.proofs.Solves.{goes_on-first, goes_on-next}
use Rattle.relaxed_plan.proofs.relaxing.relaxed_plan.Goals as goal

pub loop-solve-init : goal.loop-solve-init
loop-solve-init c = goes_on-first c.args.input.now c.args.short.now c.in_ok-let_off_now.let_off_now c.requires.short c.in_ok-let_off_now.ensures

pub loop-solve-preserved : goal.loop-solve-preserved
loop-solve-preserved c =
    let i = c.args.input.now in
    let these = c.loop-solve.let_off_now in
    let left = subst (λ (j : Instance). Shown j c.in_ok-certified.certified.answer) c.in_ok-left.ensures c.in_ok-certified.ensures.shown in
    let lacks = subst (λ (answer : Answer). Shown (let_off_of i these) answer) (sym c.answer.ensures.answer ∙ c.in-NoPlan.is) left in
    goes_on-next i c.args.short.now these c.in-NoPlan.short c.in_ok-let_off_now-in-NoPlan.let_off_now c.loop-solve._solve c.facts.ensures c.loop-solve.invariant lacks c.in_ok-let_off_now-in-NoPlan.ensures

pub returns-clause-given_up : goal.returns-clause-given_up
returns-clause-given_up c =
    let before = c.loop-solve.invariant in
    (before.later, before.off.in_turn, omega (arith, before.from, c.loop-solve-test.false))

pub returns-clause-many : goal.returns-clause-many
returns-clause-many c =
    let before = c.loop-solve.invariant in
    omega (arith, before.from, c.loop-solve-test.false, end_in_turn c.args.input.now (c.args.short.now ∷ before.later) c.facts.ensures before.off.in_turn)

pub returns-clause-served : goal.returns-clause-served
returns-clause-served c = omega (arith, c.loop-solve.invariant.served, c.loop-solve-test.false)
