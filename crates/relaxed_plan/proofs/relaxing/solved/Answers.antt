use Rattle.std.proofs.Common.{subst, sym}
use Rattle.std.specs.Prelude.{IfSome}
use Rattle.plan_model.specs.Certificate.{Certificate}
use Rattle.level_search.specs.Steady.{IsSteady}
use Rattle.relaxed_plan.proofs.relaxing.solved.Goals as goal

pub returns-clause-steady : goal.returns-clause-steady
returns-clause-steady c =
    subst (λ (made : Certificate). IfSome c.args.previous (λ plan. IsSteady made.input plan.now made.answer)) (sym c.of.ensures) c.in_ok-solved.ensures.steady
