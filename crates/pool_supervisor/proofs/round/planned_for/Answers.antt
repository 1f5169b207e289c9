use Rattle.std.proofs.Common.{◌≡◌, List, Option, None, Some, ℕ, Bor, sym, ap, subst}
use Rattle.std.specs.Prelude.{IfSome}
use Rattle.std.specs.Option.{option_copied}
use Rattle.plan_model.specs.Planning.{Instance}
use Rattle.plan_model.specs.declared.answer.Answer.{Answer}
use Rattle.level_search.specs.Steady.{IsSteady}
use Rattle.pool_supervisor.proofs.round.planned_for.Goals as goal

-- what the planner says of the plan that it was lent it says of the plan
steady_of : (i : Instance) (answer : Answer) (lent : Option (Bor (List (ℕ × Option ℕ)))) (previous : Option (List (ℕ × Option ℕ))) → option_copied lent ≡ previous → IfSome lent (λ plan. IsSteady i plan.now answer) → IfSome previous (λ plan. IsSteady i plan answer)
steady_of i answer None previous e h = subst (λ (o : Option (List (ℕ × Option ℕ))). IfSome o (λ plan. IsSteady i plan answer)) e tt
steady_of i answer (Some lent) previous e h = subst (λ (o : Option (List (ℕ × Option ℕ))). IfSome o (λ plan. IsSteady i plan answer)) e h

pub returns-in-Ok : goal.returns-in-Ok
returns-in-Ok g c =
    let input = c.args.viewed.0 in
    let steady = steady_of input c.in-Ok.answer c.as_ref.result c.args.viewed.1 c.as_ref.ensures.value c.in-Ok.ensures.steady in (
      ap (λ x. x.input) c.of.ensures,
      subst (λ (a : Answer). IfSome c.args.viewed.1 (λ plan. IsSteady input plan a)) (sym (ap (λ x. x.answer) c.of.ensures)) steady,
    )
