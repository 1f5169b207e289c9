use Rattle.std.proofs.Common.{◌≡◌, ap, ◌∙◌, subst}
use Rattle.std.specs.Prelude.{IfSome}
use Rattle.std.specs.Option.{option_copied}
use Rattle.plan_model.specs.Planning.{Instance}
use Rattle.level_search.specs.Steady.{IsSteady}
use Rattle.pool_core.specs.Book.{Book}
use Rattle.pool_core.proofs.Inputs.{steady_of}
use Rattle.pool_core.proofs.pool.Pool.solution.Goals as goal

pub returns-clause-steady : goal.returns-clause-steady
returns-clause-steady c =
    let previous : option_copied c.as_ref.result ≡ c.args.self.now.state.previous = c.as_ref.ensures.value ∙ ap (λ (b : Book). b.state.previous) c.self.view_is in
    subst (λ (i : Instance). IfSome c.args.self.now.state.previous (λ plan. IsSteady i plan c.in_ok-solved.solved.answer)) c.in_ok-input.ensures.input
    (steady_of c.in_ok-input.input c.in_ok-solved.solved.answer c.as_ref.result c.args.self.now.state.previous previous c.in_ok-solved.ensures.steady)
