use Rattle.std.proofs.Common.{◌≡◌, ◌∙◌, ap}
use Rattle.std.proofs.lemmas.Result.{IfOk-weaker}
use Rattle.clap.specs.Simple.{app_of}
use Rattle.command_words.specs.Words.{overview_app, with_plans, with_runs, with_sizes, with_trials}
use Rattle.command_words.proofs.operands.program.Goals as goal

-- each command is added to what has those before it
pub returns : goal.returns
returns c =
    let planning = c.in_ok-planning.ensures.app ∙ ap with_plans c.bare_program.ensures.app in
    let sizing = c.in_ok-sizing.ensures.app ∙ ap with_sizes planning in
    let trying = c.in_ok-trying.ensures.app ∙ ap with_trials sizing in record {
      app = IfOk-weaker c.add_runs.result (λ p. app_of p ≡ with_runs (app_of c.in_ok-trying.trying)) (λ p. app_of p ≡ overview_app)
          (λ p is. is ∙ ap with_runs trying) c.add_runs.ensures.app;
    }
