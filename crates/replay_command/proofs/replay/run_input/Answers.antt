use Rattle.std.proofs.Common.{◌∙◌, ℕ, List, string_bytes, subst}
use Rattle.pool_replay.specs.Run.{IsRun}
use Rattle.std.proofs.lemmas.Result.{err_from_is_err_and}
use Rattle.plan_commands.proofs.Posing.{meets_nothing, nothing_from}
use Rattle.replay_command.proofs.Replaying.{refused_by, untaken}
use Rattle.replay_command.proofs.replay.run_input.Goals as goal

pub returns-in_err-settings : goal.returns-in_err-settings
returns-in_err-settings g c =
    let side = g.R.Device.input c.args.source.now in
    let p = err_from_is_err_and c.from_residual.result c.from_residual.ensures.1 in (
      nothing_from side,
      meets_nothing side,
      rw (p.1, p.2) (refused_by c.args.settings_text.now side c.in_err-settings.field-0.0 c.in_err-settings.ensures.reads),
    )

pub returns-in_err-input : goal.returns-in_err-input
returns-in_err-input g c =
    let told = c.in_err-input.ensures.whole in
    let p = err_from_is_err_and c.from_residual-in_err-input.result c.from_residual-in_err-input.ensures.1 in (
      told.0,
      told.1,
      rw (p.1, p.2) (untaken c.args.settings_text.now told.0 c.in_ok-settings.settings c.in_ok-settings.ensures.reads c.in_err-input.field-0.0 told.2),
    )

pub returns : goal.returns
returns g c =
    let told = c.in_ok-input.ensures.whole in (
      told.0,
      told.1,
      (
        c.in_ok-settings.settings,
        c.in_ok-settings.ensures.reads,
        told.2.1,
        subst (λ (text : List ℕ). IsRun c.in_ok-settings.settings text (string_bytes c.run.result.output) c.run.result.end) (c.deref.ensures.value ∙ told.2.0) c.run.ensures.run,
      ),
    )
