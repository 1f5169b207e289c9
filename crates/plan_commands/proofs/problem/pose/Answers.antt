use Rattle.std.proofs.Common.{◌∙◌, Ok, inr, map}
use Rattle.std.proofs.lemmas.Result.{err_from_is_err_and}
use Rattle.plan_commands.proofs.Posing.{load_refused, lost_refused, meets_nothing, nothing_from, posed, settings_refused}
use Rattle.plan_commands.proofs.problem.pose.Goals as goal

pub returns-in_err-settings-clause-posed : goal.returns-in_err-settings-clause-posed
returns-in_err-settings-clause-posed g c =
    let side = g.S.Device.input c.args.source.now in
    let p = err_from_is_err_and c.from_residual.result c.from_residual.ensures.1 in (
      nothing_from side,
      meets_nothing side,
      rw (p.1, p.2) (settings_refused c.args.settings_text.now (map (λ w. w.now) c.args.lost.now) side c.in_err-settings.field-0.0 c.in_err-settings.ensures.reads),
    )

pub returns-in_err-live-clause-posed : goal.returns-in_err-live-clause-posed
returns-in_err-live-clause-posed g c =
    let side = g.S.Device.input c.args.source.now in
    let p = err_from_is_err_and c.from_residual-in_err-live.result c.from_residual-in_err-live.ensures.1 in (
      nothing_from side,
      meets_nothing side,
      rw (p.1, p.2) (lost_refused c.args.settings_text.now (map (λ w. w.now) c.args.lost.now) side c.in_ok-settings.settings c.in_err-live.field-0.0
          c.in_ok-settings.ensures.reads c.in_err-live.ensures.unknown),
    )

pub returns-in_err-input-clause-posed : goal.returns-in_err-input-clause-posed
returns-in_err-input-clause-posed g c =
    let p = err_from_is_err_and c.from_residual-in_err-input.result c.from_residual-in_err-input.ensures.1 in
    let told = c.in_ok-load.ensures in
    (told.0, told.1, rw (p.1, p.2) (Ok c.in_ok-settings.settings, c.in_ok-settings.ensures.reads, inr told.2.1))

pub returns-in_err-load-clause-posed : goal.returns-in_err-load-clause-posed
returns-in_err-load-clause-posed g c =
    let p = err_from_is_err_and c.from_residual-in_err-load.result c.from_residual-in_err-load.ensures.1 in
    let told = c.in_err-load.ensures in (
      told.0,
      told.1,
      rw (p.1, p.2) (load_refused c.args.settings_text.now (map (λ w. w.now) c.args.lost.now) told.0 c.in_ok-settings.settings
          c.in_err-load.field-0.0 c.in_ok-settings.ensures.reads c.in_ok-live.ensures.known told.2),
    )

pub returns-clause-posed : goal.returns-clause-posed
returns-clause-posed g c =
    let told = c.in_ok-load.ensures in (
      told.0,
      told.1,
      posed c.args.settings_text.now (map (λ w. w.now) c.args.lost.now) told.0 c.in_ok-settings.settings c.deref.result.now
          c.in_ok-load.load c.in_ok-input.input c.in_ok-settings.ensures.reads c.in_ok-live.ensures.known (c.deref.ensures.value ∙ c.in_ok-live.ensures.ok) told.2
          c.in_ok-input.ensures,
    )

pub returns-clause-of_settings : goal.returns-clause-of_settings
returns-clause-of_settings g c = (_, _, c.in_ok-input.ensures)
