use Rattle.std.proofs.Common.{◌∙◌, ◌++◌, ap, append_assoc, refl, string_bytes}
use Rattle.settings_command.specs.Remarks.{history_remark, jobless_remark, limit_remarks, run_remarks}
use Rattle.settings_command.proofs.farm_remarks.push_run_remarks.Goals as goal

pub returns : goal.returns
returns c =
    let p = c.args.settings.now in
    let told = c.in_ok-push_limit_remarks.ensures in
    let short = told.1.0 in
    let out = string_bytes c.args.out.now in
    let limits = limit_remarks p short in
    let history = history_remark p in
    let jobless = jobless_remark p in (
      run_remarks p short,
      (short, told.1.1, refl),
      c.in_ok-push_jobless.ensures
          ∙ ap (λ t. t ++ jobless) (c.in_ok-push_history.ensures ∙ ap (λ t. t ++ history) (told.2 ∙ ap (λ t. out ++ t) told.1.2) ∙ append_assoc out limits history)
          ∙ append_assoc out (limits ++ history) jobless,
    )
