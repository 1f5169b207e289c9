use Rattle.std.proofs.Common.{◌∙◌, ◌++◌, ap, append_assoc, refl, string_bytes}
use Rattle.settings_command.specs.Remarks.{cut_history_remark, limit_remarks, serve_remarks}
use Rattle.settings_command.proofs.farm_remarks.push_serve_remarks.Goals as goal

pub returns : goal.returns
returns c =
    let p = c.args.settings.now in
    let told = c.in_ok-push_limit_remarks.ensures in
    let short = told.1.0 in
    let out = string_bytes c.args.out.now in
    let history = cut_history_remark p in (
      serve_remarks p short,
      (short, told.1.1, refl),
      c.in_ok-push_cut_history.ensures ∙ ap (λ t. t ++ history) (told.2 ∙ ap (λ t. out ++ t) told.1.2) ∙ append_assoc out (limit_remarks p short) history,
    )
