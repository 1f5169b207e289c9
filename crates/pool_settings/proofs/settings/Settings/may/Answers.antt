use Rattle.std.proofs.Common.{eqb, ap, ◌∙◌}
use Rattle.std.specs.List.{list_any}
use Rattle.plan_model.proofs.Search.{list_any-searched}
use Rattle.pool_settings.proofs.settings.Settings.may.Goals as goal

pub returns : goal.returns
returns c =
    let row = c.permitted.result.now in
    record { row = c.is_ok.ensures.value ∙ list_any-searched row c.args.function c.binary_search.result c.permitted.ensures.rising c.binary_search.ensures.position ∙ ap (list_any (λ g. eqb g c.args.function)) c.permitted.ensures.row }
