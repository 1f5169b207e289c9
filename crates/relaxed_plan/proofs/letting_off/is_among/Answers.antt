use Rattle.std.proofs.Common.{eqb, ap, ◌∙◌}
use Rattle.std.specs.List.{list_any}
use Rattle.plan_model.proofs.Search.{list_any-searched}
use Rattle.relaxed_plan.proofs.letting_off.is_among.Goals as goal

pub returns : goal.returns
returns c =
    c.is_ok.ensures.value ∙ list_any-searched c.functions.result.now c.args.function c.binary_search.result (rw c.functions.ensures.all c.functions.ensures.rising) c.binary_search.ensures.position
    ∙ ap (list_any (λ g. eqb g c.args.function)) c.functions.ensures.all
