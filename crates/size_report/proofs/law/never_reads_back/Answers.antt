use Rattle.std.proofs.Common.{◌^◌, ◌<◌, All, ap, subst, ◌∙◌}
use Rattle.plan_model.specs.Planning.{Instance}
use Rattle.size_report.proofs.Never.{never_read}
use Rattle.size_report.proofs.law.never_reads_back.Goals as goal

pub returns : goal.returns
returns c =
    never_read c.args.settings.now c.facts.ensures c.args.farm.now c.args.obstacle c.facts-2.ensures c.requires.functions
    (subst (All (λ n. n < 2 ^ 32)) (c.least.ensures ∙ ap (λ (i : Instance). i.least) c.input.ensures) c.are_small.ensures)
    (subst (All (λ n. n < 2 ^ 32)) (c.most.ensures.all ∙ ap (λ (i : Instance). i.most) c.input-2.ensures) c.are_small-2.ensures) c.requires.shown
