use Rattle.std.proofs.Common.{◌^◌, ◌<◌, All, ap, subst, ◌∙◌}
use Rattle.plan_model.specs.Planning.{Instance}
use Rattle.size_report.proofs.TooMany.{too_many_read}
use Rattle.size_report.proofs.law.too_many_reads_back.Goals as goal

pub returns : goal.returns
returns c =
    too_many_read c.args.settings.now c.args.farm.now c.args.added c.args.short.now c.facts.ensures c.facts-2.ensures c.requires.functions
    (subst (All (λ n. n < 2 ^ 32)) (c.least.ensures ∙ ap (λ (i : Instance). i.least) c.input.ensures) c.are_small.ensures) c.requires.shown
