use Rattle.std.proofs.Common.{◌^◌, ◌<◌, All, ap, subst, ◌∙◌}
use Rattle.plan_model.specs.Planning.{Instance}
use Rattle.size_report.proofs.Enough.{IsTheirs, enough_read_back}
use Rattle.size_report.proofs.law.enough_reads_back.Goals as goal

pub returns : goal.returns
returns c =
    let theirs : IsTheirs c.args.settings.now c.args.farm.now = record {
      may = c.requires.of_these;
      slots = c.requires.slots;
      functions = c.requires.functions;
      least = subst (All (λ n. n < 2 ^ 32)) (c.least.ensures ∙ ap (λ (i : Instance). i.least) c.input.ensures) c.are_small.ensures;
    } in
    enough_read_back c.args.settings.now c.args.farm.now c.facts.ensures c.facts-2.ensures theirs c.args.added.now c.args.plan.now c.machines-machines.ensures.rising
    c.entries-entries.ensures.rising c.args.short.now c.requires.shown
