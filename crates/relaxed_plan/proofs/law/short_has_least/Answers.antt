use Rattle.relaxed_plan.proofs.Counts.{short-has_least}
use Rattle.relaxed_plan.proofs.law.short_has_least.Goals as goal

pub returns : goal.returns
returns c = short-has_least c.args.input.now c.args.short.now c.facts.ensures c.requires
