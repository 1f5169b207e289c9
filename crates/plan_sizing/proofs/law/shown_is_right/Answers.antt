use Rattle.plan_sizing.proofs.Right.{shown_right}
use Rattle.plan_sizing.proofs.law.shown_is_right.Goals as goal

pub returns : goal.returns
returns c = shown_right c.args.farm.now c.args.size.now c.facts.ensures c.requires
