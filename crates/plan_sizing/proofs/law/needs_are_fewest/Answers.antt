use Rattle.plan_sizing.proofs.Needs.{need_fits, need_least}
use Rattle.plan_sizing.proofs.law.needs_are_fewest.Goals as goal

pub returns : goal.returns
returns c f n = (
  need_fits c.args.farm.now f n c.facts.ensures,
  λ both. need_least c.args.farm.now f n c.facts.ensures both.0 both.1,
)
