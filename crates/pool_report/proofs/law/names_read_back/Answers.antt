use Rattle.pool_report.proofs.Found.{names_found}
use Rattle.pool_report.proofs.law.names_read_back.Goals as goal

pub returns : goal.returns
returns c = names_found c.args.settings.now c.facts.ensures
