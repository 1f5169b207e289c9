use Rattle.pool_report.proofs.Grammars.{texts_reports}
use Rattle.pool_report.proofs.law.texts_are_reports.Goals as goal

pub returns : goal.returns
returns c = texts_reports c.args.settings.now c.facts.ensures
