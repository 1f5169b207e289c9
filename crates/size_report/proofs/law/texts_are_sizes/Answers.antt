use Rattle.size_report.proofs.Grammars.{texts_sizes}
use Rattle.size_report.proofs.law.texts_are_sizes.Goals as goal

pub returns : goal.returns
returns c = texts_sizes c.args.settings.now c.facts.ensures
