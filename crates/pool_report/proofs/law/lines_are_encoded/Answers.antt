use Rattle.pool_report.proofs.Encoded.{lines_encoded}
use Rattle.pool_report.proofs.law.lines_are_encoded.Goals as goal

pub returns : goal.returns
returns c = lines_encoded
