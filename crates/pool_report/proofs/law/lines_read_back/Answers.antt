use Rattle.pool_report.proofs.Written.{lines_read}
use Rattle.pool_report.proofs.law.lines_read_back.Goals as goal

pub returns : goal.returns
returns c = lines_read
