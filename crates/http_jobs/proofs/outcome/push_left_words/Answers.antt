use Rattle.std.proofs.Common.{append_assoc, rules}
use Rattle.http_jobs.proofs.outcome.push_left_words.Goals as goal

pub returns : goal.returns
returns c = search (rules, append_assoc)
