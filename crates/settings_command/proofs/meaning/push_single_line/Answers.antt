use Rattle.std.proofs.Common.{append_assoc, rules}
use Rattle.settings_command.proofs.meaning.push_single_line.Goals as goal

pub returns : goal.returns
returns c = search (rules, append_assoc)
