use Rattle.std.proofs.Common.{append_assoc, rules}
use Rattle.settings_command.proofs.services_meaning.push_no_resend_line.Goals as goal

pub returns : goal.returns
returns c = search (rules, append_assoc)
