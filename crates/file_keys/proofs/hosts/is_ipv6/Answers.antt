use Rattle.std.proofs.Common.{◌∙◌}
use Rattle.file_keys.proofs.Addresses.{ipv6_parsed}
use Rattle.file_keys.proofs.hosts.is_ipv6.Goals as goal

pub returns : goal.returns
returns c = c.is_ok.ensures.value ∙ ipv6_parsed c.args.text.now c.parse_ascii.result c.parse_ascii.ensures
