use Rattle.gear_packets.proofs.Unique.{one_encoding}
use Rattle.gear_packets.proofs.laws.one_encoding.Goals as goal

pub returns : goal.returns
returns c = one_encoding
