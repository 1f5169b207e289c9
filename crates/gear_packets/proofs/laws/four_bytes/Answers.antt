use Rattle.gear_packets.proofs.Frames.{four_bytes}
use Rattle.gear_packets.proofs.laws.four_bytes.Goals as goal

pub returns : goal.returns
returns c = four_bytes
