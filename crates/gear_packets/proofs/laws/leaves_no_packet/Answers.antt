use Rattle.gear_packets.proofs.Courses.{leaves_no_packet}
use Rattle.gear_packets.proofs.laws.leaves_no_packet.Goals as goal

pub returns : goal.returns
returns c = leaves_no_packet
