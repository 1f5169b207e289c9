use Rattle.gear_packets.proofs.Courses.{gives_its_stream}
use Rattle.gear_packets.proofs.laws.gives_its_stream.Goals as goal

pub returns : goal.returns
returns c = gives_its_stream
