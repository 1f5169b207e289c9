use Rattle.std.proofs.Common.{sym}
use Rattle.text_pieces.proofs.Cutting.{parts_of_first}
use Rattle.gear_packets.proofs.meaning.read_job.Goals as goal

pub assign-requires : goal.assign-requires
assign-requires c = (parts_of_first 0 c.args.body.now (c.in-Some.handle.now, c.in-Some.rest.now) (sym c.in-Some.ensures)).1
