use Rattle.std.proofs.Common.{Some, ap}
use Rattle.byte_io.proofs.Scripts.{text_bytes}
use Rattle.byte_io.proofs.memory.SliceSourceSource.take.Goals as goal

pub returns-clause-bytes : goal.returns-clause-bytes
returns-clause-bytes c = ap Some (text_bytes c.args.self.now c.read.new.buffer c.read.result c.read.new.self c.read.ensures.reads)
