use Rattle.std.proofs.Common.{Some, ap, refl}
use Rattle.byte_io.proofs.Scripts.{reads_bytes, reads_tell}
use Rattle.byte_io.proofs.doubles.ScriptSource.take.Goals as goal

pub returns-clause-bytes : goal.returns-clause-bytes
returns-clause-bytes c = ap Some (reads_bytes c.args.self.now c.read.new.buffer c.read.result c.read.new.self c.read.ensures.reads)

pub returns-clause-pauses : goal.returns-clause-pauses
returns-clause-pauses c = ap Some (reads_tell c.args.self.now c.read.new.buffer c.read.result c.read.new.self c.read.ensures.reads).pauses

pub returns-clause-fails : goal.returns-clause-fails
returns-clause-fails c = (reads_tell c.args.self.now c.read.new.buffer c.read.result c.read.new.self c.read.ensures.reads).failures

pub returns-clause-ends : goal.returns-clause-ends
returns-clause-ends c = (reads_tell c.args.self.now c.read.new.buffer c.read.result c.read.new.self c.read.ensures.reads).ends

pub returns-clause-output : goal.returns-clause-output
returns-clause-output c =
    let tells = reads_tell c.args.self.now c.read.new.buffer c.read.result c.read.new.self c.read.ensures.reads in
    rw (tells.output, tells.unwritten) refl
