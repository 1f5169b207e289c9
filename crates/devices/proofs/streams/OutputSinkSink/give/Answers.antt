use Rattle.devices.proofs.Telling.{holds_more}
use Rattle.devices.proofs.streams.OutputSinkSink.give.Goals as goal

pub invariant_of-self : goal.invariant_of-self
invariant_of-self g c =
    holds_more (g.W.Write.contents c.self.inside.first.value) (g.W.Write.contents c.self.inside.writer)
    (g.W.Write.contents c.write_some-given.new.writer) c.write_some-given.result c.args.bytes.now c.self.invariant c.write_some-given.ensures.bytes

pub invariant_of-self-else-is_err : goal.invariant_of-self-else-is_err
invariant_of-self-else-is_err g c =
    holds_more (g.W.Write.contents c.self.inside.first.value) (g.W.Write.contents c.self.inside.writer)
    (g.W.Write.contents c.write_some-given.new.writer) c.write_some-given.result c.args.bytes.now c.self.invariant c.write_some-given.ensures.bytes
