use Rattle.std.specs.Io.KnownBytes.{Keeps}
use Rattle.devices.proofs.writes.write_some.Given as goal

-- what the writer holds is what it held first
abbrev pub invariant-loop-attempt : goal.invariant-loop-attempt
invariant-loop-attempt g l = Keeps (g.W.Write.contents l.fn.writer) (g.W.Write.contents l.writer)
