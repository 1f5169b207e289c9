use Rattle.std.proofs.lemmas.Bool.{false≢true}
use Rattle.devices.proofs.Telling.{gave_more}
use Rattle.devices.proofs.streams.InputSourceSource.take.Goals as goal

pub invariant_of-self-in-Ok : goal.invariant_of-self-in-Ok
invariant_of-self-in-Ok g c = (
  gave_more (g.R.Read.remaining c.self.inside.first.value) (g.R.Read.remaining c.self.inside.reader)
      (g.R.Read.remaining c.read.new.self) c.read.result c.read.new.buf c.self.invariant.0 c.read.ensures.bytes,
  λ e. absurd (false≢true e),
)
