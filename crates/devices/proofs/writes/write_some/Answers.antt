use Rattle.devices.proofs.Telling.{kept_then_taken, kept_then_none, kept_twice}
use Rattle.devices.proofs.writes.write_some.Goals as goal

pub returns-in-Ok-eq0-clause-bytes : goal.returns-in-Ok-eq0-clause-bytes
returns-in-Ok-eq0-clause-bytes g c = kept_then_none _ _ _ c.in-Ok-eq0.field-0 c.args.bytes.now c.in-Ok-eq0.field-0-test c.loop-attempt.invariant c.in-Ok-eq0.ensures.bytes

pub returns-in-Ok-clause-bytes : goal.returns-in-Ok-clause-bytes
returns-in-Ok-clause-bytes g c = kept_then_taken _ _ _ _ c.loop-attempt.invariant c.in-Ok.ensures.bytes

pub returns-then-ne-clause-bytes : goal.returns-then-ne-clause-bytes
returns-then-ne-clause-bytes g c = kept_twice _ _ _ c.loop-attempt.invariant c.in-Err.ensures.bytes

pub returns-clause-bytes : goal.returns-clause-bytes
returns-clause-bytes g c = c.loop-attempt.invariant
