use Rattle.std.proofs.Common.{◌-◌, [], Ok, Err, arith, inl, inr, length, refl, subst}
use Rattle.std.proofs.lemmas.Result.{err_from_is_err_and}
use Rattle.byte_io.specs.Device.{FitsBuffer}
use Rattle.byte_io.specs.Pieces.{brought, met_then}
use Rattle.byte_io.specs.Sides.{Meets}
use Rattle.byte_io.specs.declared.device.Took.TheVariants as took
use Rattle.byte_io.proofs.Pieces.{meets_then, read_met}
use Rattle.byte_io.proofs.patience.Patience.read.Goals as goal

pub returns-in_err-count : goal.returns-in_err-count
returns-in_err-count g c =
    let so_far = c.loop-count.invariant in
    let first = g.S.Device.input c.args.source.now in
    let before = g.S.Device.input c.loop-count.source in
    let after = g.S.Device.input c.take.new.self in
    let waited = brought [] (c.loop-count.self-inside.timeouts - c.self.inside.timeouts) before.has_ended in
    let one = read_met c.take.new.buffer (Err c.in_err-count.field-0.0) in
    let read : Meets before one after = (c.in_err-count.ensures.bytes, c.in_err-count.ensures.pauses, c.in_err-count.ensures.fails, c.in_err-count.ensures.ends) in
    let p = err_from_is_err_and c.from_residual.result c.from_residual.ensures.1 in
    record { piece = (met_then waited one, meets_then first before after waited one so_far.met read, rw p.1 (refl, inl (refl, omega (arith, so_far.since, so_far.few)))) }

pub returns-in-Bytes : goal.returns-in-Bytes
returns-in-Bytes g c =
    let so_far = c.loop-count.invariant in
    let first = g.S.Device.input c.args.source.now in
    let before = g.S.Device.input c.loop-count.source in
    let after = g.S.Device.input c.take.new.self in
    let waited = brought [] (c.loop-count.self-inside.timeouts - c.self.inside.timeouts) before.has_ended in
    let one = read_met c.take.new.buffer (Ok (took.Bytes c.in-Bytes.count)) in
    let read : Meets before one after = subst (λ t. Meets before (read_met c.take.new.buffer (Ok t)) after) c.in-Bytes.is (c.in_ok-count.ensures.bytes, c.in_ok-count.ensures.pauses, c.in_ok-count.ensures.fails, c.in_ok-count.ensures.ends) in
    let fits = subst (FitsBuffer (length c.take.new.buffer)) c.in-Bytes.is c.in_ok-count.ensures.within in
    record { piece = (met_then waited one, meets_then first before after waited one so_far.met read, (fits.0, fits.1, (refl, refl, refl, omega (arith, so_far.since), so_far.few))) }

pub returns-in-Ended : goal.returns-in-Ended
returns-in-Ended g c =
    let so_far = c.loop-count.invariant in
    let first = g.S.Device.input c.args.source.now in
    let before = g.S.Device.input c.loop-count.source in
    let after = g.S.Device.input c.take.new.self in
    let waited = brought [] (c.loop-count.self-inside.timeouts - c.self.inside.timeouts) before.has_ended in
    let one = read_met c.take.new.buffer (Ok took.Ended) in
    let read : Meets before one after = subst (λ t. Meets before (read_met c.take.new.buffer (Ok t)) after) c.in-Ended.is (c.in_ok-count.ensures.bytes, c.in_ok-count.ensures.pauses, c.in_ok-count.ensures.fails, c.in_ok-count.ensures.ends) in
    record { piece = (met_then waited one, meets_then first before after waited one so_far.met read, (refl, refl, refl, omega (arith, so_far.since), so_far.few)) }

pub returns-then-self-eq-MAX_TIMEOUTS : goal.returns-then-self-eq-MAX_TIMEOUTS
returns-then-self-eq-MAX_TIMEOUTS g c =
    let so_far = c.loop-count.invariant in
    let first = g.S.Device.input c.args.source.now in
    let before = g.S.Device.input c.loop-count.source in
    let after = g.S.Device.input c.take.new.self in
    let waited = brought [] (c.loop-count.self-inside.timeouts - c.self.inside.timeouts) before.has_ended in
    let one = read_met c.take.new.buffer (Ok took.Lull) in
    let read : Meets before one after = subst (λ t. Meets before (read_met c.take.new.buffer (Ok t)) after) c.in-Lull.is (c.in_ok-count.ensures.bytes, c.in_ok-count.ensures.pauses, c.in_ok-count.ensures.fails, c.in_ok-count.ensures.ends) in
    record { piece = (met_then waited one, meets_then first before after waited one so_far.met read, (refl, inr (refl, omega (arith, so_far.since, so_far.few, c.if-self-eq-MAX_TIMEOUTS.true)))) }
