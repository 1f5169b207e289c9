use Rattle.std.proofs.Common.{◌∙◌, ◌∷◌, [], length-append, sym, refl, arith}
use Rattle.http_jobs.specs.declared.answers.Progress.TheVariants.{Partway}
use Rattle.http_jobs.proofs.Meanwhile.{after_looks, late_once, late_to, read_later}
use Rattle.http_jobs.proofs.answers.receive.Goals as goal

pub returns-then-is_late-clause-received : goal.returns-then-is_late-clause-received
returns-then-is_late-clause-received g c limits first seen h =
    let so_far = c.loop-turn.invariant.read limits first seen h in
    let look = c.is_late.ensures in
    let input = g.L.Device.input c.loop-turn.link in
    late_to limits c.args.bounds first input input (g.C.Clock.shown c.loop-turn.clock) (g.C.Clock.shown c.is_late.new.clock) (look.0 ∷ []) refl look.1
    (Partway c.loop-turn.reader) (so_far.0, so_far.1) (late_once c.args.bounds.deadline look.0 (sym look.2 ∙ c.if-is_late.true))

pub returns-in-Ok-Read-clause-received : goal.returns-in-Ok-Read-clause-received
returns-in-Ok-Read-clause-received g c limits first seen h =
    let so_far = c.loop-turn.invariant.read limits first seen h in
    let look = c.is_late.ensures in
    let input = g.L.Device.input c.loop-turn.link in
    let deadline = c.args.bounds.deadline in
    let later = g.C.Clock.shown c.is_late.new.clock in
    let reads = rw c.in-Ok-Read.field-0-is at c.in-Ok-Read.ensures.read in
    reads limits first (after_looks so_far.0 (look.0 ∷ [])) later
    (read_later limits c.args.bounds first input input (g.C.Clock.shown c.loop-turn.clock) later (look.0 ∷ []) refl look.1 so_far.0 c.loop-turn.reader so_far.1 (sym look.2 ∙ c.if-is_late.false, tt))

pub returns-in-Err-clause-received : goal.returns-in-Err-clause-received
returns-in-Err-clause-received g c limits first seen h =
    let so_far = c.loop-turn.invariant.read limits first seen h in
    let look = c.is_late.ensures in
    let input = g.L.Device.input c.loop-turn.link in
    let later = g.C.Clock.shown c.is_late.new.clock in
    c.in-Err.ensures.read limits first (after_looks so_far.0 (look.0 ∷ [])) later
    (read_later limits c.args.bounds first input input (g.C.Clock.shown c.loop-turn.clock) later (look.0 ∷ []) refl look.1 so_far.0 c.loop-turn.reader so_far.1 (sym look.2 ∙ c.if-is_late.false, tt))

pub returns-clause-received : goal.returns-clause-received
returns-clause-received g c limits first seen h =
    let so_far = c.loop-turn.invariant.read limits first seen h in
    record { seen = so_far.0; sees = so_far.1.has_seen.sees; why = (omega (arith, so_far.2), so_far.1.came) }

pub loop-turn-preserved : goal.loop-turn-preserved
loop-turn-preserved g c =
    let reading = rw c.in-Ok-Partway.field-0-is at c.in-Ok-Partway.ensures.reading in
    let look = c.is_late.ensures in
    let input = g.L.Device.input c.loop-turn.link in
    let later = g.C.Clock.shown c.is_late.new.clock in
    let reads = rw c.in-Ok-Partway.field-0-is at c.in-Ok-Partway.ensures.read in
    record {
      reading = reading;
      unfailed = c.in-Ok-Partway.ensures.failures ∙ c.loop-turn.invariant.unfailed;
      unwritten = c.read_on.ensures.output ∙ c.loop-turn.invariant.unwritten;
      read = λ limits first seen h.
          let so_far = c.loop-turn.invariant.read limits first seen h in
          let on = reads limits first (after_looks so_far.0 (look.0 ∷ [])) later
          (read_later limits c.args.bounds first input input (g.C.Clock.shown c.loop-turn.clock) later (look.0 ∷ []) refl look.1 so_far.0 c.loop-turn.reader so_far.1 (sym look.2 ∙ c.if-is_late.false, tt)) in
          (_, on.3, omega (arith, so_far.2, on.2, length-append so_far.0.read on.0));
    }

pub loop-turn-init : goal.loop-turn-init
loop-turn-init g c = record {
  reading = c.requires.reading;
  unfailed = refl;
  unwritten = refl;
  read = λ limits first seen h. (seen, h, omega arith);
}
