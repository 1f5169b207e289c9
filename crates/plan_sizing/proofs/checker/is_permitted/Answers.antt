use Rattle.std.proofs.Common.{◌<◌, ℕ, length, ap, arith}
use Rattle.plan_model.specs.Planning.{Instance}
use Rattle.plan_sizing.specs.Sizing.{grown}
use Rattle.plan_sizing.proofs.Grown.{grown_machines}
use Rattle.plan_sizing.proofs.checker.is_permitted.Goals as goal

pub may_have-requires : goal.may_have-requires
may_have-requires c =
    let farm = c.args.farm.now in
    let live = (grown farm c.args.added.now).live in
    let inside : c.loop-place.place < length live = omega (arith, c.loop-place-test.true, c.workers-place-end.ensures.all) in
    omega (arith, ap (λ (w : ℕ × ℕ). w.1) c.worker_at-slot.ensures, grown_machines farm c.args.added.now c.facts.ensures c.requires.machines c.loop-place.place (0, 0) inside, ap (λ (i : Instance). length i.may) c.input.ensures)
