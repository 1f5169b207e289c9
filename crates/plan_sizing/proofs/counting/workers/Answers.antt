use Rattle.std.proofs.Common.{length, ap, arith}
use Rattle.plan_model.specs.Planning.{Instance}
use Rattle.plan_sizing.proofs.Grown.{length_grown}
use Rattle.plan_sizing.proofs.counting.workers.Goals as goal

pub returns-clause-all : goal.returns-clause-all
returns-clause-all c =
    omega (arith, length_grown c.args.farm.now c.args.added.now, c.workers.ensures.all, ap (λ (i : Instance). length i.live) c.input.ensures)
