use Rattle.std.proofs.Common.{◌≡◌, length, arith, ap, ◌∙◌}
use Rattle.std.specs.Prelude.{sum}
use Rattle.pool_settings.proofs.SlotSums.{length-owners_from}
use Rattle.pool_settings.proofs.slots.SlotTable.len.Goals as goal

pub overflow_cast-result : goal.overflow_cast-result
overflow_cast-result c =
    let many : length c.self.inside.owners.items ≡ sum c.self.inside.workers.items = ap length c.self.invariant.owned ∙ length-owners_from 0 c.self.inside.workers.items in
    omega (arith, many, c.self.invariant.few, c.len.ensures)

pub returns-clause-all : goal.returns-clause-all
returns-clause-all c =
    let many : length c.self.inside.owners.items ≡ sum c.self.inside.workers.items = ap length c.self.invariant.owned ∙ length-owners_from 0 c.self.inside.workers.items in
    let total : sum c.self.inside.workers.items ≡ sum c.args.self.now = ap sum c.self.view_is in
    omega (arith, many, total, c.len.ensures)

pub returns-clause-few : goal.returns-clause-few
returns-clause-few c =
    let many : length c.self.inside.owners.items ≡ sum c.self.inside.workers.items = ap length c.self.invariant.owned ∙ length-owners_from 0 c.self.inside.workers.items in
    omega (arith, many, c.self.invariant.few, c.len.ensures)
