use Rattle.std.proofs.Common.{◌≡◌, ◌<◌, List, ℕ, length, get_or, arith, ap, sym, subst, ◌∙◌}
use Rattle.std.specs.Prelude.{sum}
use Rattle.std.proofs.lemmas.Grind.{get_or_default_zero}
use Rattle.pool_settings.specs.Slots.{owners_from}
use Rattle.pool_settings.proofs.SlotSums.{length-owners_from}
use Rattle.pool_settings.proofs.slots.SlotTable.owner.Goals as goal

pub index-requires : goal.index-requires
index-requires c =
    let many : length c.self.inside.owners.items ≡ sum c.self.inside.workers.items = ap length c.self.invariant.owned ∙ length-owners_from 0 c.self.inside.workers.items in
    let there : c.args.slot < sum c.self.inside.workers.items = subst (λ (ws : List ℕ). c.args.slot < sum ws) (sym c.self.view_is) c.requires in
    omega (arith, many, there, c.number.ensures)

pub returns : goal.returns
returns c =
    let many : length c.self.inside.owners.items ≡ sum c.self.inside.workers.items = ap length c.self.invariant.owned ∙ length-owners_from 0 c.self.inside.workers.items in
    let there : c.args.slot < sum c.self.inside.workers.items = subst (λ (ws : List ℕ). c.args.slot < sum ws) (sym c.self.view_is) c.requires in
    (rw c.number.ensures at c.index.ensures)
    ∙ get_or_default_zero c.self.inside.owners.items c.args.slot c.index.result.now (omega (arith, many, there))
    ∙ ap (λ (t : List ℕ). get_or t c.args.slot 0) c.self.invariant.owned
    ∙ ap (λ (ws : List ℕ). get_or (owners_from 0 ws) c.args.slot 0) c.self.view_is
