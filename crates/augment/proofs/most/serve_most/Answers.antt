use Rattle.std.proofs.Common.{◌≡◌, ◌∙◌, ℕ, List, length, slice_index, ap, sym, subst}
use Rattle.round_arena.specs.declared.tables.Pairs.{Pairs}
use Rattle.round_arena.specs.Plan.{Represents}
use Rattle.augment.specs.Most.{LacksJust, lacking}
use Rattle.augment.specs.Short.{marked}
use Rattle.augment.proofs.CutOff.{served_most}
use Rattle.augment.proofs.most.serve_most.Goals as goal

pub returns-clause-short : goal.returns-clause-short
returns-clause-short c permits holds =
    let t = c.args.tables.now in
    let u = c.serve_each.new.tables in
    let e = c.serve_each.ensures in
    let need = c.args.need.now in
    let place = c.serve_each.new.short in
    let staff : length u.machine.now ≡ length u.owner.now = ap (λ m. length m.now) e.same.machine ∙ c.requires.sound.staff ∙ sym e.same.staff in
    subst (λ (set : List ℕ). LacksJust permits u.machine.now (length need) (λ f. slice_index need f) (lacking need u.owner.now) set)
    (sym (c.marked_functions.ensures ∙ ap (marked place) e.cut.size))
    (served_most permits u.machine.now t.pairs u.owner.now need place (subst (λ (p : Pairs). Represents permits u.machine.now p (length need)) e.same.pairs holds) staff e.staffed.assigned e.within e.cut e.served)
