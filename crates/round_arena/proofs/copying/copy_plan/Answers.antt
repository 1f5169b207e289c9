use Rattle.std.proofs.Common.{ℕ, List, length, ap, sym, ◌∙◌, subst}
use Rattle.std.specs.List.Sorted.{IsStrictlyIncreasing}
use Rattle.plan_model.specs.Planning.{slots_of}
use Rattle.round_arena.proofs.Lists.{slots_of-entries}
use Rattle.round_arena.proofs.copying.copy_plan.Goals as goal

pub of_rising-requires : goal.of_rising-requires
of_rising-requires c =
    let t = c.args.tables.now in
    let same = ap slots_of c.in_ok-entries.ensures ∙ slots_of-entries (length t.order.now) t.slot.now t.owner.now in
    subst (λ (z : List ℕ). IsStrictlyIncreasing z) (sym same) c.requires.sound.rising
