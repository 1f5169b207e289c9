use Rattle.std.proofs.Common.{◌<◌, ◌∙◌, All, length, sym, subst, ap}
use Rattle.std.proofs.lemmas.List.FromFn.{length-map-range_with_len}
use Rattle.plan_model.specs.Planning.{Instance}
use Rattle.pool_settings.specs.Slots.{slots}
use Rattle.live_size.specs.Farms.{most_of}
use Rattle.live_size.proofs.Taken.{slotted}
use Rattle.live_size.proofs.farm.farm_of.Goals as goal

pub with_most-requires-clause-paired : goal.with_most-requires-clause-paired
with_most-requires-clause-paired c =
    let i = c.args.input.now in
    ap length (c.deref.ensures.value ∙ c.in_ok-most.ensures)
    ∙ length-map-range_with_len (most_of c.args.unbounded.now i) 0 (length i.least)

pub of-requires-clause-slotted : goal.of-requires-clause-slotted
of-requires-clause-slotted c =
    let p = c.args.settings.now in
    let i = c.args.input.now in
    subst (λ n. All (λ w. w.0 < n) c.in_ok-problem.problem.live) (sym c.slots.ensures.all)
    (subst (λ (j : Instance). All (λ w. w.0 < slots p) j.live) (sym c.in_ok-problem.ensures) (slotted p i c.requires.of_these))
