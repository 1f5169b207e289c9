use Rattle.std.proofs.Common.{◌<◌, length, [], ap, subst, sym, arith, ◌∙◌}
use Rattle.std.proofs.lemmas.List.{get_or-map, length-map}
use Rattle.std.specs.List.Sorted.{IsStrictlyIncreasing}
use Rattle.pool_settings.specs.Settings.{Settings}
use Rattle.pool_settings.proofs.settings.Settings.permitted.Goals as goal

pub returns-clause-rising : goal.returns-clause-rising
returns-clause-rising c =
    let inside : c.args.machine < length c.self.inside.may.items =
    (let there = subst (λ (p : Settings). c.args.machine < length p.machines) (sym c.self.view_is) c.requires in
    omega (arith, there, c.self.invariant.may_paired, length-map c.self.inside.may.items (λ row. row.items))) in
    let row = c.index.result.now in
    let at = get_or-map (λ row. row.items) c.self.inside.may.items c.args.machine row [] inside in
    let rises = c.self.invariant.may_rise c.args.machine [] (rw length-map inside) in
    subst IsStrictlyIncreasing (at ∙ ap (λ row. row.items) (sym (rw c.number.ensures at c.index.ensures)) ∙ sym c.deref.ensures.value) rises
