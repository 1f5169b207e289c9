use Rattle.std.proofs.Common.{◌≡◌, IfOk, length, map, replicate, rules, subst, true}
use Rattle.plan_model.specs.InputRefusals.{instance}
use Rattle.plan_model.specs.Planning.{Instance}
use Rattle.pool_settings.specs.Slots.{slots}
use Rattle.settings_command.specs.Farm.{farm, no_most}
use Rattle.settings_command.proofs.Farms.{farm_made}
use Rattle.settings_command.proofs.farm.farm_of.Goals as goal

pub returns : goal.returns
returns c =
    let p = c.args.settings.now in
    let marked : c.deref.result.now ≡ replicate (slots p) true = search rules in
    let most : c.deref-3.result.now ≡ replicate (length p.functions) no_most = search rules in
    let waiting : c.deref-4.result.now ≡ replicate (length p.functions) 0 = search rules in
    let made : instance c.live.result.now (map (λ row. row.items) c.rows.result.now) c.least.result.now c.deref-3.result.now c.deref-4.result.now ≡ farm p =
    rw (c.live.ensures.all, c.rows.ensures, c.least.ensures)
    (farm_made p c.in_ok-input.input c.deref.result.now c.deref-2.result.now c.deref-3.result.now c.deref-4.result.now c.facts.ensures c.in_ok-input.ensures.problem
    marked most waiting) in
    subst (λ (j : Instance). IfOk c.of_taken.result (λ input. input ≡ j)) made c.of_taken.ensures
