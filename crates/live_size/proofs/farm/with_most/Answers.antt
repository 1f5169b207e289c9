use Rattle.std.proofs.Common.{◌≡◌, ◌∙◌, map, subst, sym}
use Rattle.std.specs.Prelude.{IfOk}
use Rattle.plan_model.specs.InputRefusals.{instance}
use Rattle.plan_model.specs.Planning.{Instance}
use Rattle.live_size.specs.Farms.{with_most as meant}
use Rattle.live_size.proofs.Taken.{made_with, of_permissions, taken_with}
use Rattle.live_size.proofs.farm.with_most.Goals as goal

pub of_taken-requires : goal.of_taken-requires
of_taken-requires c =
    let rows = c.rows.ensures ∙ sym (of_permissions c.args.settings.now c.args.input.now c.requires.of_these) in
    record {
      taken = rw (c.live.ensures.all, rows, c.least.ensures, c.waiting.ensures.all)
          (taken_with c.args.input.now c.args.most.now c.facts.ensures c.requires.paired);
    }

pub returns : goal.returns
returns c =
    let i = c.args.input.now in
    let rows = c.rows.ensures ∙ sym (of_permissions c.args.settings.now i c.requires.of_these) in
    let made : instance c.live.result.now (map (λ row. row.items) c.rows.result.now) c.least.result.now c.args.most.now c.waiting.result.now ≡ meant i c.args.most.now =
    rw (c.live.ensures.all, rows, c.least.ensures, c.waiting.ensures.all) (made_with i c.args.most.now c.facts.ensures) in
    subst (λ (j : Instance). IfOk c.of_taken.result (λ input. input ≡ j)) made c.of_taken.ensures
