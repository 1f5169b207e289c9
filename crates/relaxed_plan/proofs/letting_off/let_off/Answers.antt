use Rattle.std.proofs.Common.{◌≡◌, map, subst}
use Rattle.std.specs.Prelude.{IfOk}
use Rattle.plan_model.specs.InputRefusals.{instance}
use Rattle.plan_model.specs.Planning.{Instance}
use Rattle.relaxed_plan.specs.Relaxed.{let_off_of}
use Rattle.relaxed_plan.proofs.Left.{made-let_off, taken-let_off}
use Rattle.relaxed_plan.proofs.letting_off.let_off.Goals as goal

pub of_taken-requires : goal.of_taken-requires
of_taken-requires c = record {
  taken = rw (c.live.ensures.all, c.rows.ensures, c.deref.ensures.value, c.in_ok-least.ensures, c.most.ensures.all, c.waiting.ensures.all)
      (taken-let_off c.args.input.now c.args.set.now c.facts.ensures);
}

pub returns : goal.returns
returns c =
    let i = c.args.input.now in
    let made : instance c.live.result.now (map (λ row. row.items) c.rows.result.now) c.deref.result.now c.most.result.now c.waiting.result.now ≡ let_off_of i c.args.set.now =
    rw (c.live.ensures.all, c.rows.ensures, c.deref.ensures.value, c.in_ok-least.ensures, c.most.ensures.all, c.waiting.ensures.all) (made-let_off i c.args.set.now c.facts.ensures) in
    subst (λ (j : Instance). IfOk c.of_taken.result (λ left. left ≡ j)) made c.of_taken.ensures
