use Rattle.std.proofs.Common.{Ok, Err, OnOk, IsOk, Result, refl, sym, subst}
use Rattle.plan_model.specs.Shown.{Shown, Best}
use Rattle.plan_model.specs.declared.answer.Answer.{Answer}
use Rattle.plan_model.proofs.Shown.{shown_best}
use Rattle.plan_model.proofs.checker.check.Goals as goal

on_ok : {E : Type 0} (r : Result (Unit {0}) E) (P : Type 0) → (IsOk r → P) → OnOk r P
on_ok (Ok x) P h = h refl
on_ok (Err e) P h = tt

pub returns-in-Planned-clause-best : goal.returns-in-Planned-clause-best
returns-in-Planned-clause-best c =
    let i = c.args.input.now in
    let S : Answer → Type 0 = Shown i in
    on_ok c.check_plan.result (Best i c.args.answer.now) (λ ok. shown_best i c.args.answer.now c.facts.ensures (subst S (sym c.in-Planned.is) (c.check_plan.ensures.ok.0 ok)))

pub returns-then-is_short-clause-best : goal.returns-then-is_short-clause-best
returns-then-is_short-clause-best c =
    let i = c.args.input.now in
    let S : Answer → Type 0 = Shown i in
    shown_best i c.args.answer.now c.facts.ensures (subst S (sym c.in-NoPlan.is) (c.is_short.ensures.0 c.if-is_short.true))
