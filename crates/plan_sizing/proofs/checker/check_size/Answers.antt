use Rattle.std.proofs.Common.{Ok, Err, OnOk, IsOk, Result, refl, sym, subst}
use Rattle.plan_sizing.specs.Shown.{Shown, Right}
use Rattle.plan_sizing.specs.declared.size.Size.{Size}
use Rattle.plan_sizing.proofs.Right.{shown_right}
use Rattle.plan_sizing.proofs.checker.check_size.Goals as goal

on_ok : {E : Type 0} (r : Result (Unit {0}) E) (P : Type 0) → (IsOk r → P) → OnOk r P
on_ok (Ok x) P h = h refl
on_ok (Err e) P h = tt

pub returns-in-Enough-clause-right : goal.returns-in-Enough-clause-right
returns-in-Enough-clause-right c =
    let S : Size → Type 0 = Shown c.args.farm.now in
    on_ok c.check_addition.result (Right c.args.farm.now c.args.size.now) (λ ok. shown_right c.args.farm.now c.args.size.now c.facts.ensures (subst S (sym c.in-Enough.is) (c.check_addition.ensures.ok.0 ok)))

pub returns-in-Never-clause-right : goal.returns-in-Never-clause-right
returns-in-Never-clause-right c =
    let S : Size → Type 0 = Shown c.args.farm.now in
    on_ok c.check_obstacle.result (Right c.args.farm.now c.args.size.now) (λ ok. shown_right c.args.farm.now c.args.size.now c.facts.ensures (subst S (sym c.in-Never.is) (c.check_obstacle.ensures.ok.0 ok)))

pub returns-in-TooMany-clause-right : goal.returns-in-TooMany-clause-right
returns-in-TooMany-clause-right c =
    let S : Size → Type 0 = Shown c.args.farm.now in
    on_ok c.check_too_many.result (Right c.args.farm.now c.args.size.now) (λ ok. shown_right c.args.farm.now c.args.size.now c.facts.ensures (subst S (sym c.in-TooMany.is) (c.check_too_many.ensures.ok.0 ok)))
