use Rattle.std.proofs.Common.{◌≡◌, ◌<◌, ◌++◌, ℕ, length, replicate, None, get_or, ap, sym, ◌∙◌, subst, arith}
use Rattle.std.proofs.lemmas.Bool.{false≢true}
use Rattle.std.proofs.lemmas.List.{append-nil}
use Rattle.plan_sizing.specs.Hiring.{IsBestBelow}
use Rattle.plan_sizing.proofs.Placed.{none_known}
use Rattle.plan_sizing.proofs.hiring.add_for.Goals as goal

pub returns-then-many-eq0 : goal.returns-then-many-eq0
returns-then-many-eq0 c =
    let none : get_or c.args.lacks.now c.args.function 0 ≡ 0 = ap (λ f. get_or c.args.lacks.now f 0) (sym c.number.ensures) ∙ c.if-many-eq0.true in
    record {
      machine = 0;
      added = sym (ap (λ (n : ℕ). c.args.hires.now.items ++ replicate n (0, c.args.function)) none ∙ append-nil c.args.hires.now.items);
      best = λ some. absurd (omega (arith, some, none));
    }

pub returns-in_default : goal.returns-in_default
returns-in_default c =
    let i = c.args.input.now in
    let f : ℕ = c.args.function in
    let best : IsBestBelow i c.args.scores.now f (length i.may) None = subst (IsBestBelow i c.args.scores.now f (length i.may)) c.in_default.is c.best_machine.ensures in
    let some : 0 < get_or c.args.lacks.now f 0 = omega (arith, ap (λ k. get_or c.args.lacks.now k 0) c.number.ensures, c.if-many-eq0.false) in
    absurd (false≢true (sym (none_known i c.args.scores.now f best) ∙ c.requires.known f c.requires.function some))
