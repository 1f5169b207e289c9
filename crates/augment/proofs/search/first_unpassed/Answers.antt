use Rattle.std.proofs.Common.{false, get_or, ap, ◌∙◌, arith, inl, inr}
use Rattle.std.proofs.lemmas.Bool.{cases_eq}
use Rattle.augment.proofs.search.first_unpassed.Goals as goal

pub loop-m-preserved : goal.loop-m-preserved
loop-m-preserved c k l b =
    elim (cases_eq k c.loop-m.m) [
      | inl q ↦ ap (λ z. get_or c.args.tree.now.passed.now z false) q ∙ c.if-not-tree-m.false
      | inr ne ↦ c.loop-m.invariant k l (omega (arith, b, ne))
    ]
