use Rattle.std.proofs.Common.{◌≤◌, get_or, ap, arith, inl, inr}
use Rattle.std.proofs.lemmas.Bool.{cases_eq}
use Rattle.round_arena.specs.Plan.{count_on}
use Rattle.augment.proofs.serving.has_needs.Goals as goal

pub loop-f-preserved : goal.loop-f-preserved
loop-f-preserved c g l =
    let f = c.loop-f.f in
    let counted = c.requires.counted.counts f (omega (arith, c.loop-f-test.true)) in
    elim (cases_eq g f) [
      | inl q ↦ omega (arith, ap (λ z. get_or c.args.need.now z 0) q, ap (count_on c.args.tables.now.owner.now) q, counted)
      | inr ne ↦ c.loop-f.invariant g (omega (arith, l, ne))
    ]
