use Rattle.std.proofs.Common.{length, arith, inl, inr}
use Rattle.std.proofs.lemmas.Bool.{OnFalse_at}
use Rattle.augment.proofs.CutOff.{cut_more, cut_stays}
use Rattle.augment.proofs.most.serve_or_mark.Goals as goal

pub returns-then-not-serve_function-clause-cut : goal.returns-then-not-serve_function-clause-cut
returns-then-not-serve_function-clause-cut c =
    let t = c.args.tables.now in
    let u = c.serve_function.new.tables in
    let e = c.serve_function.ensures in
    let need = c.args.need.now in
    let stays = cut_stays t.pairs (length need) t.owner.now u.owner.now c.args.short.now c.requires.cut e.same.staff e.staffed.assigned e.grows in
    cut_more t.pairs u.owner.now u.count.now need c.serve_function.new.tree c.args.f c.args.short.now c.mark_reached.new.short (OnFalse_at c.if-not-serve_function.true e.stuck) stays c.mark_reached.ensures

pub returns-then-not-serve_function-clause-kept : goal.returns-then-not-serve_function-clause-kept
returns-then-not-serve_function-clause-kept c g l served = elim served [
  | inl enough ↦ inl (omega (arith, enough, c.serve_function.ensures.grows g l))
  | inr mark ↦ inr (c.mark_reached.ensures.kept g mark)
]

pub returns-else-not-serve_function-clause-cut : goal.returns-else-not-serve_function-clause-cut
returns-else-not-serve_function-clause-cut c =
    let t = c.args.tables.now in
    let u = c.serve_function.new.tables in
    let e = c.serve_function.ensures in
    cut_stays t.pairs (length c.args.need.now) t.owner.now u.owner.now c.args.short.now c.requires.cut e.same.staff e.staffed.assigned e.grows

pub returns-else-not-serve_function-clause-kept : goal.returns-else-not-serve_function-clause-kept
returns-else-not-serve_function-clause-kept c g l served = elim served [
  | inl enough ↦ inl (omega (arith, enough, c.serve_function.ensures.grows g l))
  | inr mark ↦ inr mark
]
