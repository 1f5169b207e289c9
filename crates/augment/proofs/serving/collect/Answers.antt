use Rattle.std.proofs.Common.{◌≡◌, length, ap, ◌∙◌, arith}
use Rattle.augment.proofs.Sets.{marks, marks-marked}
use Rattle.augment.proofs.serving.collect.Goals as goal

pub returns-clause-members : goal.returns-clause-members
returns-clause-members c =
    let end : c.loop-f.f ≡ length c.args.place.now = omega (arith, c.loop-f-test.false) in
    c.loop-f.invariant.members ∙ ap (marks c.args.place.now) end ∙ marks-marked c.args.place.now (length c.args.place.now)
