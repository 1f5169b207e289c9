use Rattle.std.proofs.Common.{length, arith}
use Rattle.augment.proofs.IdleWays.{staff-le}
use Rattle.augment.proofs.idle.idle_for.Goals as goal

pub idle_of-requires-clause-looks : goal.idle_of-requires-clause-looks
idle_of-requires-clause-looks c =
    omega (arith, staff-le c.args.tables.now.pairs (length c.args.need.now) (length c.args.tables.now.owner.now) c.args.f c.in-Some.m c.requires.fits.graph c.requires.known c.in-Some.ensures, c.requires.looks)

pub returns-clause-looks : goal.returns-clause-looks
returns-clause-looks c = record {
  at_most = omega (arith, staff-le c.args.tables.now.pairs (length c.args.need.now) (length c.args.tables.now.owner.now) c.args.f c.in-Some.m c.requires.fits.graph c.requires.known c.in-Some.ensures, c.idle_of.ensures.looks.at_most);
  more = c.idle_of.ensures.looks.more;
}
