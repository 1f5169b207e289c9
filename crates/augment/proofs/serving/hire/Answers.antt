use Rattle.std.proofs.Common.{◌<◌, length, get_or, set, ap, refl, inl, arith}
use Rattle.round_arena.specs.Plan.{count_on}
use Rattle.augment.proofs.Flips.{IsCounted-move, IsFlipped, IsFlipped-idle, count_on-positive}
use Rattle.augment.proofs.serving.hire.Goals as goal

pub overflow_sub-tables : goal.overflow_sub-tables
overflow_sub-tables c =
    let owner = c.args.tables.now.owner.now in
    omega (arith, count_on-positive owner c.args.w c.requires.idle.employed, ap (count_on owner) c.requires.idle.idle, c.requires.counted.counts (length c.args.need.now) (omega arith))

pub returns-clause-assigned : goal.returns-clause-assigned
returns-clause-assigned c =
    let t = c.args.tables.now in
    (IsFlipped-idle t.pairs (length c.args.need.now) t.owner.now c.args.w c.args.root c.requires.assigned c.requires.idle.employed c.requires.lacking.known c.requires.idle.permitted c.requires.idle.idle).assigned

pub returns-clause-counted : goal.returns-clause-counted
returns-clause-counted c =
    let t = c.args.tables.now in
    let functions = length c.args.need.now in
    let some : 0 < count_on t.owner.now functions = omega (arith, count_on-positive t.owner.now c.args.w c.requires.idle.employed, ap (count_on t.owner.now) c.requires.idle.idle) in
    IsCounted-move functions t.owner.now (set t.owner.now c.args.w c.args.root) t.count.now functions c.args.root c.requires.counted (omega arith) c.requires.lacking.known (λ q. omega (arith, q, c.requires.lacking.known)) some
    (IsFlipped-idle t.pairs functions t.owner.now c.args.w c.args.root c.requires.assigned c.requires.idle.employed c.requires.lacking.known c.requires.idle.permitted c.requires.idle.idle).counts

pub returns-clause-gained : goal.returns-clause-gained
returns-clause-gained c =
    let t = c.args.tables.now in
    let functions = length c.args.need.now in
    let flipped : IsFlipped t.pairs functions t.owner.now (set t.owner.now c.args.w c.args.root) functions c.args.root =
    IsFlipped-idle t.pairs functions t.owner.now c.args.w c.args.root c.requires.assigned c.requires.idle.employed c.requires.lacking.known c.requires.idle.permitted c.requires.idle.idle in
    record {
      size = flipped.size;
      source = functions;
      spare = inl refl;
      counts = flipped.counts;
    }
