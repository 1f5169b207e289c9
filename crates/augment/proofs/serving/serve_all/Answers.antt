use Rattle.std.proofs.Common.{◌≡◌, ℕ, ◌+◌, ◌-◌, ◌<◌, length, get_or, arith, ap, subst, sym}
use Rattle.round_arena.specs.declared.tables.Pairs.{Pairs}
use Rattle.round_arena.specs.Plan.{IsAssigned, IsGraph, Represents, count_on, machine_count, pair_total}
use Rattle.augment.specs.Tree.{HasRoom}
use Rattle.augment.specs.Moves.{GainsOne}
use Rattle.augment.specs.Round.{served}
use Rattle.augment.proofs.Gains.{IsServing, IsServing-gains, IsServing-next, IsServing-all, looks-le, GainsOne-root, order-below}
use Rattle.augment.proofs.Rounds.{SamePairs-trans}
use Rattle.augment.proofs.Sets.{IsShort-stuck}
use Rattle.augment.proofs.Totals.{served-total}
use Rattle.std.proofs.lemmas.Bool.{OnTrue_at, OnFalse_at}
use Rattle.augment.proofs.serving.serve_all.Goals as goal

pub bounds-tables-f : goal.bounds-tables-f
bounds-tables-f c = omega (arith, order-below (length c.args.need.now) c.args.tables.now.order.now c.requires.order c.loop-k.k c.loop-k-test.true, c.loop-tables.invariant.serving.counted.size)

pub bounds-need-f : goal.bounds-need-f
bounds-need-f c = order-below (length c.args.need.now) c.args.tables.now.order.now c.requires.order c.loop-k.k c.loop-k-test.true

pub serve_one-requires-clause-looks : goal.serve_one-requires-clause-looks
serve_one-requires-clause-looks c =
    omega (arith, looks-le c.args.tables.now.pairs c.args.tables.now.order.now c.args.need.now c.args.tables.now.owner.now c.loop-tables.tables.owner.now c.loop-tables.tables.count.now c.loop-tables.tree c.args.looks.now c.loop-tables.looks c.loop-k.k (subst (λ (p : Pairs). IsServing p c.args.tables.now.order.now c.args.need.now c.args.tables.now.owner.now c.loop-tables.tables.owner.now c.loop-tables.tables.count.now c.loop-tables.tree c.args.looks.now c.loop-tables.looks c.loop-k.k) c.loop-tables.invariant.same.pairs c.loop-tables.invariant.serving), c.requires.looks, ap pair_total c.loop-tables.invariant.same.pairs)

pub returns-then-not-serve_one-clause-looks : goal.returns-then-not-serve_one-clause-looks
returns-then-not-serve_one-clause-looks c = record {
  at_most = omega (arith, looks-le c.args.tables.now.pairs c.args.tables.now.order.now c.args.need.now c.args.tables.now.owner.now c.loop-tables.tables.owner.now c.loop-tables.tables.count.now c.loop-tables.tree c.args.looks.now c.loop-tables.looks c.loop-k.k (subst (λ (p : Pairs). IsServing p c.args.tables.now.order.now c.args.need.now c.args.tables.now.owner.now c.loop-tables.tables.owner.now c.loop-tables.tables.count.now c.loop-tables.tree c.args.looks.now c.loop-tables.looks c.loop-k.k) c.loop-tables.invariant.same.pairs c.loop-tables.invariant.serving), c.serve_one.ensures.looks.at_most, ap pair_total c.loop-tables.invariant.same.pairs);
  more = omega (arith, c.loop-tables.invariant.serving.more, c.serve_one.ensures.looks.more);
}

pub returns-clause-looks_served : goal.returns-clause-looks_served
returns-clause-looks_served c =
    looks-le c.args.tables.now.pairs c.args.tables.now.order.now c.args.need.now c.args.tables.now.owner.now c.loop-k.tables.owner.now c.loop-k.tables.count.now c.loop-k.tree c.args.looks.now c.loop-k.looks c.loop-k.k (subst (λ (p : Pairs). IsServing p c.args.tables.now.order.now c.args.need.now c.args.tables.now.owner.now c.loop-k.tables.owner.now c.loop-k.tables.count.now c.loop-k.tree c.args.looks.now c.loop-k.looks c.loop-k.k) c.loop-k.invariant.same.pairs c.loop-k.invariant.serving)

pub returns-clause-looks : goal.returns-clause-looks
returns-clause-looks c = record {
  at_most = omega (arith, looks-le c.args.tables.now.pairs c.args.tables.now.order.now c.args.need.now c.args.tables.now.owner.now c.loop-k.tables.owner.now c.loop-k.tables.count.now c.loop-k.tree c.args.looks.now c.loop-k.looks c.loop-k.k (subst (λ (p : Pairs). IsServing p c.args.tables.now.order.now c.args.need.now c.args.tables.now.owner.now c.loop-k.tables.owner.now c.loop-k.tables.count.now c.loop-k.tree c.args.looks.now c.loop-k.looks c.loop-k.k) c.loop-k.invariant.same.pairs c.loop-k.invariant.serving));
  more = c.loop-k.invariant.serving.more;
}

pub returns-clause-served : goal.returns-clause-served
returns-clause-served c =
    IsServing-all c.args.tables.now.pairs c.args.tables.now.order.now c.args.need.now c.args.tables.now.owner.now c.loop-k.tables.owner.now c.loop-k.tables.count.now c.loop-k.tree c.args.looks.now c.loop-k.looks c.loop-k.k c.requires.order c.loop-k-test.false (subst (λ (p : Pairs). IsServing p c.args.tables.now.order.now c.args.need.now c.args.tables.now.owner.now c.loop-k.tables.owner.now c.loop-k.tables.count.now c.loop-k.tree c.args.looks.now c.loop-k.looks c.loop-k.k) c.loop-k.invariant.same.pairs c.loop-k.invariant.serving)

pub returns-then-not-serve_one-clause-short : goal.returns-then-not-serve_one-clause-short
returns-then-not-serve_one-clause-short c permits machines e r =
    let f : ℕ = get_or c.args.tables.now.order.now c.loop-k.k 0 in
    IsShort-stuck permits machines c.loop-tables.tables.pairs c.serve_one.new.tables.owner.now c.serve_one.new.tables.count.now c.args.need.now c.serve_one.new.tree f (subst (λ (p : Pairs). Represents permits machines p (length c.args.need.now)) (sym c.loop-tables.invariant.same.pairs) r)
    (omega (arith, e, c.loop-tables.invariant.serving.size, ap length (OnFalse_at c.if-not-serve_one.true c.serve_one.ensures.stays))) c.serve_one.ensures.staffed.counted
    (order-below (length c.args.need.now) c.args.tables.now.order.now c.requires.order c.loop-k.k c.loop-k-test.true)
    (OnFalse_at c.if-not-serve_one.true c.serve_one.ensures.stuck)

pub loop-tables-preserved : goal.loop-tables-preserved
loop-tables-preserved c =
    let f : ℕ = get_or c.args.tables.now.order.now c.loop-k.k 0 in
    let need = c.args.need.now in
    let old = c.loop-tables.tables in
    let new = c.serve_one.new.tables in
    let same = c.serve_one.ensures.same in
    let gained : GainsOne (length need) f need old.owner.now new.owner.now = OnTrue_at c.if-not-serve_one.false c.serve_one.ensures.gained in
    let serving = IsServing-gains old.pairs c.args.tables.now.order.now need c.args.tables.now.owner.now old.owner.now old.count.now new.owner.now new.count.now c.loop-tables.tree c.serve_one.new.tree
    c.args.looks.now c.loop-tables.looks c.serve_one.new.looks c.loop-k.k f c.requires.order (omega (arith, c.loop-k-test.true)) c.loop-tables.invariant.serving
    (order-below (length need) c.args.tables.now.order.now c.requires.order c.loop-k.k c.loop-k-test.true) c.loop-tables-test.true gained
    c.serve_one.ensures.staffed.assigned c.serve_one.ensures.staffed.counted c.serve_one.ensures.staffed.room
    (OnTrue_at c.if-not-serve_one.false c.serve_one.ensures.looked) c.serve_one.ensures.looks.at_most in
    record {
      same = SamePairs-trans c.args.tables.now old new c.loop-tables.invariant.same same;
      graph = subst (λ (p : Pairs). IsGraph (length need) (length new.owner.now) p) (sym same.pairs) (subst (λ (n : ℕ). IsGraph (length need) n old.pairs) (sym same.staff) c.loop-tables.invariant.graph);
      serving = subst (λ (p : Pairs). IsServing p c.args.tables.now.order.now need c.args.tables.now.owner.now new.owner.now new.count.now c.serve_one.new.tree c.args.looks.now c.serve_one.new.looks c.loop-k.k) (sym same.pairs) serving;
    }

pub loop-tables-smaller : goal.loop-tables-smaller
loop-tables-smaller c =
    let f : ℕ = get_or c.args.tables.now.order.now c.loop-k.k 0 in
    let known : f < length c.args.need.now = order-below (length c.args.need.now) c.args.tables.now.order.now c.requires.order c.loop-k.k c.loop-k-test.true in
    let gained : GainsOne (length c.args.need.now) f c.args.need.now c.loop-tables.tables.owner.now c.serve_one.new.tables.owner.now = OnTrue_at c.if-not-serve_one.false c.serve_one.ensures.gained in
    let old : get_or c.loop-tables.tables.count.now f 0 ≡ count_on c.loop-tables.tables.owner.now f = c.loop-tables.invariant.serving.counted.counts f (omega (arith, known)) in
    let new : get_or c.serve_one.new.tables.count.now f 0 ≡ count_on c.serve_one.new.tables.owner.now f = c.serve_one.ensures.staffed.counted.counts f (omega (arith, known)) in
    let lacks : get_or c.loop-tables.tables.count.now f 0 < get_or c.args.need.now f 0 = c.loop-tables-test.true in
    let more : count_on c.serve_one.new.tables.owner.now f ≡ count_on c.loop-tables.tables.owner.now f + 1 = GainsOne-root gained known (omega (arith, old, lacks)) in
    let smaller : get_or c.args.need.now f 0 - get_or c.serve_one.new.tables.count.now f 0 < get_or c.args.need.now f 0 - get_or c.loop-tables.tables.count.now f 0 = omega (arith, old, new, more, lacks) in
    smaller

pub loop-k-preserved : goal.loop-k-preserved
loop-k-preserved c = record {
  same = c.loop-tables.invariant.same;
  graph = c.loop-tables.invariant.graph;
  serving = IsServing-next c.loop-tables.tables.pairs c.args.tables.now.order.now c.args.need.now c.args.tables.now.owner.now c.loop-tables.tables.owner.now c.loop-tables.tables.count.now c.loop-tables.tree c.args.looks.now c.loop-tables.looks c.loop-k.k
      c.loop-tables.invariant.serving (order-below (length c.args.need.now) c.args.tables.now.order.now c.requires.order c.loop-k.k c.loop-k-test.true) (omega (arith, c.loop-tables-test.false));
}

pub returns-then-not-serve_one-clause-paid : goal.returns-then-not-serve_one-clause-paid
returns-then-not-serve_one-clause-paid c =
    let same = ap (served c.args.need.now) (OnFalse_at c.if-not-serve_one.true c.serve_one.ensures.stays) in
    omega (arith, same, served-total c.args.need.now c.loop-tables.tables.owner.now, served-total c.args.need.now c.args.tables.now.owner.now, c.loop-tables.invariant.serving.paid, c.serve_one.ensures.looks.more)

pub returns-clause-paid : goal.returns-clause-paid
returns-clause-paid c =
    omega (arith, served-total c.args.need.now c.loop-k.tables.owner.now, served-total c.args.need.now c.args.tables.now.owner.now, c.loop-k.invariant.serving.paid)

pub returns-then-not-serve_one-clause-same : goal.returns-then-not-serve_one-clause-same
returns-then-not-serve_one-clause-same c = SamePairs-trans c.args.tables.now c.loop-tables.tables c.serve_one.new.tables c.loop-tables.invariant.same c.serve_one.ensures.same

pub serve_one-requires-clause-staffed : goal.serve_one-requires-clause-staffed
serve_one-requires-clause-staffed c =
    let serving = c.loop-tables.invariant.serving in
    record { assigned = serving.assigned; counted = serving.counted; room = serving.room }

pub serve_one-requires-clause-lacking : goal.serve_one-requires-clause-lacking
serve_one-requires-clause-lacking c = record {
  known = order-below (length c.args.need.now) c.args.tables.now.order.now c.requires.order c.loop-k.k c.loop-k-test.true;
  few = c.loop-tables-test.true;
}

pub returns-clause-staffed : goal.returns-clause-staffed
returns-clause-staffed c = record {
  assigned = subst (λ (p : Pairs). IsAssigned (length c.args.need.now) p c.loop-k.tables.owner.now) c.loop-k.invariant.same.pairs c.loop-k.invariant.serving.assigned;
  counted = c.loop-k.invariant.serving.counted;
  room = subst (λ (p : Pairs). HasRoom (length c.args.need.now) (machine_count p) c.loop-k.tree) c.loop-k.invariant.same.pairs c.loop-k.invariant.serving.room;
}

pub returns-then-not-serve_one-clause-staffed : goal.returns-then-not-serve_one-clause-staffed
returns-then-not-serve_one-clause-staffed c = record {
  assigned = subst (λ (p : Pairs). IsAssigned (length c.args.need.now) p c.serve_one.new.tables.owner.now) c.loop-tables.invariant.same.pairs c.serve_one.ensures.staffed.assigned;
  counted = c.serve_one.ensures.staffed.counted;
  room = subst (λ (p : Pairs). HasRoom (length c.args.need.now) (machine_count p) c.serve_one.new.tree) c.loop-tables.invariant.same.pairs c.serve_one.ensures.staffed.room;
}
