use Rattle.std.proofs.Common.{◌≡◌, ℕ, ◌+◌, ◌-◌, ◌<◌, List, length, get_or, arith, ap, subst, sym, ◌∙◌}
use Rattle.std.proofs.lemmas.Bool.{OnTrue_at, OnFalse_at}
use Rattle.round_arena.specs.declared.tables.Pairs.{Pairs}
use Rattle.round_arena.specs.Plan.{IsGraph, count_on}
use Rattle.augment.specs.Moves.{GainsOne}
use Rattle.augment.specs.Searching.{IsStaffed}
use Rattle.augment.proofs.Gains.{GainsOne-caps, GainsOne-keeps, GainsOne-root}
use Rattle.augment.proofs.most.serve_function.Goals as goal

pub returns-then-not-is_served-clause-grows : goal.returns-then-not-is_served-clause-grows
returns-then-not-is_served-clause-grows c g l =
    omega (arith, c.loop-tables.invariant.grows g l, ap (λ (o : List ℕ). count_on o g) (OnFalse_at c.if-not-is_served.true c.serve_one-is_served.ensures.stays))

pub loop-tables-smaller : goal.loop-tables-smaller
loop-tables-smaller c =
    let f : ℕ = c.args.f in
    let known : f < length c.args.need.now = c.requires.known in
    let gained : GainsOne (length c.args.need.now) f c.args.need.now c.loop-tables.tables.owner.now c.serve_one-is_served.new.tables.owner.now = OnTrue_at c.if-not-is_served.false c.serve_one-is_served.ensures.gained in
    let old : get_or c.loop-tables.tables.count.now f 0 ≡ count_on c.loop-tables.tables.owner.now f = c.loop-tables.invariant.staffed.counted.counts f (omega (arith, known)) in
    let new : get_or c.serve_one-is_served.new.tables.count.now f 0 ≡ count_on c.serve_one-is_served.new.tables.owner.now f = c.serve_one-is_served.ensures.staffed.counted.counts f (omega (arith, known)) in
    let lacks : get_or c.loop-tables.tables.count.now f 0 < get_or c.args.need.now f 0 = c.loop-tables-test.true in
    let more : count_on c.serve_one-is_served.new.tables.owner.now f ≡ count_on c.loop-tables.tables.owner.now f + 1 = GainsOne-root gained known (omega (arith, old, lacks)) in
    let smaller : get_or c.args.need.now f 0 - get_or c.serve_one-is_served.new.tables.count.now f 0 < get_or c.args.need.now f 0 - get_or c.loop-tables.tables.count.now f 0 = omega (arith, old, new, more, lacks) in
    smaller

pub loop-tables-preserved : goal.loop-tables-preserved
loop-tables-preserved c =
    let need = c.args.need.now in
    let f : ℕ = c.args.f in
    let old = c.loop-tables.tables in
    let new = c.serve_one-is_served.new.tables in
    let before = c.loop-tables.invariant.same in
    let same = c.serve_one-is_served.ensures.same in
    let known : f < length need = c.requires.known in
    let gained : GainsOne (length need) f need old.owner.now new.owner.now = OnTrue_at c.if-not-is_served.false c.serve_one-is_served.ensures.gained in
    let counted : get_or old.count.now f 0 ≡ count_on old.owner.now f = c.loop-tables.invariant.staffed.counted.counts f (omega (arith, known)) in
    let lacks : count_on old.owner.now f < get_or need f 0 = omega (arith, counted, c.loop-tables-test.true) in
    record {
      same = record {
        pairs = same.pairs ∙ before.pairs;
        most = same.most ∙ before.most;
        machine = same.machine ∙ before.machine;
        slot = same.slot ∙ before.slot;
        order = same.order ∙ before.order;
        staff = same.staff ∙ before.staff;
      };
      graph = subst (λ (p : Pairs). IsGraph (length need) (length new.owner.now) p) (sym same.pairs) (subst (λ (n : ℕ). IsGraph (length need) n old.pairs) (sym same.staff) c.loop-tables.invariant.graph);
      staffed = subst (λ (p : Pairs). IsStaffed p need new.owner.now new.count.now c.serve_one-is_served.new.tree) (sym same.pairs) c.serve_one-is_served.ensures.staffed;
      within = λ g l. GainsOne-caps gained g (get_or need g 0) known lacks (omega arith) (c.loop-tables.invariant.within g l);
      grows = λ g l. omega (arith, c.loop-tables.invariant.grows g l, GainsOne-keeps gained g (count_on old.owner.now g) l (c.loop-tables.invariant.within g l) (omega arith));
    }
