use Rattle.std.proofs.Common.{ℕ, ◌<◌, length, get_or, arith, refl, sym, subst, rules}
use Rattle.augment.specs.declared.search.Tree.{Tree}
use Rattle.round_arena.specs.Plan.{IsPair}
use Rattle.augment.proofs.Trees.{tail-lt, Steps, Steps-reach, Steps-seen, Extends-trans, IsPassedUpTo-extends, IsPassedUpTo-more}
use Rattle.augment.proofs.search.look.Goals as goal
use Rattle.augment.proofs.search.look.Goals.{then-tree-g-eq0+else-need-g, else-tree-g-eq0}

pub reach-requires-clause-tail : goal.reach-requires-clause-tail
reach-requires-clause-tail c =
    let w = get_or c.args.tables.now.pairs.workers.items.now c.loop-k.k 0 in
    let t = c.loop-k.tree in
    let h = c.loop-k.invariant.tree in
    let wl : w < length c.args.tables.now.owner.now = c.requires.searching.fits.graph.workers.known c.loop-k.k (search rules) in
    let gl : get_or c.args.tables.now.owner.now w 0 < length c.args.need.now = omega (arith, c.requires.searching.fits.owners w wl, c.if-g-need.false) in
    omega (arith, tail-lt t (get_or c.args.tables.now.owner.now w 0) h gl c.if-tree-g-eq0.true, h.room.place)

pub loop-k-preserved : goal.loop-k-preserved
loop-k-preserved c =
    let p = c.args.tables.now.pairs in
    let owner = c.args.tables.now.owner.now in
    let count = c.args.tables.now.count.now in
    let need = c.args.need.now in
    let s = c.args.tree.now in
    let t = c.loop-k.tree in
    let m = c.args.m in
    let w = get_or p.workers.items.now c.loop-k.k 0 in
    let i = c.loop-k.invariant in
    let wl : w < length owner = c.requires.searching.fits.graph.workers.known c.loop-k.k (search rules) in
    let gl : get_or owner w 0 < length need = omega (arith, c.requires.searching.fits.owners w wl, c.if-g-need.false) in
    let pr : IsPair p w (get_or t.reached.now c.args.head 0) =
    subst (λ (f : ℕ). IsPair p w f) (sym (i.extends.reached c.args.head c.requires.searching.place)) (m, c.requires.machine.listed, (c.loop-k.k, c.loop-k.auto.k, c.loop-k-test.true, refl)) in
    let step : Steps p owner count need t c.if-tree-g-eq0.tree w =
    elim c.if-tree-g-eq0.branch [
      | then-tree-g-eq0+else-need-g b ↦
          subst (λ (z : Tree). Steps p owner count need t z w) (sym b.tree-is)
          (Steps-reach p owner count need s t b.reach.new.tree w c.args.head i.tree i.extends b.reach.ensures gl b.if-tree-g-eq0.true c.requires.searching.place wl pr (omega (arith, b.if-need-g.false)))
      | else-tree-g-eq0 b ↦
          subst (λ (z : Tree). Steps p owner count need t z w) (sym b.tree-is)
          (Steps-seen p owner count need t w i.tree gl b.if-tree-g-eq0.false)
    ] in
    record {
      tree = step.tree;
      extends = Extends-trans s t c.if-tree-g-eq0.tree i.extends step.extends;
      looks = omega (arith, i.looks);
      passed = IsPassedUpTo-more p owner (length need) m c.loop-k.k c.if-tree-g-eq0.tree
          (IsPassedUpTo-extends p owner (length need) m c.loop-k.k t c.if-tree-g-eq0.tree step.extends i.passed) step.seen;
    }
