use Rattle.std.proofs.Common.{ℕ, List, ◌+◌, ◌<◌, length, get_or, arith, subst, sym}
use Rattle.round_arena.specs.declared.tables.Tables.{Tables}
use Rattle.augment.specs.declared.search.Tree.{Tree}
use Rattle.augment.specs.Most.{IsServedOrMarked}
use Rattle.augment.proofs.CutOff.{IsGoing, going_by, going_on}
use Rattle.augment.proofs.Gains.{order-below, order-place}
use Rattle.augment.proofs.most.serve_each.Goals.{then-tables-f, else-tables-f}
use Rattle.augment.proofs.most.serve_each.Goals as goal

pub bounds-tables-f : goal.bounds-tables-f
bounds-tables-f c = omega (arith, order-below (length c.args.need.now) c.args.tables.now.order.now c.requires.order c.loop-k.k c.loop-k-test.true, c.loop-k.invariant.staffed.counted.size)

pub bounds-need-f : goal.bounds-need-f
bounds-need-f c = order-below (length c.args.need.now) c.args.tables.now.order.now c.requires.order c.loop-k.k c.loop-k-test.true

pub loop-k-preserved : goal.loop-k-preserved
loop-k-preserved c =
    let start = c.args.tables.now in
    let need = c.args.need.now in
    let t = c.loop-k.tables in
    let k : ℕ = c.loop-k.k in
    let f : ℕ = get_or start.order.now k 0 in
    let below : (j : ℕ) → j < length start.order.now → get_or start.order.now j 0 < length need = order-below (length need) start.order.now c.requires.order in
    elim c.if-tables-f.branch [
      | then-tables-f w ↦
          let e = w.serve_or_mark.ensures in
          let on = going_on start need t w.serve_or_mark.new.tables c.loop-k.tree w.serve_or_mark.new.tree c.loop-k.short w.serve_or_mark.new.short k c.loop-k.invariant e.same e.staffed e.within e.cut
          (λ j l. below j (omega (arith, l, c.loop-k-test.true))) e.served e.kept in
          subst (λ (z : Tables). IsGoing start need z c.if-tables-f.tree c.if-tables-f.short (k + 1)) (sym w.tables-is)
          (subst (λ (z : Tree). IsGoing start need w.serve_or_mark.new.tables z c.if-tables-f.short (k + 1)) (sym w.tree-is)
          (subst (λ (z : List ℕ). IsGoing start need w.serve_or_mark.new.tables w.serve_or_mark.new.tree z (k + 1)) (sym w.short-is) on))
      | else-tables-f w ↦
          let on = going_by start need t c.loop-k.tree c.loop-k.short k c.loop-k.invariant (omega (arith, w.if-tables-f.false, c.loop-k.invariant.staffed.counted.counts f (omega (arith, below k c.loop-k-test.true)))) in
          subst (λ (z : Tables). IsGoing start need z c.if-tables-f.tree c.if-tables-f.short (k + 1)) (sym w.tables-is)
          (subst (λ (z : Tree). IsGoing start need t z c.if-tables-f.short (k + 1)) (sym w.tree-is)
          (subst (λ (z : List ℕ). IsGoing start need t c.loop-k.tree z (k + 1)) (sym w.short-is) on))
    ]

pub returns-clause-served : goal.returns-clause-served
returns-clause-served c f l =
    let place = order-place (length c.args.need.now) c.args.tables.now.order.now c.requires.order f l in
    subst (λ (g : ℕ). IsServedOrMarked c.args.need.now c.loop-k.tables.owner.now c.loop-k.short g) place.2 (c.loop-k.invariant.served place.0 (omega (arith, place.1, c.loop-k-test.false)))
