use Rattle.std.proofs.Common.{◌≡◌, ℕ, List, ◌+◌, length, get_or, ap, refl, subst, arith}
use Rattle.round_arena.specs.declared.tables.Pairs.{Pairs}
use Rattle.round_arena.specs.Plan.{pairs_up_to, staff_of}
use Rattle.round_arena.proofs.Counts.{pairs_up_to-next, pairs_up_to-step, pairs_up_to-within}
use Rattle.augment.proofs.Rounds.{SamePairs-trans}
use Rattle.level_search.specs.Filled.{IsFilled, AreBusy}
use Rattle.level_search.proofs.Filling.{IsFilled-trans, IsConsistent-filled, filled-at, IsBusyUpTo-filled, IsBusyUpTo-more}
use Rattle.level_search.proofs.fill.fill_function.Goals as goal

pub fill_machine-requires-clause-looks : goal.fill_machine-requires-clause-looks
fill_machine-requires-clause-looks c =
    let p = c.args.tables.now.pairs in
    let f = c.args.f in
    let next = pairs_up_to-next p c.args.functions (length c.args.tables.now.owner.now) f c.loop-k.k c.requires.sound.graph c.requires.f c.loop-k-test.true in
    let so_far = pairs_up_to-within p (get_or p.machines.first.now f 0) c.loop-k.k c.loop-k.auto.k (omega (arith, c.loop-k-test.true, c.requires.sound.graph.machines.ends (f + 1) (omega (arith, c.requires.f)))) in
    omega (arith, next.0, next.1, so_far, ap (λ q. staff_of q (get_or p.machines.items.now c.loop-k.k 0)) c.loop-k.invariant.same.pairs, c.loop-k.invariant.looks, c.requires.looks)

pub loop-k-preserved : goal.loop-k-preserved
loop-k-preserved c =
    let p = c.args.tables.now.pairs in
    let f = c.args.f in
    let most = c.args.tables.now.most.now in
    let i = c.loop-k.invariant in
    let t = c.loop-k.tables in
    let u = c.fill_machine.new.tables in
    let e = c.fill_machine.ensures in
    let m = get_or p.machines.items.now c.loop-k.k 0 in
    let moved = ap (λ z. z.now) i.same.most in
    let step : IsFilled c.args.functions p most t.owner.now u.owner.now u.count.now = filled-at t.pairs p t.most.now most i.same.pairs moved e.filled in
    let busy : AreBusy p most u.owner.now c.args.functions f m =
    subst (λ (q : Pairs). AreBusy q most u.owner.now c.args.functions f m) i.same.pairs (subst (λ (z : List ℕ). AreBusy t.pairs z u.owner.now c.args.functions f m) moved e.busy) in
    let next = pairs_up_to-next p c.args.functions (length c.args.tables.now.owner.now) f c.loop-k.k c.requires.sound.graph c.requires.f c.loop-k-test.true in
    record {
      sound = IsConsistent-filled t t.pairs t.most.now u.owner.now u.count.now i.sound refl refl e.filled e.same refl refl;
      same = SamePairs-trans c.args.tables.now t u i.same e.same;
      filled = IsFilled-trans c.args.functions p most c.args.tables.now.owner.now t.owner.now u.owner.now t.count.now u.count.now i.filled step;
      busy = IsBusyUpTo-more c.args.functions p most u.owner.now f c.loop-k.k (IsBusyUpTo-filled c.args.functions p most t.owner.now u.owner.now u.count.now f c.loop-k.k step c.requires.f i.busy) busy;
      looks = omega (arith, i.looks, next.0, e.looks, ap (λ q. staff_of q m) i.same.pairs);
    }

pub returns-clause-looks : goal.returns-clause-looks
returns-clause-looks c =
    let p = c.args.tables.now.pairs in
    let high = get_or p.machines.first.now (c.args.f + 1) 0 in
    let rises = c.requires.sound.graph.machines.rises c.args.f c.requires.f in
    let end : c.loop-k.k ≡ high = omega (arith, c.loop-k-test.false, c.loop-k.auto.k-end, rises) in
    let step = pairs_up_to-step p c.args.functions (length c.args.tables.now.owner.now) c.args.f c.requires.sound.graph c.requires.f in
    omega (arith, c.loop-k.invariant.looks, step, ap (pairs_up_to p) end)
