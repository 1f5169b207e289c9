use Rattle.std.proofs.Common.{ℕ, List, ◌+◌, length, get_or, ap, subst, arith}
use Rattle.round_arena.specs.declared.tables.Pairs.{Pairs}
use Rattle.round_arena.specs.Plan.{degree}
use Rattle.level_search.specs.Filled.{IsFilled, IsBusyUpTo}
use Rattle.round_arena.proofs.Counts.{pairs_up_to-le, pairs_up_to-step}
use Rattle.level_search.proofs.Filling.{IsFilled-trans, filled-at, busy_more}
use Rattle.augment.proofs.Rounds.{SamePairs-trans}
use Rattle.level_search.proofs.fill.fill_idle.Goals as goal

pub loop-f-preserved : goal.loop-f-preserved
loop-f-preserved c =
    let s = c.loop-f.invariant in
    let t = c.loop-f.tables in
    let u = c.fill_function.new.tables in
    let p = c.args.tables.now.pairs in
    let most = c.args.tables.now.most.now in
    let e = c.fill_function.ensures in
    let moved = ap (λ m. m.now) s.same.most in
    let step : IsFilled c.args.functions p most t.owner.now u.owner.now u.count.now = filled-at t.pairs p t.most.now most s.same.pairs moved e.filled in
    record {
      sound = e.sound;
      same = SamePairs-trans c.args.tables.now t u s.same e.same;
      filled = IsFilled-trans c.args.functions p most c.args.tables.now.owner.now t.owner.now u.owner.now t.count.now u.count.now s.filled step;
      busy = busy_more c.args.functions p most t.owner.now u.owner.now u.count.now c.loop-f.f step c.loop-f-test.true s.busy
          (subst (λ (q : Pairs). IsBusyUpTo q most u.owner.now c.args.functions c.loop-f.f (get_or q.machines.first.now (c.loop-f.f + 1) 0)) s.same.pairs
          (subst (λ (m : List ℕ). IsBusyUpTo t.pairs m u.owner.now c.args.functions c.loop-f.f (get_or t.pairs.machines.first.now (c.loop-f.f + 1) 0)) moved e.busy));
      looks = omega (arith, s.looks, e.looks, ap (λ q. degree q c.loop-f.f) s.same.pairs, pairs_up_to-step p c.args.functions (length c.args.tables.now.owner.now) c.loop-f.f c.requires.sound.graph c.loop-f-test.true);
    }

pub fill_function-requires-clause-looks : goal.fill_function-requires-clause-looks
fill_function-requires-clause-looks c =
    let p = c.args.tables.now.pairs in
    let step = pairs_up_to-step p c.args.functions (length c.args.tables.now.owner.now) c.loop-f.f c.requires.sound.graph c.loop-f-test.true in
    omega (arith, step, ap (λ q. degree q c.loop-f.f) c.loop-f.invariant.same.pairs, c.loop-f.invariant.looks, c.requires.looks, pairs_up_to-le p (get_or p.machines.first.now (c.loop-f.f + 1) 0))
