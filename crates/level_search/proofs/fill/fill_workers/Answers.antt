use Rattle.std.proofs.Common.{◌≡◌, ◌≢◌, ℕ, List, ◌+◌, ◌-◌, ◌<◌, ◌≤◌, ◌⊎◌, length, get_or, set, eqb, ap, sym, subst, refl, ◌∙◌, arith, rules, inl, inr}
use Rattle.std.proofs.lemmas.List.{get_or-set_same, get_or-set_other}
use Rattle.std.proofs.lemmas.List.Sums.{count_by-le-length}
use Rattle.round_arena.specs.Plan.{IsPair, count_on}
use Rattle.level_search.specs.Filled.{IsFilled, AreBusyUpTo}
use Rattle.augment.proofs.Flips.{count_on-positive}
use Rattle.level_search.proofs.Filling.{IsFilled-set, IsFilled-trans, AreBusyUpTo-filled, AreBusyUpTo-more}
use Rattle.level_search.proofs.fill.fill_workers.Goals as goal
use Rattle.level_search.proofs.fill.fill_workers.Goals.{then-owner-w+then-count-f, else-owner-w, else-owner-w-via-then-owner-w+else-count-f, else-owner-w-via-else-owner-w}

pub overflow_add-count : goal.overflow_add-count
overflow_add-count c =
    let f = c.args.f in
    let i = c.loop-k.invariant.filled in
    let apart : f ≢ c.args.functions = (λ q. omega (arith, q)) in
    let other : get_or (set c.loop-k.count c.args.functions (get_or c.loop-k.count c.args.functions 0 - 1)) f 0 ≡ get_or c.loop-k.count f 0 = get_or-set_other c.loop-k.count c.args.functions f (get_or c.loop-k.count c.args.functions 0 - 1) 0 apart in
    let few : count_on c.loop-k.owner f ≤ length c.loop-k.owner = count_by-le-length (λ g. eqb g f) c.loop-k.owner in
    let small : get_or (set c.loop-k.count c.args.functions (get_or c.loop-k.count c.args.functions 0 - 1)) f 0 + 1 < 4294967296 =
    omega (arith, i.counted.counts f (omega arith), i.size) in
    search rules

pub overflow_sub-count : goal.overflow_sub-count
overflow_sub-count c =
    let owner = c.loop-k.owner in
    let i = c.loop-k.invariant in
    let w = get_or c.args.tables.now.pairs.workers.items.now c.loop-k.k 0 in
    let wl : w < length owner = omega (arith, c.requires.sound.graph.workers.known c.loop-k.k (search rules), i.filled.size) in
    omega (arith, count_on-positive owner w wl, ap (count_on owner) c.if-owner-w.true, i.filled.counted.counts c.args.functions (omega arith))

pub loop-k-preserved : goal.loop-k-preserved
loop-k-preserved c =
    let p = c.args.tables.now.pairs in
    let most = c.args.tables.now.most.now in
    let f = c.args.f in
    let m = c.args.m in
    let functions = c.args.functions in
    let owner = c.loop-k.owner in
    let count = c.loop-k.count in
    let w = get_or p.workers.items.now c.loop-k.k 0 in
    let i = c.loop-k.invariant in
    let wl : w < length owner = omega (arith, c.requires.sound.graph.workers.known c.loop-k.k (search rules), i.filled.size) in
    let pr : IsPair p w f = (m, c.requires.machine, (c.loop-k.k, c.loop-k.auto.k, c.loop-k-test.true, refl)) in
    let counted : get_or count f 0 ≡ count_on owner f = i.filled.counted.counts f (omega (arith, c.requires.f)) in
    elim c.if-owner-w.branch [
      | then-owner-w+then-count-f b ↦
          let low : count_on owner f < get_or most f 0 = omega (arith, counted, b.if-count-f.true) in
          let step : IsFilled functions p most owner c.if-owner-w.owner c.if-owner-w.count =
          subst (λ (z : List ℕ). IsFilled functions p most owner z c.if-owner-w.count) (sym b.owner-is)
          (subst (λ (z : List ℕ). IsFilled functions p most owner (set owner w f) z) (sym b.count-is)
          (IsFilled-set functions p most owner count w f i.filled.assigned i.filled.counted i.filled.within wl c.requires.f b.if-owner-w.true pr low)) in
          let here : get_or c.if-owner-w.owner w 0 ≡ f = ap (λ z. get_or z w 0) b.owner-is ∙ get_or-set_same owner w f 0 wl in
          record {
            filled = IsFilled-trans functions p most c.args.tables.now.owner.now owner c.if-owner-w.owner count c.if-owner-w.count i.filled step;
            busy = AreBusyUpTo-more functions p most c.if-owner-w.owner f m c.loop-k.k (AreBusyUpTo-filled functions p most owner c.if-owner-w.owner c.if-owner-w.count f m c.loop-k.k step c.requires.f i.busy) (inl (omega (arith, here, c.requires.f)));
            looks = omega (arith, i.looks);
          }
      | else-owner-w b ↦
          let busy_here : (get_or owner w 0 < functions) ⊎ (get_or most f 0 ≤ count_on owner f) =
          elim b.else-owner-w.branch [
            | else-owner-w-via-then-owner-w+else-count-f d ↦ inr (omega (arith, counted, d.if-count-f.false))
            | else-owner-w-via-else-owner-w d ↦ inl (omega (arith, i.filled.assigned.below w wl, d.if-owner-w.false))
          ] in
          record {
            filled = subst (λ (z : List ℕ). IsFilled functions p most c.args.tables.now.owner.now z c.if-owner-w.count) (sym b.owner-is)
                (subst (λ (z : List ℕ). IsFilled functions p most c.args.tables.now.owner.now owner z) (sym b.count-is) i.filled);
            busy = subst (λ (z : List ℕ). AreBusyUpTo p most z functions f m (c.loop-k.k + 1)) (sym b.owner-is) (AreBusyUpTo-more functions p most owner f m c.loop-k.k i.busy busy_here);
            looks = omega (arith, i.looks);
          }
    ]
