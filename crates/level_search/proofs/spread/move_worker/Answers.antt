use Rattle.std.proofs.Common.{◌≡◌, ◌+◌, ◌-◌, ◌<◌, ◌≤◌, length, get_or, set, eqb, true, refl, ap, sym, ◌∙◌, arith, rules}
use Rattle.std.proofs.lemmas.List.{get_or_default, get_or-set_other, length-set, length-map}
use Rattle.std.proofs.lemmas.List.Sums.{count_by-le-length}
use Rattle.plan_model.specs.Planning.{may_do}
use Rattle.round_arena.specs.Plan.{count_on}
use Rattle.round_arena.specs.Round.{SamePairs}
use Rattle.level_search.proofs.Spreading.{IsSettled-moved, machine-below}
use Rattle.level_search.proofs.spread.move_worker.Goals as goal

pub permitted-requires : goal.permitted-requires
permitted-requires c =
    let h = c.requires.settled in
    machine-below c.args.input.now c.args.tables.now c.args.w c.index-tables-w.result c.requires.instance h.sound h.fits c.requires.worker

pub busiest-requires-clause-machine : goal.busiest-requires-clause-machine
busiest-requires-clause-machine c =
    let h = c.requires.settled in
    machine-below c.args.input.now c.args.tables.now c.args.w c.index-tables-w-2.result c.requires.instance h.sound h.fits c.requires.worker

pub overflow_add-tables-then-is_twice : goal.overflow_add-tables-then-is_twice
overflow_add-tables-then-is_twice c =
    let i = c.args.input.now in
    let t = c.args.tables.now in
    let s = c.requires.settled.sound in
    let to = c.in-Some.to in
    let from = get_or t.owner.now c.args.w 0 in
    let other : get_or (set t.count.now from (get_or t.count.now from 0 - 1)) to 0 ≡ get_or t.count.now to 0 = get_or-set_other t.count.now from to (get_or t.count.now from 0 - 1) 0 c.if-to-from.true in
    let few : count_on t.owner.now to ≤ length t.owner.now = count_by-le-length (λ g. eqb g to) t.owner.now in
    let small : get_or (set t.count.now from (get_or t.count.now from 0 - 1)) to 0 + 1 < 4294967296 =
    omega (arith, other, few, s.counted.counts to (omega (arith, c.in-Some.ensures.known)), s.staff, ap length c.requires.settled.fits.machines, length-map i.live (λ worker. worker.1), c.requires.instance.limits.workers) in
    search rules

pub returns-then-is_twice-clause-settled : goal.returns-then-is_twice-clause-settled
returns-then-is_twice-clause-settled c =
    let i = c.args.input.now in
    let t = c.args.tables.now in
    let h = c.requires.settled in
    let w = c.args.w in
    let to = c.in-Some.to in
    let from = get_or t.owner.now w 0 in
    let inside : w < length t.machine.now = omega (arith, c.requires.worker, h.sound.staff) in
    let can : may_do i (get_or t.machine.now w 0) to ≡ true = ap (λ m. may_do i m to) (sym (get_or_default t.machine.now w c.index-tables-w-2.result 0 inside)) ∙ c.in-Some.ensures.permitted in
    let busy : from < length i.least = omega (arith, c.functions.ensures.all, c.if-from-functions.false, h.sound.assigned.below w c.requires.worker) in
    let same : SamePairs t _ = record { pairs = refl; most = refl; machine = refl; slot = refl; order = refl; staff = length-set t.owner.now w to } in
    IsSettled-moved i c.args.level t _ w from to h c.requires.worker refl busy c.in-Some.ensures.known c.if-to-from.true
    (c.is_spare.ensures.spare c.if-not-is_spare.false) (c.is_spare.ensures.free c.if-not-is_spare.false) can c.in-Some.ensures.room same refl refl
