use Rattle.std.proofs.Common.{◌≡◌, ◌<◌, ℕ, List, [], map, length, get_or, ap, sym, ◌∙◌, subst, arith}
use Rattle.std.specs.Prelude.{sum}
use Rattle.plan_model.specs.Planning.{Instance, IsInstance, machines_of, may_do}
use Rattle.round_arena.specs.declared.tables.Pairs.{Pairs}
use Rattle.round_arena.specs.Input.{cut_plan}
use Rattle.round_arena.specs.Plan.{Represents, count_on}
use Rattle.round_arena.specs.Round.{Holds, IsConsistent, plan_of}
use Rattle.round_arena.proofs.Lists.{order-size}
use Rattle.plan_sizing.specs.Hiring.{AreLacks, AreNeeds, Leaves}
use Rattle.plan_sizing.specs.Sizing.{IsShortBy}
use Rattle.plan_sizing.proofs.Barred.{free}
use Rattle.plan_sizing.proofs.Start.{lacks_sum, none_on, pairs_few, short_by}
use Rattle.plan_sizing.proofs.search.serve_now.Goals as goal

pub serve_most-requires-clause-most : goal.serve_most-requires-clause-most
serve_most-requires-clause-most c f l =
    let farm = c.args.farm.now in
    let needs : AreNeeds farm c.deref.result.now = subst (AreNeeds farm) (sym c.deref.ensures.value) c.in_ok-needs.ensures in
    let below : f < length farm.problem.least = omega (arith, l, needs.many) in
    omega (arith, needs.each f below, (free farm c.requires f below).within, ap (λ m. get_or m f 0) c.in_ok-tables.ensures.most, ap (λ (i : Instance). get_or i.most f 0) c.input.ensures)

pub serve_most-requires-clause-within : goal.serve_most-requires-clause-within
serve_most-requires-clause-within c f l =
    let farm = c.args.farm.now in
    let needs : AreNeeds farm c.deref.result.now = subst (AreNeeds farm) (sym c.deref.ensures.value) c.in_ok-needs.ensures in
    let i = c.input.result.now in
    let below : f < length i.least = omega (arith, l, needs.many, ap (λ (i : Instance). length i.least) c.input.ensures) in
    let kept : plan_of c.in_ok-tables.tables ≡ cut_plan i [] = c.in_ok-tables.ensures.kept ∙ ap (cut_plan i) (c.of_rising.ensures ∙ c.new.ensures.items) in
    omega (arith, none_on i c.in_ok-tables.tables f c.in_ok-tables.ensures.sound c.in_ok-tables.ensures.slots kept below)

pub serve_most-requires-clause-looks : goal.serve_most-requires-clause-looks
serve_most-requires-clause-looks c =
    let valid : IsInstance c.input.result.now = subst IsInstance (sym c.input.ensures) c.facts.ensures.instance in
    omega (arith, c.in_ok-tables.ensures.pairs, pairs_few c.input.result.now valid)

pub copy_plan-requires : goal.copy_plan-requires
copy_plan-requires c =
    let u = c.serve_most.new.tables in
    let sound = c.serve_most.ensures.sound in
    record { sound = subst (λ (n : ℕ). IsConsistent n u) (sym (order-size (length c.deref.result.now) u.order.now sound.order)) sound }

pub returns : goal.returns
returns c =
    let farm = c.args.farm.now in
    let t = c.in_ok-tables.tables in
    let u = c.serve_most.new.tables in
    let built = c.in_ok-tables.ensures in
    let e = c.serve_most.ensures in
    let n : ℕ = length farm.problem.least in
    let list = c.deref.result.now in
    let lacks = c.in_ok-lacks.lacks.items in
    let needs : AreNeeds farm list = subst (AreNeeds farm) (sym c.deref.ensures.value) c.in_ok-needs.ensures in
    let sound : IsConsistent n u = subst (λ (k : ℕ). IsConsistent k u) needs.many e.sound in
    let machines : u.machine.now ≡ machines_of farm.problem = ap (λ m. m.now) e.same.machine ∙ built.machines ∙ ap machines_of c.input.ensures in
    let held : Holds (may_do farm.problem) n t = subst (λ (i : Instance). Holds (may_do i) (length i.least) t) c.input.ensures built.holds in
    let moved : Represents (may_do farm.problem) u.machine.now t.pairs n = subst (λ (ms : List ℕ). Represents (may_do farm.problem) ms t.pairs n) (sym (ap (λ m. m.now) e.same.machine)) held in
    let holds : Holds (may_do farm.problem) n u = subst (λ (p : Pairs). Represents (may_do farm.problem) u.machine.now p n) (sym e.same.pairs) moved in
    let counts : AreLacks list u.count.now lacks = subst (λ (ns : List ℕ). AreLacks ns u.count.now lacks) (c.deref-2.ensures.value ∙ sym c.deref.ensures.value) c.in_ok-lacks.ensures in
    let counted : (f : ℕ) → f < length list → get_or u.count.now f 0 ≡ count_on u.owner.now f = λ f l. sound.counted.counts f (omega (arith, l, needs.many)) in
    let leaves : Leaves farm u lacks = record {
      sound = sound;
      slots = ap (λ s. s.now) e.same.slot ∙ built.slots ∙ ap (λ (i : Instance). map (λ (w : ℕ × ℕ). w.0) i.live) c.input.ensures;
      machines = machines;
      holds = holds;
      within = λ f l. omega (arith, e.within f (omega (arith, l, needs.many)), needs.each f l);
      many = counts.many ∙ needs.many;
      lacking = λ f l. omega (arith, counts.each f (omega (arith, l, needs.many)), needs.each f l, counted f (omega (arith, l, needs.many)));
    } in
    let short : IsShortBy farm (sum lacks) c.in_ok-set.set.now =
    short_by farm u.machine.now list u.owner.now c.in_ok-set.set.now (sum lacks) machines needs (lacks_sum list u.count.now lacks u.owner.now counts counted)
    (c.in_ok-set.ensures.short (may_do farm.problem) (subst (λ (k : ℕ). Holds (may_do farm.problem) k u) (sym needs.many) holds)) in
    record {
      tables = u;
      leaves = leaves;
      plan = c.in_ok-plan.ensures;
      short = subst (λ (set : List ℕ). IsShortBy farm (sum lacks) set) (sym (c.of_rising-short.ensures ∙ c.in_ok-from_slice.ensures.items)) short;
    }
