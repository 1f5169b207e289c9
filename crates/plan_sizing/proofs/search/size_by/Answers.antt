use Rattle.std.proofs.Common.{◌≡◌, ◌<◌, ◌++◌, ℕ, List, Option, All, map, length, get_or, ap, sym, ◌∙◌, subst, arith}
use Rattle.std.specs.Prelude.{sum}
use Rattle.std.specs.List.{enumerate_from}
use Rattle.plan_model.specs.Planning.{Instance, assigned}
use Rattle.plan_sizing.specs.Hiring.{AreHires, IsPlaced, evidence, hired_entries}
use Rattle.plan_sizing.specs.Shown.{IsShownAddition}
use Rattle.plan_sizing.specs.Sizing.{is_known_to}
use Rattle.plan_sizing.proofs.Barred.{free}
use Rattle.plan_sizing.proofs.Found.{placed_addition, plan_by, shown_addition}
use Rattle.plan_sizing.proofs.Hired.{now_below}
use Rattle.plan_sizing.proofs.search.size_by.Goals as goal

pub hires_of-requires-clause-known : goal.hires_of-requires-clause-known
hires_of-requires-clause-known c f l some =
    let farm = c.args.farm.now in
    let leaves = c.requires.left.leaves in
    let list = c.deref-2.ensures.value in
    let below : f < length farm.problem.least = omega (arith, l, ap length list, leaves.many) in
    let lacks : 0 < get_or c.args.left.lacks.items f 0 = omega (arith, some, ap (λ (xs : List ℕ). get_or xs f 0) list) in
    ap (λ (i : Instance). is_known_to i f) c.input.ensures ∙ (free farm c.requires.free f below).known (omega (arith, lacks, leaves.lacking f below))

pub grow_plan-requires-clause-slots : goal.grow_plan-requires-clause-slots
grow_plan-requires-clause-slots c =
    let farm = c.args.farm.now in
    let left = c.requires.left in
    let lacks = c.args.left.lacks.items in
    let hires = c.in_ok-hires.hires.items in
    let hired : AreHires farm.problem lacks hires = subst (λ (i : Instance). AreHires i lacks hires) c.input.ensures (subst (λ (ns : List ℕ). AreHires c.input.result.now ns hires) c.deref-2.ensures.value c.in_ok-hires.ensures.hires) in
    subst (λ (entries : List (ℕ × Option ℕ)). All (λ entry. entry.0 < farm.slots) entries) (sym (plan_by farm c.args.left.plan c.args.left.short lacks left)) (now_below farm left.tables lacks hires c.facts.ensures left.leaves hired)

pub grow_plan-requires-clause-few : goal.grow_plan-requires-clause-few
grow_plan-requires-clause-few c =
    omega (arith, ap length c.deref-3.ensures.value, c.in_ok-hires.ensures.hires.many, ap sum c.deref-2.ensures.value, c.total-many.ensures, ap sum c.deref.ensures.value, c.if-many-slots.false, c.slots.ensures.all, c.slots.ensures.few)

pub returns-clause-shown : goal.returns-clause-shown
returns-clause-shown c =
    let farm = c.args.farm.now in
    let left = c.requires.left in
    let lacks = c.args.left.lacks.items in
    let hires = c.in_ok-hires.hires.items in
    let hired : AreHires farm.problem lacks hires = subst (λ (i : Instance). AreHires i lacks hires) c.input.ensures (subst (λ (ns : List ℕ). AreHires c.input.result.now ns hires) c.deref-2.ensures.value c.in_ok-hires.ensures.hires) in
    let many : c.total-many.result ≡ sum lacks = c.total-many.ensures ∙ ap sum c.deref.ensures.value in
    let whole = shown_addition farm c.args.left.plan c.args.left.short lacks hires c.facts.ensures c.requires.free left hired (omega (arith, many, c.if-many-slots.false, c.slots.ensures.all, c.slots.ensures.few)) in
    let added : c.of_rising-added.result ≡ map (λ (hire : ℕ × ℕ). hire.0) hires = c.of_rising-added.ensures ∙ c.in_ok-machines_of.ensures ∙ ap (map (λ (hire : ℕ × ℕ). hire.0)) c.deref-4.ensures.value in
    let plan : c.in_ok-plan.plan ≡ c.args.left.plan ++ hired_entries farm.slots hires = c.in_ok-plan.ensures ∙ ap (λ (hs : List (ℕ × ℕ)). c.args.left.plan ++ hired_entries farm.slots hs) c.deref-3.ensures.value in
    let beside : c.evidence-short.result ≡ evidence (sum lacks) c.args.left.short = c.evidence-short.ensures ∙ ap (λ (n : ℕ). evidence n c.args.left.short) many in
    subst (λ (ms : List ℕ). IsShownAddition farm ms c.in_ok-plan.plan c.evidence-short.result) (sym added)
    (subst (λ (entries : List (ℕ × Option ℕ)). IsShownAddition farm (map (λ (hire : ℕ × ℕ). hire.0) hires) entries c.evidence-short.result) (sym plan)
    (subst (λ (set : Option (List ℕ)). IsShownAddition farm (map (λ (hire : ℕ × ℕ). hire.0) hires) (c.args.left.plan ++ hired_entries farm.slots hires) set) (sym beside) whole))

pub returns-clause-placed : goal.returns-clause-placed
returns-clause-placed c =
    let farm = c.args.farm.now in
    let left = c.requires.left in
    let lacks = c.args.left.lacks.items in
    let hires = c.in_ok-hires.hires.items in
    let hired : AreHires farm.problem lacks hires = subst (λ (i : Instance). AreHires i lacks hires) c.input.ensures (subst (λ (ns : List ℕ). AreHires c.input.result.now ns hires) c.deref-2.ensures.value c.in_ok-hires.ensures.hires) in
    let added : c.of_rising-added.result ≡ map (λ (hire : ℕ × ℕ). hire.0) hires = c.of_rising-added.ensures ∙ c.in_ok-machines_of.ensures ∙ ap (map (λ (hire : ℕ × ℕ). hire.0)) c.deref-4.ensures.value in
    let plan : c.in_ok-plan.plan ≡ c.args.left.plan ++ hired_entries farm.slots hires = c.in_ok-plan.ensures ∙ ap (λ (hs : List (ℕ × ℕ)). c.args.left.plan ++ hired_entries farm.slots hs) c.deref-3.ensures.value in
    subst (λ (ms : List ℕ). All (IsPlaced farm (assigned c.in_ok-plan.plan)) (enumerate_from farm.slots ms)) (sym added)
    (subst (λ (entries : List (ℕ × Option ℕ)). All (IsPlaced farm (assigned entries)) (enumerate_from farm.slots (map (λ (hire : ℕ × ℕ). hire.0) hires))) (sym plan)
    (placed_addition farm c.args.left.plan c.args.left.short lacks hires c.facts.ensures left hired))
