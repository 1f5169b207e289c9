use Rattle.std.proofs.Common.{◌∙◌, ℕ, ◌<◌, List, [], ◌∷◌, ap, length, refl, slice_index, subst, sym, arith}
use Rattle.std.proofs.lemmas.Bool.{OnFalse_at}
use Rattle.round_arena.specs.Planning.{LacksWorkers}
use Rattle.round_arena.specs.declared.tables.Pairs.{Pairs}
use Rattle.round_arena.specs.Plan.{Represents}
use Rattle.augment.specs.Short.{marked}
use Rattle.augment.proofs.Gains.{AreWithin-served}
use Rattle.augment.proofs.Rounds.{IsConsistent-moved}
use Rattle.augment.proofs.Sets.{LacksWorkers-alone}
use Rattle.augment.proofs.serving.serve.Goals as goal

pub returns-clause-served : goal.returns-clause-served
returns-clause-served c permits holds =
    let e = c.serve_all-is_served.ensures in
    let machine = c.serve_all-is_served.new.tables.machine in
    let functions = length c.args.need.now in
    let place = c.serve_all-is_served.new.tree.place.now in
    subst (λ (set : List ℕ). LacksWorkers permits machine.now functions (λ f. slice_index c.args.need.now f) set)
    (sym (c.reached.ensures ∙ ap (marked place) e.staffed.room.place))
    (OnFalse_at c.if-is_served.false e.short permits machine.now (ap (λ z. length z.now) e.same.machine ∙ c.requires.sound.staff)
    (subst (λ (p : Pairs). Represents permits machine.now p functions) e.same.pairs holds))

pub returns-in-Some-clause-served : goal.returns-in-Some-clause-served
returns-in-Some-clause-served c permits holds =
    let t = c.args.tables.now in
    let need : ℕ → ℕ = λ f. slice_index c.args.need.now f in
    let functions : ℕ = length c.args.need.now in
    let alone : ℕ = c.in-Some.alone in
    let above : length t.machine.now < slice_index c.args.need.now alone = omega (arith, c.requires.sound.staff, c.in-Some.ensures.above.1) in
    subst (λ (set : List ℕ). LacksWorkers permits t.machine.now functions need set) (sym (c.in_ok-set.ensures ∙ ap (λ z. z ∷ []) c.new.ensures)) (LacksWorkers-alone permits t.machine.now functions need alone c.in-Some.ensures.above.0 above)

pub returns-clause-sound : goal.returns-clause-sound
returns-clause-sound c =
    let e = c.serve_all-is_served.ensures in
    let t = c.args.tables.now in
    let u = c.serve_all-is_served.new.tables in
    let within = AreWithin-served c.args.need.now t u.owner.now c.requires.sound c.requires.limited c.in_default.ensures.within e.capped in
    IsConsistent-moved {functions = length c.args.need.now} {u = record { bump = u.bump; slot = u.slot; machine = u.machine; pairs = u.pairs; most = u.most; order = u.order; owner = u.owner; count = u.count; looks = c.serve_all-is_served.new.looks }} t u.owner.now u.count.now c.requires.sound e.same.staff e.staffed.assigned e.staffed.counted within
    (record { pairs = e.same.pairs; most = e.same.most; machine = e.same.machine; slot = e.same.slot; order = e.same.order; staff = e.same.staff }) refl refl

pub returns-then-is_served-clause-sound : goal.returns-then-is_served-clause-sound
returns-then-is_served-clause-sound c =
    let e = c.serve_all-is_served.ensures in
    let t = c.args.tables.now in
    let u = c.serve_all-is_served.new.tables in
    let within = AreWithin-served c.args.need.now t u.owner.now c.requires.sound c.requires.limited c.in_default.ensures.within e.capped in
    IsConsistent-moved {functions = length c.args.need.now} {u = record { bump = u.bump; slot = u.slot; machine = u.machine; pairs = u.pairs; most = u.most; order = u.order; owner = u.owner; count = u.count; looks = c.serve_all-is_served.new.looks }} t u.owner.now u.count.now c.requires.sound e.same.staff e.staffed.assigned e.staffed.counted within
    (record { pairs = e.same.pairs; most = e.same.most; machine = e.same.machine; slot = e.same.slot; order = e.same.order; staff = e.same.staff }) refl refl
