use Rattle.std.proofs.Common.{◌≡◌, ◌+◌, ◌-◌, ◌<◌, ◌≤◌, ℕ, length, get_or, ap, sym, ◌∙◌, arith}
use Rattle.std.proofs.lemmas.List.{get_or_default}
use Rattle.plan_model.specs.Planning.{Instance}
use Rattle.plan_sizing.proofs.Grown.{added_at, length_grown}
use Rattle.plan_sizing.proofs.counting.worker_at.Goals as goal

pub overflow_add-slots : goal.overflow_add-slots
overflow_add-slots c =
    let many : length c.live-live.result.now ≡ length c.args.farm.now.problem.live = ap length c.live-live.ensures.all ∙ ap (λ (i : Instance). length i.live) c.input.ensures in
    omega (arith, many, c.slots.ensures.all, c.requires.few, c.requires.place, length_grown c.args.farm.now c.args.added.now, c.if-place-live.false)

pub bounds-added-number : goal.bounds-added-number
bounds-added-number c =
    let many : length c.live-live.result.now ≡ length c.args.farm.now.problem.live = ap length c.live-live.ensures.all ∙ ap (λ (i : Instance). length i.live) c.input.ensures in
    omega (arith, many, c.requires.place, length_grown c.args.farm.now c.args.added.now, c.if-place-live.false)

pub returns-else-place-live : goal.returns-else-place-live
returns-else-place-live c =
    let farm = c.args.farm.now in
    let added = c.args.added.now in
    let n : ℕ = length farm.problem.live in
    let many : length c.live-live.result.now ≡ n = ap length c.live-live.ensures.all ∙ ap (λ (i : Instance). length i.live) c.input.ensures in
    let past : n ≤ c.args.place = omega (arith, many, c.if-place-live.false) in
    let within : c.args.place < n + length added = omega (arith, c.requires.place, length_grown farm added) in
    let at = added_at farm added c.args.place past within in
    let slot : c.new.result ≡ farm.slots + (c.args.place - n) = c.new.ensures ∙ omega (arith, many, c.slots.ensures.all) in
    let place : c.args.place - length c.live-live.result.now ≡ c.args.place - n = omega (arith, many) in
    let machine : c.index-added-number.result ≡ get_or added (c.args.place - n) 0 =
    c.index-added-number.is ∙ get_or_default added (c.args.place - length c.live-live.result.now) c.index-added-number.result 0 (omega (arith, place, past, within)) ∙ ap (λ k. get_or added k 0) place in
    (λ k. (slot k, machine k)) ∙ sym at
