use Rattle.std.proofs.Common.{◌≡◌, ◌<◌, ℕ, List, [], Some, true, false, map, not, take, length, get_or, replicate, set, rules, ap, sym, ◌∙◌, arith}
use Rattle.std.proofs.lemmas.List.{get_or-map, length-map}
use Rattle.pool_settings.specs.Slots.{slot_named, slots}
use Rattle.std.specs.List.{range_with_len}
use Rattle.plan_commands.specs.Problem.{lost_slots}
use Rattle.plan_commands.proofs.Marks.{is_live_but, lost_more, mark_more, none_lost, unknown}
use Rattle.plan_commands.proofs.problem.live_marks.Goals as goal

pub loop-name-init : goal.loop-name-init
loop-name-init c =
    let fresh : c.in_ok-marks.marks.items ≡ replicate (slots c.args.settings.now) true = search rules in
    fresh ∙ none_lost (slots c.args.settings.now)

pub unreachable-requires : goal.unreachable-requires
unreachable-requires c =
    let names : List (List ℕ) = map (λ w. w.now) c.args.lost.now in
    let i = c.loop-name.name-index in
    let within : i < length names = omega (arith, length-map c.args.lost.now (λ w. w.now)) in
    let name : get_or names i [] ≡ c.as_bytes.result.now = get_or-map (λ w. w.now) c.args.lost.now i _ [] (omega arith) ∙ sym c.as_bytes.ensures.value in
    let none = ap (slot_named c.args.settings.now) name ∙ sym c.slot_named.ensures.all ∙ c.in-None.is in
    let clash : false ≡ true = c.in_default.ensures.any ∙ ap not (unknown c.args.settings.now names i within none) in cc

pub loop-name-preserved : goal.loop-name-preserved
loop-name-preserved c =
    let p = c.args.settings.now in
    let names : List (List ℕ) = map (λ w. w.now) c.args.lost.now in
    let i = c.loop-name.name-index in
    let slot = c.in-Some-slot_named.slot in
    let within : i < length names = omega (arith, length-map c.args.lost.now (λ w. w.now)) in
    let name : get_or names i [] ≡ c.as_bytes.result.now = get_or-map (λ w. w.now) c.args.lost.now i _ [] (omega arith) ∙ sym c.as_bytes.ensures.value in
    let named : slot_named p (get_or names i []) ≡ Some slot = ap (slot_named p) name ∙ sym c.slot_named.ensures.all ∙ c.in-Some-slot_named.is in
    let more = lost_more p names i within slot named in
    let marks = mark_more (slots p) (lost_slots p (take i names)) slot c.in-Some-slot_named.ensures.there in
    rw c.number.ensures (ap (λ m. set m slot false) c.loop-name.invariant ∙ sym (ap (λ lost. map (is_live_but lost) (range_with_len 0 (slots p))) more ∙ marks))
