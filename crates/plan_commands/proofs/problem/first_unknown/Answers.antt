use Rattle.std.proofs.Common.{◌≡◌, ◌<◌, ℕ, List, [], map, not, length, get_or, ap, sym, ◌∙◌, arith}
use Rattle.std.proofs.lemmas.List.{get_or-map, length-map}
use Rattle.pool_settings.specs.Slots.{slot_named}
use Rattle.plan_commands.proofs.Marks.{known_more, unknown, unknown_here}
use Rattle.plan_commands.proofs.problem.first_unknown.Goals as goal

pub returns-in-None-clause-unknown : goal.returns-in-None-clause-unknown
returns-in-None-clause-unknown c =
    let names : List (List ℕ) = map (λ w. w.now) c.args.lost.now in
    let i = c.loop-place.place in
    let within : i < length names = omega (arith, length-map c.args.lost.now (λ w. w.now)) in
    let name : get_or names i [] ≡ c.as_bytes.result.now = get_or-map (λ w. w.now) c.args.lost.now i _ [] (omega arith) ∙ sym c.as_bytes.ensures.value in
    let none = ap (slot_named c.args.settings.now) name ∙ sym c.slot_named.ensures.all ∙ c.in-None.is in
    sym (unknown_here c.args.settings.now names i within none c.loop-place.invariant)

pub returns-in-None-clause-any : goal.returns-in-None-clause-any
returns-in-None-clause-any c =
    let names : List (List ℕ) = map (λ w. w.now) c.args.lost.now in
    let i = c.loop-place.place in
    let within : i < length names = omega (arith, length-map c.args.lost.now (λ w. w.now)) in
    let name : get_or names i [] ≡ c.as_bytes.result.now = get_or-map (λ w. w.now) c.args.lost.now i _ [] (omega arith) ∙ sym c.as_bytes.ensures.value in
    let none = ap (slot_named c.args.settings.now) name ∙ sym c.slot_named.ensures.all ∙ c.in-None.is in
    sym (ap not (unknown c.args.settings.now names i within none))

pub loop-place-preserved : goal.loop-place-preserved
loop-place-preserved c =
    let names : List (List ℕ) = map (λ w. w.now) c.args.lost.now in
    let i = c.loop-place.place in
    let within : i < length names = omega (arith, length-map c.args.lost.now (λ w. w.now)) in
    let name : get_or names i [] ≡ c.as_bytes.result.now = get_or-map (λ w. w.now) c.args.lost.now i _ [] (omega arith) ∙ sym c.as_bytes.ensures.value in
    known_more c.args.settings.now names i within c.in-Some.field-0 (ap (slot_named c.args.settings.now) name ∙ sym c.slot_named.ensures.all ∙ c.in-Some.is) c.loop-place.invariant
