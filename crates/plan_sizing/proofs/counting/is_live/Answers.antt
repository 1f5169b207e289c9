use Rattle.std.proofs.Common.{◌≡◌, ◌-◌, ℕ, eqb, ltb, length, List, rules, sym, ap, subst, ◌∙◌, arith}
use Rattle.std.specs.List.{list_any}
use Rattle.std.specs.List.Sorted.{IsStrictlyIncreasing}
use Rattle.std.proofs.lemmas.List.Sorted.{answers_always}
use Rattle.plan_model.specs.Planning.{Instance}
use Rattle.plan_model.proofs.Places.{keys, any_searched}
use Rattle.plan_sizing.proofs.Grown.{live_above, live_below}
use Rattle.plan_sizing.proofs.counting.is_live.Goals as goal

pub returns-then-number-first : goal.returns-then-number-first
returns-then-number-first c =
    let farm = c.args.farm.now in
    let added = c.args.added.now in
    let place : c.number-number.result - c.slots-first.result ≡ c.args.slot - farm.slots = omega (arith, c.number-number.ensures, c.slots-first.ensures.all) in
    ap (λ k. ltb k (length added)) place ∙ sym (live_above farm added c.args.slot c.facts.ensures (omega (arith, c.if-number-first.true, c.number-number.ensures, c.slots-first.ensures.all)))

pub returns : goal.returns
returns c =
    let farm = c.args.farm.now in
    let facts = c.binary_search_by_key.ensures in
    let by_key = facts.position (λ worker. worker.0) (answers_always _ _ _ (λ f a r g called. search rules)) in
    let P : List (ℕ × ℕ) → Type 0 = λ live. IsStrictlyIncreasing (keys live) in
    let rises = subst P (sym c.live.ensures.all) c.live.ensures.valid.slots in
    let now = c.live.ensures.all ∙ ap (λ (i : Instance). i.live) c.input.ensures in
    c.is_ok.ensures.value ∙ any_searched c.live.result.now rises c.args.slot (0, 0) _ facts.bound by_key ∙ ap (list_any (λ (worker : ℕ × ℕ). eqb worker.0 c.args.slot)) now
    ∙ sym (live_below farm c.args.added.now c.args.slot (omega (arith, c.if-number-first.false, c.number-number.ensures, c.slots-first.ensures.all)))
