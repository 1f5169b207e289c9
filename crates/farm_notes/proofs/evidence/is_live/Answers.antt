use Rattle.std.proofs.Common.{ℕ, eqb, List, rules, sym, ap, subst, ◌∙◌}
use Rattle.std.specs.List.{list_any}
use Rattle.std.specs.List.Sorted.{IsStrictlyIncreasing}
use Rattle.std.proofs.lemmas.List.Sorted.{answers_always}
use Rattle.plan_model.proofs.Places.{keys, any_searched}
use Rattle.farm_notes.proofs.evidence.is_live.Goals as goal

pub returns : goal.returns
returns c =
    let facts = c.binary_search_by_key.ensures in
    let by_key = facts.position (λ worker. worker.0) (answers_always _ _ _ (λ f a r g called. search rules)) in
    let P : List (ℕ × ℕ) → Type 0 = λ live. IsStrictlyIncreasing (keys live) in
    let rises = subst P (sym c.live.ensures.all) c.live.ensures.valid.slots in
    c.is_ok.ensures.value ∙ any_searched c.live.result.now rises c.args.slot (0, 0) _ facts.bound by_key ∙ ap (list_any (λ (worker : ℕ × ℕ). eqb worker.0 c.args.slot)) c.live.ensures.all
