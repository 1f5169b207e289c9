use Rattle.std.proofs.Common.{rules, ◌↔◌, ℕ, List, ltb, subst}
use Rattle.std.specs.Prelude.{IsTrue}
use Rattle.std.specs.List.Sorted.{IsStrictlyIncreasing}
use Rattle.std.proofs.lemmas.Fn.{always_returns_same}
use mathlib.Core.List.{map-id}
use Rattle.plan_model.proofs.Rising.{rise_exactly}
use Rattle.plan_model.proofs.plan.functions_rise.Goals as goal

pub returns : goal.returns
returns c =
    let P : List ℕ → Type 0 = λ functions. IsTrue c.is_sorted_by.result ↔ IsStrictlyIncreasing functions in
    subst P (map-id c.args.functions.now)
    (rise_exactly (λ function. function) c.args.functions.now c.is_sorted_by.result
    (c.is_sorted_by.ensures.cases (λ x y. ltb x y) (always_returns_same _ _ _ (λ a r f' called. search rules))))
