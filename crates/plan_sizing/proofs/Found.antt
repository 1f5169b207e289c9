-- The addition for what the live workers leave is shown.
use Rattle.std.proofs.Common.{◌≡◌, ℕ, ◌+◌, ◌≤◌, ltb, List, ◌++◌, length, Option, None, Some, All, sym, ap, ◌∙◌, subst, arith, inl, inr}
use Rattle.std.specs.Prelude.{sum}
use Rattle.std.specs.List.{enumerate_from}
use Rattle.std.proofs.lemmas.Bool.{cases_Bool, cond-true, cond-false, ltb-true, ltb-false}
use Rattle.std.proofs.lemmas.List.{length-map}
use Rattle.plan_model.specs.Planning.{assigned}
use Rattle.round_arena.specs.declared.tables.Tables.{Tables}
use Rattle.round_arena.specs.Round.{plan_entries}
use Rattle.round_arena.proofs.Lists.{order-size}
use Rattle.plan_sizing.specs.Hiring.{AreHires, IsLeft, IsPlaced, evidence, hired_entries}
use Rattle.plan_sizing.specs.Shown.{IsEvidence, IsShownAddition}
use Rattle.plan_sizing.specs.Sizing.{Farm, IsFarm, IsShortBy, first_obstacle}
use Rattle.plan_sizing.proofs.Barred.{free}
use Rattle.plan_sizing.proofs.Hired.{all_bounded, all_needs, all_permitted, all_placed, machines_of}

is_evidence : (farm : Farm) (many : ℕ) (set : List ℕ) → IsShortBy farm many set → IsEvidence farm many (evidence many set)
is_evidence farm many set short = elim (cases_Bool (ltb 0 many)) [
  | inl some ↦ subst (IsEvidence farm many) (sym (cond-true (ltb 0 many) (Some set) None some)) (ltb-true 0 many some, short)
  | inr none ↦ (let zero_many : many ≡ 0 = omega (arith, ltb-false 0 many none) in subst (IsEvidence farm many) (sym (cond-false (ltb 0 many) (Some set) None none)) zero_many)
]

-- the plan of the tables, by the number of functions
pub plan_by : (farm : Farm) (entries : List (ℕ × Option ℕ)) (set lacks : List ℕ) (left : IsLeft farm entries set lacks) → entries ≡ plan_entries (length farm.problem.least) left.tables.slot.now left.tables.owner.now
plan_by farm entries set lacks left =
    left.plan ∙ ap (λ n. plan_entries n left.tables.slot.now left.tables.owner.now) (order-size (length farm.problem.least) left.tables.order.now left.leaves.sound.order)

pub shown_addition : (farm : Farm) (entries : List (ℕ × Option ℕ)) (set lacks : List ℕ) (hires : List (ℕ × ℕ)) → IsFarm farm → first_obstacle farm ≡ None → (left : IsLeft farm entries set lacks) → AreHires farm.problem lacks hires → farm.slots + sum lacks ≤ 4096
    → IsShownAddition farm (machines_of hires) (entries ++ hired_entries farm.slots hires) (evidence (sum lacks) set)
shown_addition farm entries set lacks hires valid none left hired few =
    let t : Tables = left.tables in
    let many : length (machines_of hires) ≡ sum lacks = length-map hires (λ (h : ℕ × ℕ). h.0) ∙ hired.many in
    subst (λ (now : List (ℕ × Option ℕ)). IsShownAddition farm (machines_of hires) (now ++ hired_entries farm.slots hires) (evidence (sum lacks) set)) (sym (plan_by farm entries set lacks left))
    (record {
      few = omega (arith, few, many);
      permitted = all_permitted farm t lacks hires valid left.leaves hired;
      met = all_needs farm t lacks hires valid left.leaves hired;
      at_most = all_bounded farm t lacks hires valid left.leaves hired (free farm none);
      evidence = subst (λ (n : ℕ). IsEvidence farm n (evidence (sum lacks) set)) (sym many) (is_evidence farm (sum lacks) set left.short);
    })

pub placed_addition : (farm : Farm) (entries : List (ℕ × Option ℕ)) (set lacks : List ℕ) (hires : List (ℕ × ℕ)) → IsFarm farm → (left : IsLeft farm entries set lacks) → AreHires farm.problem lacks hires
    → All (IsPlaced farm (assigned (entries ++ hired_entries farm.slots hires))) (enumerate_from farm.slots (machines_of hires))
placed_addition farm entries set lacks hires valid left hired =
    subst (λ (now : List (ℕ × Option ℕ)). All (IsPlaced farm (assigned (now ++ hired_entries farm.slots hires))) (enumerate_from farm.slots (machines_of hires))) (sym (plan_by farm entries set lacks left))
    (all_placed farm left.tables lacks hires valid left.leaves hired)
