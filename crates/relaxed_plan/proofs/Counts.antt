-- A set that is short has a function with a least number, which it has no more once the set is let off.
use Rattle.std.proofs.Common.{◌≡◌, ℕ, zero, suc, ◌+◌, ◌^◌, ◌<◌, ◌≤◌, Bool, true, false, cond, eqb, ltb, List, [], ◌∷◌, map, length, get_or, count_by, sum_by, refl, sym, ap, ◌∙◌, subst, inl, inr, arith}
use Rattle.std.specs.Prelude.{IsTrue}
use Rattle.std.specs.List.{range_with_len}
use Rattle.std.proofs.Math.Bool.{or-true}
use Rattle.std.proofs.lemmas.Bool.{cases_Bool, cases_eq, cases_lt, eq-eqb, le-ltb, lt-ltb}
use Rattle.std.proofs.lemmas.List.{get_or_past}
use Rattle.std.proofs.lemmas.List.Sums.{sum_by-cons}
use Rattle.plan_model.specs.Planning.{Instance, IsInstance, IsShort, counted_waiting, is_stranded, need, top_level}
use Rattle.plan_model.proofs.Needs.{fewest_unserved, need_some}
use Rattle.relaxed_plan.specs.Least.{HasLeast, least_count}
use Rattle.relaxed_plan.specs.Relaxed.{AreShortInTurn, is_among, least_left, let_off_of}
use Rattle.relaxed_plan.proofs.Left.{IsInstance-let_off, least-none}

-- without a least number a function needs nobody at the top level
cond-few : (b : Bool) (w : ℕ) → w < 2 ^ 32 → cond b 0 w < 2 ^ 32
cond-few true w small = omega arith
cond-few false w small = small

waiting-few : (i : Instance) (f : ℕ) → IsInstance i → counted_waiting i f < 2 ^ 32
waiting-few i f valid = cond-few (is_stranded i f) (get_or i.waiting f 0) (elim (cases_lt f (length i.waiting)) [ inl inside ↦ valid.counted f 0 inside | inr past ↦ rw (get_or_past i.waiting f 0 past) (omega arith) ])

needs_nobody : (i : Instance) (f : ℕ) → IsInstance i → get_or i.least f 0 ≡ 0 → need i top_level f ≡ 0
needs_nobody i f valid none =
    need_some i top_level f 0 (fewest_unserved (counted_waiting i f) top_level (omega (arith, waiting-few i f valid))) (omega (arith, none)) ∙ omega (arith, none)

needs-some : (wanted : ℕ → ℕ) (set : List ℕ) → 0 < sum_by wanted set → (f : ℕ) × IsTrue (is_among set f) × (0 < wanted f)
needs-some wanted [] some = absurd (omega (arith, some))
needs-some wanted (g ∷ set) some = elim (cases_lt 0 (wanted g)) [
  | inl here ↦ (g, rw (eq-eqb g g refl) refl, here)
  | inr none ↦ (let rest = needs-some wanted set (omega (arith, some, none, sum_by-cons wanted g set)) in (rest.0, rw (rest.1, or-true (eqb g rest.0)) refl, rest.2))
]

pub short-has_least : (i : Instance) (set : List ℕ) → IsInstance i → IsShort i top_level set → HasLeast i set
short-has_least i set valid short =
    let one = needs-some (need i top_level) set (omega (arith, short.short)) in
    let f = one.0 in
    (f, one.1, elim (cases_lt 0 (get_or i.least f 0)) [ inl some ↦ some | inr none ↦ absurd (omega (arith, one.2, needs_nobody i f valid (omega (arith, none)))) ])

-- how many of some numbers are above 0, if another has none where these have one
abbrev counted : (ℕ → ℕ) → ℕ → ℕ → ℕ
counted g from many = count_by (λ n. ltb 0 n) (map g (range_with_len from many))

abbrev one_if_some : ℕ → ℕ
one_if_some n = cond (ltb 0 n) 1 0

one_if_some-le : (m n : ℕ) → m ≤ n → one_if_some m ≤ one_if_some n
one_if_some-le m n up = elim (cases_lt 0 m) [
  | inl some ↦ rw (lt-ltb 0 m some, lt-ltb 0 n (omega (arith, some, up))) (omega arith)
  | inr none ↦ rw (le-ltb 0 m none) (omega arith)
]

counted-more : (g : ℕ → ℕ) (from many : ℕ) → counted g from (suc many) ≡ one_if_some (g from) + counted g (from + 1) many
counted-more g from many = sum_by-cons one_if_some (g from) (map g (range_with_len (from + 1) many))

few : (g h : ℕ → ℕ) → ((f : ℕ) → g f ≤ h f) → (from many : ℕ) → counted g from many ≤ counted h from many
few g h less from zero = omega arith
few g h less from (suc many) =
    omega (arith, few g h less (from + 1) many, one_if_some-le (g from) (h from) (less from), counted-more g from many, counted-more h from many)

fewer : (g h : ℕ → ℕ) → ((f : ℕ) → g f ≤ h f) → (from many f : ℕ) → from ≤ f → f < from + many → g f ≡ 0 → 0 < h f → counted g from many < counted h from many
fewer g h less from zero f low high none some = absurd (omega (arith, low, high))
fewer g h less from (suc many) f low high none some = elim (cases_eq from f) [
  | inl same ↦
      let nobody : g from ≡ 0 = ap g same ∙ none in
      let somebody : 0 < h from = (let P : ℕ → Type 0 = λ n. 0 < h n in subst P (sym same) some) in
      let first : one_if_some (g from) ≡ 0 = ap one_if_some nobody in
      let second : one_if_some (h from) ≡ 1 = rw (lt-ltb 0 (h from) somebody) refl in
      omega (arith, first, second, few g h less (from + 1) many, counted-more g from many, counted-more h from many)
  | inr other ↦
      omega (arith, fewer g h less (from + 1) many f (omega (arith, low, other)) (omega (arith, high)) none some, one_if_some-le (g from) (h from) (less from), counted-more g from many, counted-more h from many)
]

pub least_count-falls : (i : Instance) (set : List ℕ) → HasLeast i set → least_count (let_off_of i set) < least_count i
least_count-falls i set has =
    let f = has.0 in
    let before = least_left i.least [] in
    let after = least_left i.least set in
    let inside : f < length i.least = elim (cases_lt f (length i.least)) [ inl inside ↦ inside | inr past ↦ absurd (omega (arith, has.2, get_or_past i.least f 0 past)) ] in
    let among : is_among set f ≡ true = has.1 in
    let none : after f ≡ 0 = rw among refl in
    let falls = fewer after before less 0 (length i.least) f (omega arith) (omega (arith, inside)) none has.2 in
    subst (λ (least : List ℕ). least_count (let_off_of i set) < count_by (λ n. ltb 0 n) least) (least-none i.least) falls
  where
    less : (g : ℕ) → least_left i.least set g ≤ least_left i.least [] g
    less g = elim (cases_Bool (is_among set g)) [ inl is ↦ rw is (omega arith) | inr is ↦ rw is (omega arith) ]

-- no more sets are short in turn than functions have a least number
pub end_in_turn : (i : Instance) (sets : List (List ℕ)) → IsInstance i → AreShortInTurn i sets → length sets ≤ least_count i
end_in_turn i [] valid turn = omega arith
end_in_turn i (set ∷ sets) valid turn =
    let rest = end_in_turn (let_off_of i set) sets (IsInstance-let_off i set valid) turn.1 in
    omega (arith, rest, least_count-falls i set (short-has_least i set valid turn.0))
