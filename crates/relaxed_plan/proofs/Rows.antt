-- Rows that rise already stay as they are.
use Rattle.std.proofs.Common.{◌≡◌, ℕ, ◌+◌, ◌<◌, ◌≤◌, List, [], ◌∷◌, false, cond, eqb, zero, suc, map, filter, All, refl, sym, ap, ◌∙◌, inl, inr, arith}
use Rattle.std.specs.List.{AllByRecursion, list_any, range_with_len}
use Rattle.std.specs.List.Sorted.{IsStrictlyIncreasing}
use Rattle.std.proofs.lemmas.Bool.{cases_eq, eq-eqb, ne_eqb}
use Rattle.std.proofs.lemmas.List.Elements.{recursion_from_All}
use Rattle.plan_model.specs.InputRefusals.{rising_of}
use Rattle.plan_model.proofs.Hall.{Rising, rising}

-- the numbers from a on that a row names, of k numbers
abbrev named_from : ℕ → ℕ → List ℕ → List ℕ
named_from a k row = filter (λ f. list_any (λ g. eqb g f) row) (range_with_len a k)

none_named : (f : ℕ) (row : List ℕ) → AllByRecursion (λ g. f < g) row → list_any (λ g. eqb g f) row ≡ false
none_named f [] h = refl
none_named f (g ∷ row) h = rw (ne_eqb g f (λ e. omega (arith, h.0, e))) (none_named f row h.1)

-- a number below the range adds none
without : (r a k : ℕ) (row : List ℕ) → r < a → named_from a k (r ∷ row) ≡ named_from a k row
without r a zero row below = refl
without r a (suc k) row below =
    rw (ne_eqb r a (λ e. omega (arith, e, below))) (ap (λ rest. cond (list_any (λ g. eqb g a) row) (a ∷ rest) rest) (without r (a + 1) k row (omega arith)))

empty : (a k : ℕ) → named_from a k [] ≡ []
empty a zero = refl
empty a (suc k) = empty (a + 1) k

above_next : (a r : ℕ) (row : List ℕ) → a < r → AllByRecursion (λ g. r < g) row → AllByRecursion (λ g. a < g) row
above_next a r [] below h = tt
above_next a r (g ∷ row) below h = (omega (arith, h.0, below), above_next a r row below h.1)

abbrev Within : ℕ → ℕ → List ℕ → Type 0
Within a k row = AllByRecursion (λ f. (a ≤ f) × (f < a + k)) row

inside_next : (a k r : ℕ) (row : List ℕ) → a ≤ r → AllByRecursion (λ g. r < g) row → Within a (suc k) row → Within (a + 1) k row
inside_next a k r [] from above within = tt
inside_next a k r (g ∷ row) from above within = ((omega (arith, above.0), omega (arith, within.0.1)), inside_next a k r row from above.1 within.1)

-- a rising row in a range is what it names of the range
pub named-same : (a k : ℕ) (row : List ℕ) → Rising row → Within a k row → named_from a k row ≡ row
named-same a zero [] rises within = refl
named-same a zero (r ∷ row) rises within = absurd (omega (arith, within.0.0, within.0.1))
named-same a (suc k) [] rises within = empty a (suc k)
named-same a (suc k) (r ∷ row) rises within = elim (cases_eq r a) [
  | inl same ↦ (
      let rest = named-same (a + 1) k row rises.1 (inside_next a k r row (omega (arith, same)) rises.0 within.1) in
      rw (eq-eqb r a same) (
      let others = without r (a + 1) k row (omega (arith, same)) in
      ap (λ t. a ∷ t) (others ∙ rest) ∙ ap (λ t. t ∷ row) (sym same)))
  | inr other ↦ (
      let above : a < r = omega (arith, within.0.0, other) in
      let none = none_named a (r ∷ row) (above, above_next a r row above rises.0) in
      let next : Within (a + 1) k (r ∷ row) = ((omega (arith, above), omega (arith, within.0.1)), inside_next a k r row (omega (arith, above)) rises.0 within.1) in
      rw none (named-same (a + 1) k (r ∷ row) rises next))
]

row_same : (n : ℕ) (row : List ℕ) → IsStrictlyIncreasing row → All (λ f. f < n) row → rising_of n row ≡ row
row_same n row rises below =
    named-same 0 n row (rising row rises) (both row (recursion_from_All (λ f. f < n) row below))
  where
    both : (xs : List ℕ) → AllByRecursion (λ f. f < n) xs → Within 0 n xs
    both [] h = tt
    both (x ∷ xs) h = ((omega arith, omega (arith, h.0)), both xs h.1)

-- rows that rise and name functions below n stay as they are
pub rows_same : (n : ℕ) (rows : List (List ℕ)) → All IsStrictlyIncreasing rows → All (λ row. All (λ f. f < n) row) rows → map (rising_of n) rows ≡ rows
rows_same n rows rise within = by rows (recursion_from_All IsStrictlyIncreasing rows rise) (recursion_from_All (λ row. All (λ f. f < n) row) rows within)
  where
    by : (rs : List (List ℕ)) → AllByRecursion IsStrictlyIncreasing rs → AllByRecursion (λ row. All (λ f. f < n) row) rs → map (rising_of n) rs ≡ rs
    by [] h k = refl
    by (r ∷ rs) h k = rw (row_same n r h.0 k.0) (ap (λ t. r ∷ t) (by rs h.1 k.1))
