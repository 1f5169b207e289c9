-- The place of a machine's first added worker, and machines that are added.
use Rattle.std.proofs.Common.{◌≡◌, ℕ, ◌+◌, ◌-◌, ◌<◌, ◌≤◌, List, ◌++◌, true, false, ltb, length, get_or, replicate, All, refl, sym, ◌∙◌, inl, inr, arith}
use Rattle.std.specs.List.Sorted.{IsNonDecreasing, IsPartitionPoint}
use Rattle.std.proofs.lemmas.Bool.{cases_lt}
use Rattle.std.proofs.lemmas.List.{get_or_append_left, get_or-append_right, get_or-replicate, length-append, length-replicate}
use Rattle.std.proofs.lemmas.List.Elements.{All-append, All-replicate}
use Rattle.std.proofs.lemmas.List.Sums.{prefix_len_is}
use Rattle.size_report.specs.Grown.{first_added}

-- what a search by halves finds
pub first_at : (added : List ℕ) (machine r : ℕ) → r ≤ length added → IsPartitionPoint (λ y. ltb y machine ≡ true) (λ y. ltb y machine ≡ false) added r
    → r ≡ first_added added machine
first_at added machine r within point =
    sym (prefix_len_is (λ other. ltb other machine) added r 0 within (λ k low. point.0 k 0 (omega arith) low) (λ inside. point.1 r 0 (omega arith) inside))

-- machines with further ones, none of which is lower
pub rises_on : (xs : List ℕ) (n m k : ℕ) → IsNonDecreasing xs → All (λ x. x < n) xs → n ≤ m → IsNonDecreasing (xs ++ replicate k m)
rises_on xs n m k rising below above i j d order inside = elim (cases_lt j (length xs)) [
  | inl left ↦
      omega (arith, rising i j d order left, get_or_append_left xs (replicate k m) d i (omega (arith, order, left)), get_or_append_left xs (replicate k m) d j left)
  | inr right ↦
      let more : j - length xs < k = omega (arith, right, inside, length-append xs (replicate k m), length-replicate k m) in
      let last : get_or (xs ++ replicate k m) j d ≡ m =
      get_or-append_right xs (replicate k m) (length xs) j d refl right ∙ get_or-replicate k (j - length xs) m d more in
      elim (cases_lt i (length xs)) [
        | inl low ↦ omega (arith, last, above, below i d low, get_or_append_left xs (replicate k m) d i low)
        | inr high ↦
            let first : get_or (xs ++ replicate k m) i d ≡ m =
            get_or-append_right xs (replicate k m) (length xs) i d refl high ∙ get_or-replicate k (i - length xs) m d (omega (arith, high, order, more, right)) in
            omega (arith, first, last)
      ]
]

pub below_on : (xs : List ℕ) (n m k : ℕ) → All (λ x. x < n) xs → n ≤ m → All (λ x. x < m + 1) (xs ++ replicate k m)
below_on xs n m k below above =
    All-append (λ x. x < m + 1) xs (replicate k m) (λ i d inside. omega (arith, below i d inside, above)) (All-replicate (λ x. x < m + 1) k m (omega arith))
