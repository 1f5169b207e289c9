-- The greatest of the numbers of slots.
use Rattle.std.proofs.Common.{◌≡◌, ◌⊎◌, ℕ, ◌+◌, ◌<◌, ◌≤◌, max, refl, sym, ◌∙◌, arith, inl, inr}
use Rattle.std.proofs.lemmas.Bool.{cases_lt}

-- Of the first so many slots some slot has this number; before the first it is 0.
abbrev pub Reaches : (ℕ → ℕ) → ℕ → ℕ → Type 0
Reaches of count most = ((count ≡ 0) × (most ≡ 0)) ⊎ ((slot : ℕ) × (slot < count) × (of slot ≡ most))

pub reaches_none : (of : ℕ → ℕ) → Reaches of 0 0
reaches_none of = inl (refl, refl)

-- with one more slot
pub reaches_more : (of : ℕ → ℕ) (count most used now : ℕ) → Reaches of count most → of count ≡ used → now ≡ max most used → Reaches of (count + 1) now
reaches_more of count most used now (inl none) here is = inr (count, omega arith, here ∙ omega (arith, none.1, is))
reaches_more of count most used now (inr some) here is = elim (cases_lt most used) [
  | inl above ↦ inr (count, omega arith, here ∙ omega (arith, above, is))
  | inr below ↦ inr (some.0, omega (arith, some.1), some.2 ∙ omega (arith, below, is))
]
