-- Numbers and names are one to one.
use Rattle.std.specs.Prelude.{◌≡◌, ℕ, ◌<◌, List, Option, Some}

-- Each number below the count is that of its name, and a name that has a number is the name of that number and of no other.
pub record AreOneToOne (count : ℕ) (name_of : ℕ → List ℕ) (number_of : List ℕ → Option ℕ) : Type 0 where
  pub found : (k : ℕ) → k < count → number_of (name_of k) ≡ Some k
  pub named : (name : List ℕ) (k : ℕ) → number_of name ≡ Some k → (k < count) × (name_of k ≡ name)
