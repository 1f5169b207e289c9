-- What cuts and numbers say of the text that they are taken from.
use Rattle.std.specs.Prelude.{◌≡◌, ℕ, ◌<◌, ◌≤◌, ◌^◌, ◌==◌, ◌↔◌, List, [], ◌∷◌, ◌++◌, Bool, false, Some, decimal}
use Rattle.std.specs.List.{list_any, slice_split}
use Rattle.std.specs.Option.{option_map_or}
use Rattle.text_pieces.specs.Cuts.{cut_first, cut_last}
use Rattle.text_pieces.specs.Numbers.{number_below, plain_number_below}

abbrev pub has_byte : ℕ → List ℕ → Bool
has_byte c text = list_any (λ b. b == c) text

-- the part before the first byte of one kind, and the parts of what comes after it; without such a byte the text is one part
abbrev pub parts_by : ℕ → List ℕ → List (List ℕ)
parts_by c text = option_map_or (λ cut. cut.0 ∷ slice_split (λ b. b == c) cut.1) (cut_first c text) (text ∷ [])

pub record AreCutsJoined : Type 0 where
  pub first : (c : ℕ) (text prefix back : List ℕ)
      → (cut_first c text ≡ Some (prefix, back)) ↔ ((text ≡ prefix ++ c ∷ back) × (has_byte c prefix ≡ false))
  pub last : (c : ℕ) (text prefix back : List ℕ)
      → (cut_last c text ≡ Some (prefix, back)) ↔ ((text ≡ prefix ++ c ∷ back) × (has_byte c back ≡ false))
  pub split : (c : ℕ) (text : List ℕ) → slice_split (λ b. b == c) text ≡ parts_by c text

pub record AreNumbersReadBack : Type 0 where
  pub plain : (bound : ℕ) (digits : List ℕ) (n : ℕ) → bound ≤ 2 ^ 64
      → (plain_number_below bound digits ≡ Some n) ↔ ((digits ≡ decimal n) × (n < bound))
  pub same : (bound : ℕ) (digits : List ℕ) (n : ℕ) → plain_number_below bound digits ≡ Some n → number_below bound digits ≡ Some n
