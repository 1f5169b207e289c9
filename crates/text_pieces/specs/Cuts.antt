-- A text cut at a byte, as what comes before and after it.
use Rattle.std.specs.Prelude.{ℕ, ◌==◌, List, [], ◌∷◌, Option, Some, None, option_map, if◌then◌else◌}
use Rattle.std.specs.Option.{option_map_or}

abbrev pub put_prefix : ℕ → List ℕ × List ℕ → List ℕ × List ℕ
put_prefix b parts = (b ∷ parts.0, parts.1)

-- a text cut at its first byte of one kind, which the part before it does not have
abbrev pub cut_first : ℕ → List ℕ → Option (List ℕ × List ℕ)
cut_first c [] = None
cut_first c (b ∷ bs) = if b == c then Some ([], bs) else option_map (put_prefix b) (cut_first c bs)

-- a text cut at its last byte of one kind, which the part after it does not have
abbrev pub cut_last : ℕ → List ℕ → Option (List ℕ × List ℕ)
cut_last c [] = None
cut_last c (b ∷ bs) =
    option_map_or (λ parts. Some (put_prefix b parts)) (cut_last c bs)
    (if b == c then Some ([], bs) else None)
