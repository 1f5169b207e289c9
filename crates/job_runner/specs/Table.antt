-- Jobs by name.
use Rattle.std.specs.Prelude.{ℕ, List, [], ◌∷◌, Bool, false, ◌||◌, Option, map}
use Rattle.std.specs.Option.{option_map}
use Rattle.std.specs.List.{list_any, find}
use Rattle.std.specs.List.Sorted.{IsStrictlySortedBy}
use Rattle.std.specs.Cmp.Lexicographic.{slice_cmp}
use Rattle.std.specs.Ordering.{nat_cmp}
use Rattle.std.specs.Str.{bytes_eq}
use Rattle.job_runner.specs.Told.{Told}

-- what the entry of a name reports for an input, and none where there is no such name
abbrev pub told_by : {E : Type 0} → (E → List ℕ) → (E → List ℕ → Told) → List E → List ℕ → List ℕ → Option Told
told_by name_of meaning_of entries name input =
    option_map (λ entry. meaning_of entry input) (find (λ entry. bytes_eq (name_of entry) name) entries)

-- an entry has this name
abbrev pub is_named : {E : Type 0} → (E → List ℕ) → List ℕ → List E → Bool
is_named name_of name entries = list_any (λ entry. bytes_eq (name_of entry) name) entries

-- a name comes twice
abbrev pub is_named_twice : {E : Type 0} → (E → List ℕ) → List E → Bool
is_named_twice name_of [] = false
is_named_twice name_of (entry ∷ entries) = is_named name_of (name_of entry) entries || is_named_twice name_of entries

-- each name is below the next in byte order
abbrev pub RiseByName : {E : Type 0} → (E → List ℕ) → List E → Type 0
RiseByName name_of entries = IsStrictlySortedBy (slice_cmp nat_cmp) (map name_of entries)
