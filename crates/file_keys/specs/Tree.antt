-- What the tree of a TOML text holds at a key.
use Rattle.std.specs.Prelude.{ℕ, ℤ, pos, negsuc, List, [], ◌∷◌, Bool, ◌&&◌, nat_le, is_some, length, Option, Some, None}
use Rattle.std.specs.Prelude.{option_and_then, if◌then◌else◌}
use Rattle.std.specs.Option.{option_map_or}
use Rattle.toml.specs.Data.{Data, Items, no_items, item, Members, no_members, member, as_integer, as_str, as_table, as_array, get_member}

-- a key with its value
abbrev pub Entry : Type 0
Entry = List ℕ × Data

abbrev pub entries_of : Members → List Entry
entries_of no_members = []
entries_of (member key value rest) = (key, value) ∷ entries_of rest

abbrev pub values_of : Items → List Data
values_of no_items = []
values_of (item value rest) = value ∷ values_of rest

-- the entries of a table; what is no table has none
abbrev pub entries_in : Data → List Entry
entries_in value = option_map_or entries_of (as_table value) []

-- the values of an array; what is no array has none
abbrev pub values_in : Data → List Data
values_in value = option_map_or values_of (as_array value) []

-- the entries of the table at a key
abbrev pub entries_at : List ℕ → Members → List Entry
entries_at key tree = option_map_or entries_in (get_member key tree) []

abbrev pub within : ℕ → ℕ → ℤ → Option ℕ
within low high (pos n) = if nat_le low n && nat_le n high then Some n else None
within low high (negsuc n) = None

-- the number from low to high that a value is
abbrev pub number_between : ℕ → ℕ → Data → Option ℕ
number_between low high value = option_and_then (within low high) (as_integer value)

abbrev pub long_between : ℕ → ℕ → List ℕ → Option (List ℕ)
long_between low high text = if nat_le low (length text) && nat_le (length text) high then Some text else None

-- the text of low to high bytes that a value is
abbrev pub text_between : ℕ → ℕ → Data → Option (List ℕ)
text_between low high value = option_and_then (long_between low high) (as_str value)

abbrev pub has_key : List ℕ → Members → Bool
has_key key table = is_some (get_member key table)
