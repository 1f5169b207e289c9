-- What the row of a key says of a table.
use Rattle.std.specs.Prelude.{ℕ, suc, List, [], ◌∷◌, Bool, true, false, not, ◌&&◌, is_some, Option, Some, None, option_and_then}
use Rattle.std.specs.Prelude.{option_map, unwrap_or, ◌<◌, ◌≤◌, length, map, nat_le, slice_get, slice_index, if◌then◌else◌}
use Rattle.std.specs.Borrow.{Bor}
use Rattle.std.specs.List.{find, list_all, list_any}
use Rattle.std.specs.Option.{option_map_or}
use Rattle.std.specs.Str.{bytes_eq}
use Rattle.toml.specs.Data.{Data, Members, as_bool, as_str, as_array, get_member}
use Rattle.file_keys.specs.Hosts.{has_port, is_host, is_socket}
use Rattle.file_keys.specs.Tree.{has_key, number_between, text_between, values_in}
use Rattle.file_keys.specs.declared.keys.Absent.{Absent}
use Rattle.file_keys.specs.declared.keys.Absent.TheVariants as absent
use Rattle.file_keys.specs.declared.keys.KeyValue.{KeyValue}
use Rattle.file_keys.specs.declared.keys.KeyValue.TheVariants as kind
use Rattle.file_keys.specs.declared.keys.Row.{Row}

-- ---- rows, apart from how their words are held

abbrev pub Key : Type 0
Key = Row (List ℕ)

abbrev pub absent_view : {T : Type 0} → (T → List ℕ) → Absent T → Absent (List ℕ)
absent_view words absent.Refused = absent.Refused
absent_view words (absent.Number n) = absent.Number n
absent_view words (absent.Boolean b) = absent.Boolean b
absent_view words (absent.Text t) = absent.Text (words t)
absent_view words (absent.Words t) = absent.Words (words t)

abbrev pub row_view : {T : Type 0} → (T → List ℕ) → Row T → Key
row_view words row = record {
  name = words row.name;
  value = row.value;
  absent = absent_view words row.absent;
  help = words row.help;
}

-- a row that is lent, and several
abbrev pub key_view : Row (Bor (List ℕ)) → Key
key_view row = row_view (λ t. t.now) row

abbrev pub keys_view : List (Row (Bor (List ℕ))) → List Key
keys_view rows = map key_view rows

abbrev pub name_of : Key → List ℕ
name_of key = key.name

-- ---- what a row says

abbrev pub required : Absent (List ℕ) → Bool
required absent.Refused = true
required other = false

abbrev pub is_required : Key → Bool
is_required key = required key.absent

abbrev pub default_in : Absent (List ℕ) → Option ℕ
default_in (absent.Number n) = Some n
default_in other = None

-- the number that a file without the key means
abbrev pub default_of : Key → Option ℕ
default_of key = default_in key.absent

abbrev pub default_boolean_in : Absent (List ℕ) → Option Bool
default_boolean_in (absent.Boolean b) = Some b
default_boolean_in other = None

-- whether a file without the key means true or false, if it means one of them
abbrev pub default_boolean_of : Key → Option Bool
default_boolean_of key = default_boolean_in key.absent

abbrev pub default_text_in : Absent (List ℕ) → Option (List ℕ)
default_text_in (absent.Text t) = Some t
default_text_in other = None

-- the text that a file without the key means
abbrev pub default_text_of : Key → Option (List ℕ)
default_text_of key = default_text_in key.absent

abbrev pub least_in : KeyValue → ℕ
least_in (kind.Number least most) = least
least_in other = 0

abbrev pub most_in : KeyValue → ℕ
most_in (kind.Number least most) = most
most_in other = 0

-- the least and the greatest number that a key takes; one that takes none has 0 for both
abbrev pub least_of : Key → ℕ
least_of key = least_in key.value

abbrev pub most_of : Key → ℕ
most_of key = most_in key.value

-- the number is one that the key takes
abbrev pub IsInRange : Key → ℕ → Type 0
IsInRange key n = (least_of key ≤ n) × (n ≤ most_of key)

-- its least number is not above its greatest, and its default is between them
abbrev pub is_sound : Key → Bool
is_sound key = nat_le (least_of key) (most_of key)
    && option_map_or (λ n. nat_le (least_of key) n && nat_le n (most_of key)) (default_of key) true

-- ---- a value at a key

-- the text of a value that is the address of a socket, with its port
abbrev pub as_address : Data → Option (List ℕ)
as_address value = option_and_then (λ text. if is_socket text && has_port text then Some text else None) (as_str value)

abbrev pub is_host_text : Data → Bool
is_host_text value = option_map_or is_host (as_str value) false

abbrev pub is_list_of_hosts : Data → Bool
is_list_of_hosts value = is_some (as_array value) && list_all is_host_text (values_in value)

abbrev pub is_list_of_texts : Data → Bool
is_list_of_texts value = is_some (as_array value) && list_all (λ d. is_some (as_str d)) (values_in value)

abbrev pub takes : KeyValue → Data → Bool
takes (kind.Number least most) value = is_some (number_between least most value)
takes kind.Boolean value = is_some (as_bool value)
takes kind.Text value = is_some (as_str value)
takes (kind.Bytes least most) value = is_some (text_between least most value)
takes kind.Texts value = is_list_of_texts value
takes kind.Table value = true
takes kind.Address value = is_some (as_address value)
takes kind.Hosts value = is_list_of_hosts value

-- ---- the keys of a table

abbrev pub is_known : List Key → List ℕ → Bool
is_known keys name = list_any (λ key. bytes_eq name key.name) keys

abbrev pub is_missing : Members → Key → Bool
is_missing table key = is_required key && not (has_key key.name table)

-- the first key that a table lacks and has to have
abbrev pub first_missing : List Key → Members → Option (List ℕ)
first_missing keys table = option_map name_of (find (is_missing table) keys)

abbrev pub is_bad : Members → Key → Bool
is_bad table key = not (option_map_or (takes key.value) (get_member key.name table) (not (is_required key)))

-- the first key whose value is not what it has to be
abbrev pub first_bad : List Key → Members → Option (List ℕ)
first_bad keys table = option_map name_of (find (is_bad table) keys)

-- ---- numbers and texts

abbrev pub number_as : KeyValue → Data → Option ℕ
number_as (kind.Number least most) value = number_between least most value
number_as other value = None

-- the number at a key, or its default
abbrev pub number_of : Key → Members → Option ℕ
number_of key table = option_map_or (number_as key.value) (get_member key.name table) (default_of key)

-- the same of a table whose values are good
abbrev pub number_in : Members → Key → ℕ
number_in table key = unwrap_or (number_of key table) (unwrap_or (default_of key) (least_of key))

-- for each key its number, and 0 if its value is none
abbrev pub numbers_in : List Key → Members → List ℕ
numbers_in keys table = map (number_in table) keys

-- the place of a name among keys
abbrev pub place_in : List Key → List ℕ → ℕ
place_in [] name = 0
place_in (key ∷ keys) name = if bytes_eq key.name name then 0 else suc (place_in keys name)

-- the number of the key of this name, among those of all keys
abbrev pub number_named : List Key → List ℕ → List ℕ → ℕ
number_named keys name numbers = slice_index numbers (place_in keys name)

abbrev pub least_at : List Key → ℕ → ℕ
least_at keys place = option_map_or least_of (slice_get keys place) 0

abbrev pub most_at : List Key → ℕ → ℕ
most_at keys place = option_map_or most_of (slice_get keys place) 0

-- each number is in the range of the key in its place
abbrev pub AreInRange : List Key → List ℕ → Type 0
AreInRange keys numbers = (k : ℕ) → k < length keys → (least_at keys k ≤ slice_index numbers k) × (slice_index numbers k ≤ most_at keys k)

abbrev pub boolean_as : KeyValue → Data → Option Bool
boolean_as kind.Boolean value = as_bool value
boolean_as other value = None

-- whether the value at a key is true, or its default
abbrev pub boolean_of : Key → Members → Option Bool
boolean_of key table = option_map_or (boolean_as key.value) (get_member key.name table) (default_boolean_of key)

abbrev pub text_as : KeyValue → Data → Option (List ℕ)
text_as (kind.Bytes least most) value = text_between least most value
text_as other value = None

-- the text of bounded length at a key, or its default
abbrev pub text_of : Key → Members → Option (List ℕ)
text_of key table = option_map_or (text_as key.value) (get_member key.name table) (default_text_of key)

-- the same of a table whose values are good
abbrev pub text_in : Members → Key → List ℕ
text_in table key = unwrap_or (text_of key table) (unwrap_or (default_text_of key) [])
