-- The first fault of a settings file, and where it is.
use Rattle.std.specs.Prelude.{◌≡◌, ◌≢◌, ℕ, ◌+◌, ◌≤◌, List, length, take, filter, Bool, false, ◌||◌, nat_le, nat_lt}
use Rattle.std.specs.Prelude.{Option, Some, None, Result, Ok, Err}
use Rattle.std.specs.Option.{option_map_or}
use Rattle.std.specs.Str.{is_utf8}
use Rattle.std.specs.Str.Lossy.{utf8_valid_len}
use Rattle.toml.specs.Data.{Members}
use Rattle.toml.specs.Errors.{IsBlank}
use Rattle.pool_settings.specs.Entries.{table_entries}
use Rattle.pool_settings.specs.Place.{place_view}
use Rattle.pool_settings.specs.Reading as reading
use Rattle.file_keys.specs.Tree.{entries_at}
use Rattle.pool_settings.specs.declared.checks.Tables.{Tables}
use Rattle.pool_settings.specs.declared.error.SettingsError.{SettingsError}
use Rattle.pool_settings.specs.declared.error.SettingsError.TheVariants as error
use Rattle.pool_settings.specs.declared.fault.SettingsFault.{SettingsFault}
use Rattle.pool_settings.specs.declared.fault.SettingsFault.TheVariants as fault
use Rattle.pool_settings.specs.declared.place.Place.TheVariants as place
use Rattle.text_pieces.specs.Cuts.{cut_last}
use Rattle.text_pieces.specs.Lines.{is_line_feed}

-- the refusal without its place
abbrev pub error_of : SettingsFault → SettingsError
error_of (fault.At e at) = e
error_of fault.Memory = error.Memory

-- a fault of the file, apart from where its texts lie
abbrev pub fault_of : SettingsFault → Option reading.Fault
fault_of (fault.At e at) = Some (e, place_view (λ t. t.now) at)
fault_of fault.Memory = None

-- the same of a call that may have met one
abbrev pub fault_in : {A : Type 0} → Result A SettingsFault → Option reading.Fault
fault_in (Ok value) = None
fault_in (Err fault) = fault_of fault

-- the tables of functions and machines that a tree has
abbrev pub HasTables : Members → Tables → Type 0
HasTables tree tables =
    (table_entries tables.functions.now ≡ entries_at reading.functions_key tree)
    × (table_entries tables.machines.now ≡ entries_at reading.machines_key tree)

-- the first byte of a character of UTF-8
abbrev pub begins_character : ℕ → Bool
begins_character byte = nat_lt byte 128 || nat_le 192 byte

-- what comes after the last line feed
abbrev pub last_line : List ℕ → List ℕ
last_line text = option_map_or (λ cut. cut.1) (cut_last 10 text) text

-- the line and the column after these bytes, both from 1
abbrev pub line_after : List ℕ → ℕ
line_after before = length (filter is_line_feed before) + 1

abbrev pub column_after : List ℕ → ℕ
column_after before = length (filter begins_character (last_line before)) + 1

-- a text that is at fault after these bytes
abbrev pub text_fault : List ℕ → reading.Fault
text_fault before = (error.Text, place.Text (line_after before) (column_after before))

-- The fault of a text is the first of its tree; and of a text without a tree a place in it, which is after the last character if
-- the text is not UTF-8.
pub record IsFoundIn (text : List ℕ) (found : reading.Fault) : Type 0 where
  pub in_tree : (tree : Members) → reading.tree_of text ≡ Some tree → reading.first_fault tree ≡ Some found
  pub in_text : reading.tree_of text ≡ None → (n : ℕ) × (n ≤ length text) × (found ≡ text_fault (take n text))
  pub not_utf8 : is_utf8 text ≡ false → found ≡ text_fault (take (utf8_valid_len text) text)

-- A text is refused that has no tree, by a place in it. Out of memory is no fault of the text, and does not come with a blank one.
abbrev pub RefusesText : List ℕ → SettingsFault → Type 0
RefusesText text (fault.At e at) = (reading.tree_of text ≡ None) × IsFoundIn text (e, place_view (λ t. t.now) at)
RefusesText text fault.Memory = ¬ IsBlank text

-- A tree is refused by its first fault. Out of memory comes only with a tree that has none.
abbrev pub RefusesTree : Members → SettingsFault → Type 0
RefusesTree tree (fault.At e at) =
    (e ≢ error.Memory) × (reading.first_fault tree ≡ Some (e, place_view (λ t. t.now) at))
RefusesTree tree fault.Memory = reading.first_fault tree ≡ None
