-- Versions 1 and 2 of the settings: the checks, each over the whole file before the next, and the settings
-- that a file which passes them means.
use Rattle.std.specs.Prelude.{ℕ, List, [], ◌∷◌, Bool, true, false, not, ◌==◌, nat_le, is_some, length, map, sum, Option, Some}
use Rattle.std.specs.Prelude.{None, unwrap_or, option_and_then, option_map, if◌then◌else◌, Result, Ok, Err}
use Rattle.std.specs.List.{filter_map, find}
use Rattle.std.specs.Option.{option_map_or}
use Rattle.std.specs.Str.{is_utf8}
use Rattle.toml.specs.Data.{Data, Members, as_str, as_table, get_member}
use Rattle.toml.specs.Parse.{parse_document}
use Rattle.file_keys.specs.Keys.{Key, first_bad, first_missing, is_known, name_of, number_in, number_of, row_view, text_in}
use Rattle.file_keys.specs.Tree.{Entry, entries_at, entries_in, entries_of, has_key, number_between, values_in}
use Rattle.pool_settings.specs.Names.{is_machine_name, is_name}
use Rattle.pool_settings.specs.Place.{first_in, first_of, unless}
use Rattle.pool_settings.specs.Settings.{Settings}
use Rattle.pool_settings.specs.Rows.{row_of}
use Rattle.pool_settings.specs.declared.error.SettingsError.{SettingsError}
use Rattle.pool_settings.specs.declared.error.SettingsError.TheVariants as fault
use Rattle.pool_settings.specs.declared.keys.TheConstants.{FIRST_FUNCTION_KEYS, FUNCTIONS, FUNCTION_KEYS, HISTORY, JOB_TIMEOUT_MS}
use Rattle.pool_settings.specs.declared.keys.TheConstants.{LEAST, LULL_MS, MACHINES, MACHINE_KEYS, MAX_RUNS, MOST, ROUND_MS, SERVER}
use Rattle.pool_settings.specs.declared.keys.TheConstants.{TOP_KEYS, VERSION, WORKERS}
use Rattle.pool_settings.specs.declared.place.Counted.TheVariants as counted
use Rattle.pool_settings.specs.declared.place.Place.{Place}
use Rattle.pool_settings.specs.declared.place.Place.TheVariants as place
use Rattle.pool_settings.specs.declared.place.Section.{Section}
use Rattle.pool_settings.specs.declared.place.Section.TheVariants as section

-- ---- the rows

abbrev pub version_row : Key
version_row = row_view (λ t. t.now) VERSION

abbrev pub server_row : Key
server_row = row_view (λ t. t.now) SERVER

abbrev pub job_timeout_row : Key
job_timeout_row = row_view (λ t. t.now) JOB_TIMEOUT_MS

abbrev pub max_runs_row : Key
max_runs_row = row_view (λ t. t.now) MAX_RUNS

abbrev pub round_row : Key
round_row = row_view (λ t. t.now) ROUND_MS

abbrev pub lull_row : Key
lull_row = row_view (λ t. t.now) LULL_MS

abbrev pub history_row : Key
history_row = row_view (λ t. t.now) HISTORY

abbrev pub top_keys : List Key
top_keys = map (row_view (λ t. t.now)) TOP_KEYS

abbrev pub function_keys : List Key
function_keys = map (row_view (λ t. t.now)) FUNCTION_KEYS

-- those that version 1 has
abbrev pub first_function_keys : List Key
first_function_keys = map (row_view (λ t. t.now)) FIRST_FUNCTION_KEYS

abbrev pub machine_keys : List Key
machine_keys = map (row_view (λ t. t.now)) MACHINE_KEYS

-- ---- names of keys

abbrev pub version_key : List ℕ
version_key = name_of version_row

abbrev pub server_key : List ℕ
server_key = name_of server_row

abbrev pub job_timeout_key : List ℕ
job_timeout_key = name_of job_timeout_row

abbrev pub max_runs_key : List ℕ
max_runs_key = name_of max_runs_row

abbrev pub round_key : List ℕ
round_key = name_of round_row

abbrev pub lull_key : List ℕ
lull_key = name_of lull_row

abbrev pub history_key : List ℕ
history_key = name_of history_row

abbrev pub functions_key : List ℕ
functions_key = name_of (row_view (λ t. t.now) FUNCTIONS)

abbrev pub machines_key : List ℕ
machines_key = name_of (row_view (λ t. t.now) MACHINES)

abbrev pub workers_key : List ℕ
workers_key = name_of (row_view (λ t. t.now) WORKERS)

abbrev pub least_key : List ℕ
least_key = name_of (row_view (λ t. t.now) LEAST)

abbrev pub most_key : List ℕ
most_key = name_of (row_view (λ t. t.now) MOST)

-- ---- where a fault is, with its key or its name

abbrev pub Where : Type 0
Where = Place (List ℕ)

-- ---- 2 Version: the version is there, and is the number 1 or 2

abbrev pub version_in : Members → Option ℕ
version_in tree = number_of version_row tree

abbrev pub bad_version : Members → Option Where
bad_version tree = unless (is_some (version_in tree)) (place.Key version_key)

-- ---- 3 UnknownKey: each key is one of its table

abbrev pub is_version_2 : Members → Bool
is_version_2 tree = option_map_or (λ version. version == 2) (version_in tree) false

-- the keys that the table of a function or a machine may have: a greatest number is a key of version 2
abbrev pub entry_keys : Section → Members → List Key
entry_keys section.Functions tree = if is_version_2 tree then function_keys else first_function_keys
entry_keys section.Machines tree = machine_keys

abbrev pub unknown_top_key : Members → Option Where
unknown_top_key tree = first_in (λ e. unless (is_known top_keys e.0) (place.Key e.0)) (entries_of tree)

-- the first unknown key of the table of a function or a machine
abbrev pub unknown_key_of : Section → Members → Entry → Option Where
unknown_key_of section tree entry =
    first_in (λ e. unless (is_known (entry_keys section tree) e.0) (place.EntryKey section entry.0 e.0)) (entries_in entry.1)

abbrev pub unknown_key : Members → Option Where
unknown_key tree = first_of (
    unknown_top_key tree
    ∷ first_in (unknown_key_of section.Functions tree) (entries_at functions_key tree)
    ∷ first_in (unknown_key_of section.Machines tree) (entries_at machines_key tree) ∷ [])

-- ---- 4 MissingKey: each key without a default is there

-- the table of a function has the key; a function that is not there has none
abbrev pub function_has_key : List ℕ → List ℕ → Members → Bool
function_has_key name key tree = option_map_or (has_key key)
    (option_and_then as_table (option_and_then (get_member name) (option_and_then as_table (get_member functions_key tree)))) false

-- what is no table lacks no key
abbrev pub missing_key_of : Entry → Option Where
missing_key_of entry = option_and_then
    (λ table. option_map (place.EntryKey section.Machines entry.0) (first_missing machine_keys table)) (as_table entry.1)

abbrev pub missing_top_key : Members → Option Where
missing_top_key tree = option_map place.Key (first_missing top_keys tree)

abbrev pub missing_key : Members → Option Where
missing_key tree = first_of (missing_top_key tree ∷ first_in missing_key_of (entries_at machines_key tree) ∷ [])

-- ---- 5 BadName

abbrev pub bad_function_name : List Entry → Option Where
bad_function_name entries = first_in (λ e. unless (is_name e.0) (place.Entry section.Functions e.0)) entries

abbrev pub bad_machine_name : List Entry → Option Where
bad_machine_name entries = first_in (λ e. unless (is_machine_name e.0) (place.Entry section.Machines e.0)) entries

abbrev pub bad_name : Members → Option Where
bad_name tree = first_of (
    bad_function_name (entries_at functions_key tree)
    ∷ bad_machine_name (entries_at machines_key tree) ∷ [])

-- ---- 6 BadValue: each value has its type and is in its range

abbrev pub bad_top_value : Members → Option Where
bad_top_value tree = option_map place.Key (first_bad top_keys tree)

abbrev pub bad_function : Entry → Option Where
bad_function entry = option_map_or
    (λ table. option_map (place.EntryKey section.Functions entry.0) (first_bad function_keys table))
    (as_table entry.1) (Some (place.Entry section.Functions entry.0))

abbrev pub bad_machine : Entry → Option Where
bad_machine entry = option_map_or
    (λ table. option_map (place.EntryKey section.Machines entry.0) (first_bad machine_keys table))
    (as_table entry.1) (Some (place.Entry section.Machines entry.0))

-- the table at a key is one, and a check finds no fault in its entries
abbrev pub bad_table : List ℕ → (Entry → Option Where) → Members → Option Where
bad_table key check tree =
    option_map_or (λ table. first_in check (entries_of table)) (option_and_then as_table (get_member key tree)) (Some (place.Key key))

abbrev pub bad_value : Members → Option Where
bad_value tree = first_of (
    bad_top_value tree
    ∷ bad_table functions_key bad_function tree
    ∷ bad_table machines_key bad_machine tree ∷ [])

-- ---- the settings that the tree means

abbrev pub worker_count : Data → Option ℕ
worker_count = number_between 0 4096

-- the number of workers at a key, and the default if there is none
abbrev pub count_at : List ℕ → ℕ → Data → ℕ
count_at key default value =
    unwrap_or (option_and_then worker_count (option_and_then (get_member key) (as_table value))) default

-- the texts that a machine lists
abbrev pub listed : Data → List (List ℕ)
listed value =
    filter_map as_str (option_map_or values_in (option_and_then (get_member functions_key) (as_table value)) [])

abbrev pub names_of : List Entry → List (List ℕ)
names_of entries = map (λ e. e.0) entries

abbrev pub column_of : List ℕ → ℕ → List Entry → List ℕ
column_of key default entries = map (λ e. count_at key default e.1) entries

abbrev pub rows_of : List (List ℕ) → List Entry → List (List ℕ)
rows_of functions entries = map (λ e. row_of functions (listed e.1)) entries

-- for each machine the number of its workers
abbrev pub workers_in : Members → List ℕ
workers_in tree = column_of workers_key 0 (entries_at machines_key tree)

abbrev pub settings_of : Members → Settings
settings_of tree = record {
  server = text_in tree server_row;
  job_timeout_ms = number_in tree job_timeout_row;
  max_runs = number_in tree max_runs_row;
  round_ms = number_in tree round_row;
  lull_ms = number_in tree lull_row;
  history = number_in tree history_row;
  functions = names_of (entries_at functions_key tree);
  least = column_of least_key 0 (entries_at functions_key tree);
  most = column_of most_key (sum (workers_in tree)) (entries_at functions_key tree);
  machines = names_of (entries_at machines_key tree);
  workers = workers_in tree;
  may = rows_of (names_of (entries_at functions_key tree)) (entries_at machines_key tree);
}

-- ---- 7 UnknownFunction: each text that a machine lists is a function

abbrev pub is_function_of : Members → List ℕ → Bool
is_function_of tree name = is_some (option_and_then (get_member name) (option_and_then as_table (get_member functions_key tree)))

-- the first name that a machine lists and that is no function
abbrev pub unknown_function_of : Members → Entry → Option Where
unknown_function_of tree entry =
    option_map (λ name. place.Listed entry.0 name) (find (λ name. not (is_function_of tree name)) (listed entry.1))

abbrev pub unknown_function : Members → Option Where
unknown_function tree = first_in (unknown_function_of tree) (entries_at machines_key tree)

-- ---- 8 TooMany: at most 256 machines, 1,024 functions and 4,096 workers in all

abbrev pub too_many : Members → Option Where
too_many tree = first_of (
    unless (nat_le (length (entries_at machines_key tree)) 256) (place.Count counted.Machines)
    ∷ unless (nat_le (length (entries_at functions_key tree)) 1024) (place.Count counted.Functions)
    ∷ unless (nat_le (sum (workers_in tree)) 4096) (place.Count counted.Workers) ∷ [])

-- ---- the first check that fails, with its place, or the settings

abbrev pub Fault : Type 0
Fault = SettingsError × Where

abbrev pub fault_at : SettingsError → Option Where → Option Fault
fault_at error found = option_map (λ at. (error, at)) found

abbrev pub first_fault : Members → Option Fault
first_fault tree = first_of (
    fault_at fault.Version (bad_version tree)
    ∷ fault_at fault.UnknownKey (unknown_key tree)
    ∷ fault_at fault.MissingKey (missing_key tree)
    ∷ fault_at fault.BadName (bad_name tree)
    ∷ fault_at fault.BadValue (bad_value tree)
    ∷ fault_at fault.UnknownFunction (unknown_function tree)
    ∷ fault_at fault.TooMany (too_many tree) ∷ [])

abbrev pub read_tree : Members → Result Settings SettingsError
read_tree tree = option_map_or (λ f. Err f.0) (first_fault tree) (Ok (settings_of tree))

-- the tree of a text of UTF-8 bytes
abbrev pub tree_of : List ℕ → Option Members
tree_of bytes = if is_utf8 bytes then parse_document bytes else None

-- what a settings file means, or its refusal
abbrev pub reading : List ℕ → Result Settings SettingsError
reading settings_text = option_map_or read_tree (tree_of settings_text) (Err fault.Text)
