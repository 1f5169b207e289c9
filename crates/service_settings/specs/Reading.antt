-- Services, version 1: the checks, each over the whole file before the next, and the services that a file which passes them means.
use Rattle.std.specs.Prelude.{ℕ, List, [], ◌∷◌, Bool, true, false, not, is_some, map, min, Option, Some}
use Rattle.std.specs.Prelude.{option_and_then, option_map, unwrap_or, codes, Result, Ok, Err}
use Rattle.std.specs.List.{filter_map, find}
use Rattle.std.specs.Option.{option_map_or, option_or}
use Rattle.toml.specs.Data.{Members, as_str, as_table, get_member}
use Rattle.file_keys.specs.Keys.{Key, as_address, boolean_of, first_bad, first_missing, is_bad, is_known, name_of, number_of, numbers_in}
use Rattle.file_keys.specs.Tree.{Entry, entries_at, entries_in, entries_of, has_key, values_in}
use Rattle.pool_settings.specs.Names.{place_of}
use Rattle.pool_settings.specs.Place.{first_in, first_of, unless}
use Rattle.pool_settings.specs.Reading.{tree_of}
use Rattle.pool_settings.specs.Settings.{Settings}
use Rattle.pool_settings.specs.declared.place.Place.TheVariants as at
use Rattle.pool_settings.specs.declared.place.Section.{Section}
use Rattle.pool_settings.specs.declared.place.Section.TheVariants as section
use Rattle.service_settings.specs.Keys.{backlog_row, function_keys, functions_row, hosts_row, listen_row, machine_keys, machines_row}
use Rattle.service_settings.specs.Keys.{page_keys, page_row, resend_row, retries_row, timeout_ms_row, top_keys, url_row, version_row}
use Rattle.service_settings.specs.Services.{Page, Services, Url}
use Rattle.service_settings.specs.Url.{is_https, url_of}
use Rattle.service_settings.specs.declared.error.ServicesError.{ServicesError}
use Rattle.service_settings.specs.declared.error.ServicesError.TheVariants as fault
use Rattle.service_settings.specs.declared.place.ServicesPlace.{ServicesPlace}
use Rattle.service_settings.specs.declared.place.ServicesPlace.TheVariants as place
use Rattle.service_settings.specs.declared.urls.UrlRule.{UrlRule}
use Rattle.service_settings.specs.declared.urls.UrlRule.TheVariants as rule

-- ---- keys

abbrev pub url_key : List ℕ
url_key = name_of url_row

abbrev pub timeout_key : List ℕ
timeout_key = name_of timeout_ms_row

abbrev pub page_key : List ℕ
page_key = name_of page_row

abbrev pub hosts_key : List ℕ
hosts_key = name_of hosts_row

-- the key of a section in the top table
abbrev pub section_key : Section → List ℕ
section_key section.Functions = name_of functions_row
section_key section.Machines = name_of machines_row

-- the keys of a function, and of a machine
abbrev pub entry_keys : Section → List Key
entry_keys section.Functions = function_keys
entry_keys section.Machines = machine_keys

-- ---- what a table has at a key

abbrev pub table_at : List ℕ → Members → Option Members
table_at key table = option_and_then as_table (get_member key table)

abbrev pub text_at : List ℕ → Members → Option (List ℕ)
text_at key table = option_and_then as_str (get_member key table)

-- the table of a function or a machine
abbrev pub entry_table : Section → Members → List ℕ → Option Members
entry_table section tree name = option_and_then (table_at name) (table_at (section_key section) tree)

-- the table of a function has the key; a function that is not there has none
abbrev pub function_has_key : List ℕ → List ℕ → Members → Bool
function_has_key name key tree = option_map_or (has_key key) (entry_table section.Functions tree name) false

-- the address of a page, if it is one
abbrev pub listen_in : Members → Option (List ℕ)
listen_in page = option_and_then as_address (get_member (name_of listen_row) page)

-- ---- where a fault is, with its key or its name

abbrev pub Where : Type 0
Where = ServicesPlace (List ℕ)

abbrev pub at_key : List ℕ → Where
at_key key = place.At (at.Key key)

abbrev pub at_entry : Section → List ℕ → Where
at_entry section name = place.At (at.Entry section name)

abbrev pub at_entry_key : Section → List ℕ → List ℕ → Where
at_entry_key section name key = place.At (at.EntryKey section name key)

-- ---- 2 Version: the version is there, and is the number 1

abbrev pub bad_version : Members → Option Where
bad_version tree = unless (not (is_bad tree version_row)) (at_key (name_of version_row))

-- ---- 3 UnknownKey: each key is one of its table

abbrev pub unknown_top_key : Members → Option Where
unknown_top_key tree = first_in (λ e. unless (is_known top_keys e.0) (at_key e.0)) (entries_of tree)

-- the first unknown key of the table of a function or a machine
abbrev pub unknown_key_of : Section → Entry → Option Where
unknown_key_of section entry =
    first_in (λ e. unless (is_known (entry_keys section) e.0) (at_entry_key section entry.0 e.0)) (entries_in entry.1)

abbrev pub unknown_key_in : Section → Members → Option Where
unknown_key_in section tree = first_in (unknown_key_of section) (entries_at (section_key section) tree)

abbrev pub unknown_page_key : Members → Option Where
unknown_page_key tree = first_in (λ e. unless (is_known page_keys e.0) (place.PageKey e.0)) (entries_at page_key tree)

abbrev pub unknown_key : Members → Option Where
unknown_key tree = first_of (
    unknown_top_key tree
    ∷ unknown_key_in section.Functions tree
    ∷ unknown_key_in section.Machines tree
    ∷ unknown_page_key tree ∷ [])

-- ---- 4 MissingKey: a page has an address

abbrev pub missing_key : Members → Option Where
missing_key tree = option_map place.PageKey (option_and_then (first_missing page_keys) (table_at page_key tree))

-- ---- 5 BadValue: each value has its type and is in its range

abbrev pub bad_top_value : Members → Option Where
bad_top_value tree = option_map at_key (first_bad top_keys tree)

-- the table of a function or a machine is one, and its values are good
abbrev pub bad_entry : Section → Entry → Option Where
bad_entry section entry = option_map_or
    (λ table. option_map (at_entry_key section entry.0) (first_bad (entry_keys section) table))
    (as_table entry.1) (Some (at_entry section entry.0))

-- a section that is there is a table of good ones
abbrev pub bad_section : Section → Members → Option Where
bad_section section tree = option_and_then
    (λ value. option_map_or (λ table. first_in (bad_entry section) (entries_of table)) (as_table value)
    (Some (at_key (section_key section))))
    (get_member (section_key section) tree)

abbrev pub bad_page_value : Members → Option Where
bad_page_value page = option_map place.PageKey (first_bad page_keys page)

abbrev pub bad_page : Members → Option Where
bad_page tree = option_and_then
    (λ value. option_map_or bad_page_value (as_table value) (Some (at_key page_key))) (get_member page_key tree)

abbrev pub bad_value : Members → Option Where
bad_value tree = first_of (
    bad_top_value tree
    ∷ bad_section section.Functions tree
    ∷ bad_section section.Machines tree
    ∷ bad_page tree ∷ [])

-- ---- 6 UnknownMachine, 7 UnknownFunction: the settings have each machine and each function of the file

abbrev pub has_name : Section → Settings → List ℕ → Bool
has_name section.Functions settings name = is_some (place_of settings.functions name)
has_name section.Machines settings name = is_some (place_of settings.machines name)

abbrev pub unknown_name : Section → Settings → Members → Option Where
unknown_name section settings tree =
    first_in (λ e. unless (has_name section settings e.0) (at_entry section e.0)) (entries_at (section_key section) tree)

-- ---- 8 Https, 9 BadUrl: each URL of the file is one of plain HTTP

abbrev pub is_kept : UrlRule → List ℕ → Bool
is_kept rule.NoHttps url = not (is_https url)
is_kept rule.Form url = is_some (url_of url)

-- the URL of a table keeps the rule, if it is there
abbrev pub keeps : UrlRule → Members → Bool
keeps r table = option_map_or (is_kept r) (text_at url_key table) true

abbrev pub wrong_url_of : UrlRule → Entry → Option Where
wrong_url_of r entry =
    option_and_then (λ table. unless (keeps r table) (at_entry_key section.Machines entry.0 url_key)) (as_table entry.1)

abbrev pub wrong_url : UrlRule → Members → Option Where
wrong_url r tree = first_of (
    unless (keeps r tree) (at_key url_key)
    ∷ first_in (wrong_url_of r) (entries_at (name_of machines_row) tree) ∷ [])

-- ---- 10 DotFunction: the settings have no function named `.` or `..`

abbrev pub dot_function : Settings → Option Where
dot_function settings = first_of (
    unless (not (has_name section.Functions settings (codes "."))) (at_entry section.Functions (codes "."))
    ∷ unless (not (has_name section.Functions settings (codes ".."))) (at_entry section.Functions (codes "..")) ∷ [])

-- ---- 11 NoUrl: each machine of the settings has a URL

abbrev pub own_url : Members → List ℕ → Option (List ℕ)
own_url tree name = option_and_then (text_at url_key) (entry_table section.Machines tree name)

-- a machine's own URL, or that at the top
abbrev pub url_text : Members → List ℕ → Option (List ℕ)
url_text tree name = option_or (own_url tree name) (text_at url_key tree)

-- where the jobs of a machine go
abbrev pub url_for : Members → List ℕ → Option Url
url_for tree name = option_and_then url_of (url_text tree name)

abbrev pub has_no_url : Members → List ℕ → Bool
has_no_url tree name = not (is_some (url_for tree name))

abbrev pub no_url : Settings → Members → Option Where
no_url settings tree = option_map (at_entry section.Machines) (find (has_no_url tree) settings.machines)

-- ---- the services that the tree means

abbrev pub own_timeout : Members → List ℕ → Option ℕ
own_timeout tree name = option_and_then (number_of timeout_ms_row) (entry_table section.Functions tree name)

-- how long a job of a function may take: no longer than the settings let a worker take for it
abbrev pub timeout_for : Settings → Members → List ℕ → ℕ
timeout_for settings tree name =
    option_map_or (λ own. min own settings.job_timeout_ms) (own_timeout tree name) settings.job_timeout_ms

-- how many times a job of a function that services leave unserved comes again before it fails, if that is bounded
abbrev pub retries_for : Members → List ℕ → Option ℕ
retries_for tree name = option_and_then (number_of retries_row) (entry_table section.Functions tree name)

abbrev pub own_resend : Members → List ℕ → Option Bool
own_resend tree name = option_and_then (boolean_of resend_row) (entry_table section.Functions tree name)

-- whether a job of a function that a kept connection cut off is sent once more: it is, if the function says nothing of it
abbrev pub resend_for : Members → List ℕ → Bool
resend_for tree name = unwrap_or (own_resend tree name) true

abbrev pub hosts_in : Members → List (List ℕ)
hosts_in page = filter_map as_str (option_map_or values_in (get_member hosts_key page) [])

-- the backlog that is wanted: from 1, and none without the key
abbrev pub backlog_in : Members → Option ℕ
backlog_in page = number_of backlog_row page

abbrev pub page_of : Members → Option Page
page_of table = option_map (λ address. record { listen = address; hosts = hosts_in table; backlog = backlog_in table }) (listen_in table)

abbrev pub page_in : Members → Option Page
page_in tree = option_and_then page_of (table_at page_key tree)

abbrev pub services_of : Settings → Members → Services
services_of settings tree = record {
  numbers = numbers_in top_keys tree;
  urls = filter_map (url_for tree) settings.machines;
  timeouts = map (timeout_for settings tree) settings.functions;
  retries = map (retries_for tree) settings.functions;
  resends = map (resend_for tree) settings.functions;
  page = page_in tree;
}

-- ---- the first check that fails, with its place, or the services

abbrev pub Fault : Type 0
Fault = ServicesError × Where

abbrev pub fault_at : ServicesError → Option Where → Option Fault
fault_at error found = option_map (λ at. (error, at)) found

-- the first of the checks that need no settings
abbrev pub first_fault_alone : Members → Option Fault
first_fault_alone tree = first_of (
    fault_at fault.Version (bad_version tree)
    ∷ fault_at fault.UnknownKey (unknown_key tree)
    ∷ fault_at fault.MissingKey (missing_key tree)
    ∷ fault_at fault.BadValue (bad_value tree) ∷ [])

abbrev pub first_fault : Settings → Members → Option Fault
first_fault settings tree = first_of (
    first_fault_alone tree
    ∷ fault_at fault.UnknownMachine (unknown_name section.Machines settings tree)
    ∷ fault_at fault.UnknownFunction (unknown_name section.Functions settings tree)
    ∷ fault_at fault.Https (wrong_url rule.NoHttps tree)
    ∷ fault_at fault.BadUrl (wrong_url rule.Form tree)
    ∷ fault_at fault.DotFunction (dot_function settings)
    ∷ fault_at fault.NoUrl (no_url settings tree) ∷ [])

abbrev pub read_tree : Settings → Members → Result Services ServicesError
read_tree settings tree = option_map_or (λ f. Err f.0) (first_fault settings tree) (Ok (services_of settings tree))

-- What a file means that is read for its page: the page, if the checks that need no settings pass and there is one.
abbrev pub page_reading : Members → Result Page Fault
page_reading tree = option_map_or Err (first_fault_alone tree)
    (option_map_or Ok (page_in tree) (Err (fault.MissingKey, at_key page_key)))

-- what a services file means beside the settings, or its refusal
abbrev pub reading : Settings → List ℕ → Result Services ServicesError
reading settings text = option_map_or (read_tree settings) (tree_of text) (Err fault.Text)
