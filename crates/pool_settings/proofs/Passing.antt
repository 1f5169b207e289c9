-- A tree that passes the checks, and what its settings keep.
use Rattle.std.proofs.Common.{◌≡◌, ℕ, ◌<◌, ◌≤◌, List, [], ◌∷◌, Bool, true, false, Option, Some, None, is_some, leb, length, get_or, All, refl, sym, subst, ◌∙◌, arith}
use Rattle.std.specs.Prelude.{codes, sum, IsTrue, option_and_then}
use Rattle.std.specs.List.{list_all, range_with_len}
use Rattle.std.specs.Option.{option_map_or, option_or}
use Rattle.std.specs.List.Sorted.{IsStrictlyIncreasing}
use Rattle.std.proofs.lemmas.Bool.{false≢true, leb-true}
use Rattle.std.proofs.lemmas.List.{length-map}
use Rattle.std.proofs.lemmas.List.Elements.{All-map, All-filter}
use Rattle.std.proofs.lemmas.List.Folds.{list_all_at}
use Rattle.std.proofs.lemmas.List.Kept.{IsStrictlyIncreasing-filter}
use Rattle.plan_model.proofs.Ranges.{range-rises, range-below}
use Rattle.toml.specs.Data.{Members, as_table, get_member}
use Rattle.pool_settings.specs.declared.error.SettingsError.{SettingsError}
use Rattle.pool_settings.specs.Names.{IsInByteOrder, is_machine_name, is_name}
use Rattle.pool_settings.specs.declared.error.SettingsError.TheVariants as fault
use Rattle.pool_settings.specs.declared.place.Counted.TheVariants as counted
use Rattle.pool_settings.specs.declared.place.Place.TheVariants as place
use Rattle.pool_settings.specs.Place.{first_in, unless}
use Rattle.pool_settings.specs.Settings.{AreSettings, Settings}
use Rattle.pool_settings.specs.Reading as spec
use Rattle.file_keys.specs.Tree.{Entry, entries_at, entries_of}
use Rattle.file_keys.specs.Keys.{number_in, text_in}
use Rattle.file_keys.proofs.Ranges.{IsFrom, number_in_range, text_in_range}
use Rattle.pool_settings.proofs.Counts.{count_few}

-- each check is passed
pub record Passes (tree : Members) : Type 0 where
  pub good_names : spec.bad_name tree ≡ None
  pub good_values : spec.bad_value tree ≡ None
  pub room : spec.too_many tree ≡ None

-- where the first of some faults is none, there is none of them
none_of : {P : Type 0} (fault rest : Option P) → option_or fault rest ≡ None → (fault ≡ None) × (rest ≡ None)
none_of None rest h = (refl, h)
none_of (Some p) rest h = absurd (cc)

none_at : (error : SettingsError) (found : Option spec.Where) → spec.fault_at error found ≡ None → found ≡ None
none_at error None h = refl
none_at error (Some p) h = absurd (cc)

is_good : {P : Type 0} (good : Bool) (at : P) → unless good at ≡ None → good ≡ true
is_good true at h = refl
is_good false at h = absurd (cc)

pub passes : (tree : Members) → spec.first_fault tree ≡ None → Passes tree
passes tree h =
    let version = none_of (spec.fault_at fault.Version (spec.bad_version tree)) _ h in
    let known = none_of (spec.fault_at fault.UnknownKey (spec.unknown_key tree)) _ version.1 in
    let needed = none_of (spec.fault_at fault.MissingKey (spec.missing_key tree)) _ known.1 in
    let names = none_of (spec.fault_at fault.BadName (spec.bad_name tree)) _ needed.1 in
    let values = none_of (spec.fault_at fault.BadValue (spec.bad_value tree)) _ names.1 in
    let functions = none_of (spec.fault_at fault.UnknownFunction (spec.unknown_function tree)) _ values.1 in
    let room = none_of (spec.fault_at fault.TooMany (spec.too_many tree)) _ functions.1 in
    record {
      good_names = none_at _ _ names.0;
      good_values = none_at _ _ values.0;
      room = none_at _ _ room.0;
    }

-- there are not too many of anything
pub record HasRoom (tree : Members) : Type 0 where
  pub machines : length (entries_at spec.machines_key tree) ≤ 256
  pub functions : length (entries_at spec.functions_key tree) ≤ 1024
  pub workers : sum (spec.workers_in tree) ≤ 4096

pub room_of : (tree : Members) → Passes tree → HasRoom tree
room_of tree p =
    let machines = length (entries_at spec.machines_key tree) in
    let functions = length (entries_at spec.functions_key tree) in
    let workers = sum (spec.workers_in tree) in
    let first = none_of (unless (leb machines 256) (place.Count counted.Machines)) _ p.room in
    let second = none_of (unless (leb functions 1024) (place.Count counted.Functions)) _ first.1 in
    let third = none_of (unless (leb workers 4096) (place.Count counted.Workers)) None second.1 in
    record { machines = leb-true machines 256 (is_good _ _ first.0); functions = leb-true functions 1024 (is_good _ _ second.0); workers = leb-true workers 4096 (is_good _ _ third.0) }

abbrev table_of : List ℕ → Members → Option Members
table_of key tree = option_and_then as_table (get_member key tree)

table_there : (key : List ℕ) (check : Entry → Option spec.Where) (tree : Members) → spec.bad_table key check tree ≡ None → is_some (table_of key tree) ≡ true
table_there key check tree h = by (table_of key tree) h
  where
    by : (o : Option Members) → option_map_or (λ table. first_in check (entries_of table)) o (Some (place.Key key)) ≡ None → is_some o ≡ true
    by None h = absurd (cc)
    by (Some table) h = refl

-- both tables are there
pub tables_there : (tree : Members) → Passes tree → (is_some (table_of spec.functions_key tree) ≡ true) × (is_some (table_of spec.machines_key tree) ≡ true)
tables_there tree p =
    let limits = none_of (spec.bad_top_value tree) _ p.good_values in
    let functions = none_of (spec.bad_table spec.functions_key spec.bad_function tree) _ limits.1 in
    let machines = none_of (spec.bad_table spec.machines_key spec.bad_machine tree) None functions.1 in
    (table_there spec.functions_key spec.bad_function tree functions.0, table_there spec.machines_key spec.bad_machine tree machines.0)

-- where no entry's name is at fault, each is good
all_named : (p : List ℕ → Bool) (at : Entry → spec.Where) (es : List Entry) → first_in (λ e. unless (p e.0) (at e)) es ≡ None → list_all (λ e. p e.0) es ≡ true
all_named p at [] h = refl
all_named p at (e ∷ es) h =
    let parts = none_of (unless (p e.0) (at e)) _ h in
    let here : p e.0 ≡ true = is_good (p e.0) (at e) parts.0 in
    let after : list_all (λ e. p e.0) es ≡ true = all_named p at es parts.1 in
    rw (here, after)

All-from_list_all : {X : Type 0} (p : X → Bool) (xs : List X) → list_all p xs ≡ true → All (λ x. IsTrue (p x)) xs
All-from_list_all p xs h k d below = by (p (get_or xs k d)) refl
  where
    by : (b : Bool) → p (get_or xs k d) ≡ b → p (get_or xs k d) ≡ true
    by true is = is
    by false is = absurd (false≢true (sym (list_all_at p xs k d below is) ∙ h))

named : (p : List ℕ → Bool) (es : List Entry) → list_all (λ e. p e.0) es ≡ true → All (λ name. IsTrue (p name)) (spec.names_of es)
named p es h = All-map (λ name. IsTrue (p name)) (λ e. e.0) es (All-from_list_all (λ e. p e.0) es h)

pub AreSettings-settings_of : (tree : Members) → spec.first_fault tree ≡ None
    → IsInByteOrder (spec.names_of (entries_at spec.functions_key tree)) → IsInByteOrder (spec.names_of (entries_at spec.machines_key tree))
    → AreSettings (spec.settings_of tree)
AreSettings-settings_of tree h functions_rise machines_rise =
    let p = passes tree h in
    let room = room_of tree p in
    let functions = entries_at spec.functions_key tree in
    let machines = entries_at spec.machines_key tree in
    let n = length (spec.names_of functions) in
    let names = none_of (spec.bad_function_name functions) _ p.good_names in
    let machine_names = none_of (spec.bad_machine_name machines) None names.1 in
    let server : IsFrom 1 255 (length (text_in tree spec.server_row)) = text_in_range spec.server_key (codes "127.0.0.1:4730") spec.server_row.help 1 255 tree (omega arith, omega arith) in
    let job_timeout : IsFrom 1 4294967295 (number_in tree spec.job_timeout_row) = number_in_range spec.job_timeout_row tree refl in
    let max_runs : IsFrom 1 4294967295 (number_in tree spec.max_runs_row) = number_in_range spec.max_runs_row tree refl in
    let round : IsFrom 1 3600000 (number_in tree spec.round_row) = number_in_range spec.round_row tree refl in
    let lull : IsFrom 1 3600000 (number_in tree spec.lull_row) = number_in_range spec.lull_row tree refl in
    let history : IsFrom 1 1048576 (number_in tree spec.history_row) = number_in_range spec.history_row tree refl in
    let many_functions : n ≡ length functions = length-map functions (λ e. e.0) in
    let many_machines : length (spec.names_of machines) ≡ length machines = length-map machines (λ e. e.0) in
    record {
      server_some = server.0;
      server_few = server.1;
      job_timeout_some = job_timeout.0;
      job_timeout_few = omega (arith, job_timeout.1);
      max_runs_some = max_runs.0;
      max_runs_few = omega (arith, max_runs.1);
      round_some = round.0;
      round_few = round.1;
      lull_some = lull.0;
      lull_few = lull.1;
      history_some = history.0;
      history_few = history.1;
      functions_rise = functions_rise;
      functions_named = named is_name functions (all_named is_name _ functions names.0);
      functions_few = omega (arith, many_functions, room.functions);
      least_paired = length-map functions (λ e. spec.count_at spec.least_key 0 e.1) ∙ sym many_functions;
      least_few = All-map (λ n. n ≤ 4096) (λ e. spec.count_at spec.least_key 0 e.1) functions (λ k d below. count_few 4096 0 (omega arith) (option_and_then (get_member spec.least_key) (as_table (get_or functions k d).1)));
      most_paired = length-map functions (λ e. spec.count_at spec.most_key (sum (spec.workers_in tree)) e.1) ∙ sym many_functions;
      most_few = All-map (λ n. n ≤ 4096) (λ e. spec.count_at spec.most_key (sum (spec.workers_in tree)) e.1) functions (λ k d below. count_few 4096 (sum (spec.workers_in tree)) room.workers (option_and_then (get_member spec.most_key) (as_table (get_or functions k d).1)));
      machines_rise = machines_rise;
      machines_named = named is_machine_name machines (all_named is_machine_name _ machines machine_names.0);
      machines_few = omega (arith, many_machines, room.machines);
      workers_paired = length-map machines (λ e. spec.count_at spec.workers_key 0 e.1) ∙ sym many_machines;
      workers_few = room.workers;
      may_paired = length-map machines _ ∙ sym many_machines;
      may_rise = All-map IsStrictlyIncreasing _ machines (λ k d below. IsStrictlyIncreasing-filter _ (range_with_len 0 n) (range-rises n));
      may_within = All-map (λ row. All (λ f. f < n) row) _ machines (λ k d below. All-filter _ (λ f. f < n) (range_with_len 0 n) (range-below n));
    }

-- settings that are those of the tree
pub keeps : (p : Settings) (tree : Members) → p ≡ spec.settings_of tree → AreSettings (spec.settings_of tree) → AreSettings p
keeps p tree same valid = subst AreSettings (sym same) valid
