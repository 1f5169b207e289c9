use Rattle.std.proofs.Common.{rules, ◌≡◌, ◌≤◌, ℕ, List, length, subst, sym, ap, ◌∙◌, arith}
use Rattle.std.specs.Prelude.{map, slice_index, string_bytes, sum}
use Rattle.std.proofs.lemmas.List.{length-map}
use Rattle.toml.specs.View.{table_view}
use Rattle.pool_settings.specs.declared.keys.TheConstants.{HISTORY_PLACE, JOB_TIMEOUT_PLACE, LULL_PLACE, MAX_RUNS_PLACE, ROUND_PLACE}
use Rattle.pool_settings.specs.Entries.{table_entries}
use Rattle.pool_settings.specs.Names.{IsInByteOrder}
use Rattle.pool_settings.specs.Settings.{Settings}
use Rattle.pool_settings.specs.Reading as spec
use Rattle.file_keys.specs.Tree.{Entry, entries_at}
use Rattle.pool_settings.proofs.Passing.{AreSettings-settings_of, keeps, passes, room_of}
use Rattle.pool_settings.proofs.settings.settings_of.Goals as goal

pub read_rows-requires : goal.read_rows-requires
read_rows-requires c =
    let tree = table_view c.args.tree.now in
    let room = room_of tree (passes tree c.requires.passes) in
    let many : length c.in_ok-functions.functions ≡ length (entries_at spec.functions_key tree) =
    ap length c.in_ok-functions.ensures.keys ∙ ap (λ (es : List Entry). length (spec.names_of es)) c.requires.tables.0 ∙ length-map (entries_at spec.functions_key tree) (λ e. e.0) in
    omega (arith, many, room.functions)

pub new-requires-clause-few : goal.new-requires-clause-few
new-requires-clause-few c =
    let tree = table_view c.args.tree.now in
    let room = room_of tree (passes tree c.requires.passes) in
    let same : c.in_ok-workers.workers.items ≡ spec.column_of spec.workers_key 0 (entries_at spec.machines_key tree) =
    c.in_ok-workers.ensures ∙ ap (spec.column_of spec.workers_key 0) c.requires.tables.1 in
    subst (λ (ws : List ℕ). sum ws ≤ 4096) (sym same) room.workers

pub new-requires-clause-machines : goal.new-requires-clause-machines
new-requires-clause-machines c =
    let tree = table_view c.args.tree.now in
    let room = room_of tree (passes tree c.requires.passes) in
    let many : length c.in_ok-workers.workers.items ≡ length (entries_at spec.machines_key tree) =
    ap length (c.in_ok-workers.ensures ∙ ap (spec.column_of spec.workers_key 0) c.requires.tables.1) ∙ length-map (entries_at spec.machines_key tree) (λ e. spec.count_at spec.workers_key 0 e.1) in
    omega (arith, many, room.machines)

-- a function that has none may have all workers
abbrev MostRead : goal.After-numbers_in → Type 0
MostRead c =
    let tree = table_view c.args.tree.now in
    c.in_ok-most.most.items ≡ spec.column_of spec.most_key (sum (spec.workers_in tree)) (entries_at spec.functions_key tree)

most_read : (c : goal.After-numbers_in) → MostRead c
most_read c =
    let tree = table_view c.args.tree.now in
    let workers : c.in_ok-workers.workers.items ≡ spec.workers_in tree = c.in_ok-workers.ensures ∙ ap (spec.column_of spec.workers_key 0) c.requires.tables.1 in
    let all : c.len.result ≡ sum (spec.workers_in tree) = c.len.ensures.all ∙ ap sum c.in_ok-slots.ensures ∙ ap sum workers in
    c.in_ok-most.ensures ∙ ap (λ (n : ℕ). spec.column_of spec.most_key n (table_entries c.args.tables.functions.now)) all
    ∙ ap (spec.column_of spec.most_key (sum (spec.workers_in tree))) c.requires.tables.0

-- what is made
abbrev made : goal.After-numbers_in → Settings
made c = record {
  server = string_bytes c.in_ok-server.server;
  job_timeout_ms = slice_index c.numbers_in.result JOB_TIMEOUT_PLACE;
  max_runs = slice_index c.numbers_in.result MAX_RUNS_PLACE;
  round_ms = slice_index c.numbers_in.result ROUND_PLACE;
  lull_ms = slice_index c.numbers_in.result LULL_PLACE;
  history = slice_index c.numbers_in.result HISTORY_PLACE;
  functions = c.in_ok-functions.functions;
  least = c.in_ok-least.least.items;
  most = c.in_ok-most.most.items;
  machines = c.in_ok-machines.machines;
  workers = c.in_ok-slots.slots;
  may = map (λ row. row.items) c.in_ok-may.may.items;
}

is_meant : (c : goal.After-numbers_in) → made c ≡ spec.settings_of (table_view c.args.tree.now)
is_meant c = search (rules, most_read c)

pub invariant_of-result : goal.invariant_of-result
invariant_of-result c =
    let tree = table_view c.args.tree.now in
    let functions = subst IsInByteOrder (c.in_ok-functions.ensures.keys ∙ ap spec.names_of c.requires.tables.0) c.in_ok-functions.ensures.ordered in
    let machines = subst IsInByteOrder (c.in_ok-machines.ensures.keys ∙ ap spec.names_of c.requires.tables.1) c.in_ok-machines.ensures.ordered in
    keeps (made c) tree (is_meant c) (AreSettings-settings_of tree c.requires.passes functions machines)

pub returns : goal.returns
returns c = is_meant c
