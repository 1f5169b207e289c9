use Rattle.std.proofs.Common.{◌≡◌, drop}
use Rattle.std.specs.List.{find}
use Rattle.toml.specs.View.{table_view}
use Rattle.file_keys.specs.Keys.{is_missing, keys_view}
use Rattle.file_keys.proofs.values.first_missing.Given as goal

-- what is left decides
abbrev pub invariant-loop-key : goal.invariant-loop-key
invariant-loop-key l = find (is_missing (table_view l.table)) (keys_view (drop l.key-index l.keys)) ≡ find (is_missing (table_view l.table)) (keys_view l.keys)
