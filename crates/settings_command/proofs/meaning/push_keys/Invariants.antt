use Rattle.std.proofs.Common.{◌≡◌, ◌++◌, drop, string_bytes}
use Rattle.std.specs.List.{flat_map}
use Rattle.toml.specs.View.{table_view}
use Rattle.file_keys.specs.Keys.{keys_view}
use Rattle.settings_command.specs.Meaning.{key_lines}
use Rattle.settings_command.proofs.meaning.push_keys.Given as goal

-- what is written, and what is left to write
abbrev pub invariant-loop-key : goal.invariant-loop-key
invariant-loop-key l =
    string_bytes l.out ++ flat_map (key_lines (table_view l.file.tree)) (keys_view (drop l.key-index l.keys))
    ≡ string_bytes l.fn.out ++ flat_map (key_lines (table_view l.file.tree)) (keys_view l.keys)
