use Rattle.std.proofs.Common.{◌≡◌, ◌++◌, drop, string_bytes}
use Rattle.std.specs.List.{flat_map}
use Rattle.toml.specs.View.{table_view}
use Rattle.file_keys.specs.Keys.{keys_view}
use Rattle.settings_command.specs.ServicesMeaning.{key_line}
use Rattle.settings_command.proofs.services_meaning.push_numbers.Given as goal

-- what is written, and what is left to write
abbrev pub invariant-loop-key : goal.invariant-loop-key
invariant-loop-key l =
    string_bytes l.out ++ flat_map (key_line (table_view l.file.tree)) (keys_view (drop l.key-index l.keys))
    ≡ string_bytes l.fn.out ++ flat_map (key_line (table_view l.file.tree)) (keys_view l.keys)
