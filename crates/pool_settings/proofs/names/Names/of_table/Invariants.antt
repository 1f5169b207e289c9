use Rattle.std.proofs.Common.{◌≡◌, ◌++◌, map}
use Rattle.std.specs.Prelude.{string_bytes}
use Rattle.pool_settings.specs.Entries.{entries_view, table_entries}
use Rattle.pool_settings.specs.Reading.{names_of}
use Rattle.pool_settings.proofs.names.Names.of_table.Given as goal

-- what is done, and what is left
abbrev pub invariant-loop-name : goal.invariant-loop-name
invariant-loop-name l = map (λ s. string_bytes s) l.names.items ++ names_of (entries_view l.name-iterator) ≡ names_of (table_entries l.table)
