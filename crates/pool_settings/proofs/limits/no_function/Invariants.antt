use Rattle.std.proofs.Common.{◌≡◌, drop, not}
use Rattle.std.specs.List.{filter_map, find}
use Rattle.toml.specs.Data.{as_str}
use Rattle.toml.specs.View.{items_view, table_view}
use Rattle.pool_settings.specs.Reading.{is_function_of}
use Rattle.file_keys.specs.Tree.{values_of}
use Rattle.pool_settings.proofs.limits.no_function.Given as goal

-- what is left decides
abbrev pub invariant-loop-value : goal.invariant-loop-value
invariant-loop-value l =
    find (λ name. not (is_function_of (table_view l.tree) name)) (filter_map as_str (values_of (items_view (drop l.value-index l.names.items))))
    ≡ find (λ name. not (is_function_of (table_view l.tree) name)) (filter_map as_str (values_of (items_view l.names.items)))
