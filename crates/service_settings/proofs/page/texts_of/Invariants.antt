use Rattle.std.proofs.Common.{◌≡◌, ◌++◌, drop, map, string_bytes}
use Rattle.std.specs.List.{filter_map}
use Rattle.toml.specs.Data.{as_str}
use Rattle.toml.specs.View.{items_view}
use Rattle.file_keys.specs.Tree.{values_of}
use Rattle.service_settings.proofs.page.texts_of.Given as goal

-- what is done, and what is left
abbrev pub invariant-loop-value : goal.invariant-loop-value
invariant-loop-value l =
    map (λ s. string_bytes s) l.texts.items ++ filter_map as_str (values_of (items_view (drop l.value-index l.values)))
    ≡ filter_map as_str (values_of (items_view l.values))
