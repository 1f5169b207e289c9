use Rattle.std.proofs.Common.{◌≡◌, drop, is_some}
use Rattle.std.specs.List.{list_all}
use Rattle.toml.specs.Data.{as_str}
use Rattle.toml.specs.View.{items_view}
use Rattle.file_keys.specs.Tree.{values_of}
use Rattle.file_keys.proofs.values.are_texts.Given as goal

-- what is left decides
abbrev pub invariant-loop-value : goal.invariant-loop-value
invariant-loop-value l =
    list_all (λ d. is_some (as_str d)) (values_of (items_view (drop l.value-index l.values.items)))
    ≡ list_all (λ d. is_some (as_str d)) (values_of (items_view l.values.items))
