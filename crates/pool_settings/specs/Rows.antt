-- The functions that a machine lists, as numbers.
use Rattle.std.specs.Prelude.{ℕ, List, [], Bool, ◌==◌, length, slice_index_or}
use Rattle.std.specs.List.{filter_map, list_any}
use Rattle.plan_model.specs.InputRefusals.{rising_of}
use Rattle.pool_settings.specs.Names.{place_of}
use Rattle.pool_settings.specs.Settings.{Settings}

-- in rising order, and each once
abbrev pub row_of : List (List ℕ) → List (List ℕ) → List ℕ
row_of functions listed = rising_of (length functions) (filter_map (place_of functions) listed)

-- the workers of the machine may do the function
abbrev pub may_do : Settings → ℕ → ℕ → Bool
may_do settings machine function = list_any (λ f. f == function) (slice_index_or settings.may machine [])
