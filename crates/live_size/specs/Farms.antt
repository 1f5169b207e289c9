-- The farm that is sized for a problem of settings.
use Rattle.std.specs.Prelude.{ℕ, Bool, false, not, List, length, map, slice_index, slice_index_or, Option, if◌then◌else◌}
use Rattle.std.specs.List.{range_with_len}
use Rattle.toml.specs.Data.{Members}
use Rattle.plan_model.specs.Planning.{Instance, functions}
use Rattle.plan_sizing.specs.Sizing.{Farm}
use Rattle.pool_settings.specs.Names.{name_at}
use Rattle.pool_settings.specs.Reading.{function_has_key, most_key}
use Rattle.pool_settings.specs.Settings.{Settings}
use Rattle.pool_settings.specs.Slots.{slots}

-- the file gives no greatest number of this function
abbrev pub is_unbounded : Members → Settings → ℕ → Bool
is_unbounded tree settings f = not (function_has_key (name_at settings.functions f) most_key tree)

-- for each function whether the file gives it no greatest number
abbrev pub unbounded_in : Members → Settings → List Bool
unbounded_in tree settings = map (is_unbounded tree settings) (range_with_len 0 (length settings.functions))

-- a greatest number that no need is above
abbrev pub no_most : ℕ
no_most = 4294967295

-- The greatest number of a function, however many workers are added: that of an unbounded one grows with the farm.
abbrev pub most_of : List Bool → Instance → ℕ → ℕ
most_of unbounded input f = if slice_index_or unbounded f false then no_most else slice_index input.most f

abbrev pub most_numbers : List Bool → Instance → List ℕ
most_numbers unbounded input = map (most_of unbounded input) (functions input)

-- a planning problem with other greatest numbers
abbrev pub with_most : Instance → List ℕ → Instance
with_most i most = record { live = i.live; may = i.may; least = i.least; most = most; waiting = i.waiting }

-- The problem with these greatest numbers, the number of all workers of the settings, lost ones too, and the level.
abbrev pub farm_of : Settings → List Bool → Instance → Option ℕ → Farm
farm_of settings unbounded input level = record {
  problem = with_most input (most_numbers unbounded input);
  slots = slots settings;
  level = level;
}
