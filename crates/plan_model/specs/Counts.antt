-- How many live workers a plan puts on each function, as a table.
use Rattle.std.specs.Prelude.{◌≡◌, ℕ, ◌+◌, ◌<◌, if◌then◌else◌, List, length, slice_index, Option}
use Rattle.plan_model.specs.Planning.{Instance, Assignment, is_on, workers_on}

-- The table has the number of workers on each function that may be.
pub record AreCounts (i : Instance) (plan : Assignment) (counts : List ℕ) : Type 0 where
  pub many : length counts ≡ 1024
  pub each : (f : ℕ) → f < 1024 → slice_index counts f ≡ workers_on i plan f

-- One more is counted on the function, if there is one.
pub record CountsOne (old new : List ℕ) (function : Option ℕ) : Type 0 where
  pub many : length new ≡ length old
  pub each : (f : ℕ) → f < length old → slice_index new f ≡ slice_index old f + (if is_on f function then 1 else 0)
