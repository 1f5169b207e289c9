-- The moving of spare workers to where more jobs wait for each worker.
use Rattle.std.specs.Prelude.{◌≡◌, ℕ, ◌<◌, ◌⊎◌, List, [], length, take, sum_by, slice_index, slice_index_or}
use Rattle.plan_model.specs.Planning.{Instance}
use Rattle.round_arena.specs.declared.tables.Tables.{Tables}
use Rattle.round_arena.specs.Round.{IsConsistent}
use Rattle.level_search.specs.Levels.{Fits, AreMet}
use Rattle.level_search.specs.Filled.{IsFull}

-- The tables fit the input and serve the level, and whoever is idle may do only functions at their greatest number.
pub record IsSettled (i : Instance) (level : ℕ) (t : Tables) : Type 0 where
  pub sound : IsConsistent (length i.least) t
  pub fits : Fits i t
  pub met : AreMet i t.owner.now level
  pub full : IsFull (length i.least) t

-- How many functions the workers of a machine may do.
abbrev pub row_length : Instance → ℕ → ℕ
row_length i machine = length (slice_index_or i.may machine [])

-- How many permitted pairs the first w workers are in.
abbrev pub pairs_of : Instance → List ℕ → ℕ → ℕ
pairs_of i machines w = sum_by (row_length i) (take w machines)

-- A worker may leave the function without making room for somebody idle: it is below its greatest number, or nobody is idle.
abbrev pub LeavesNobody : ℕ → Tables → ℕ → Type 0
LeavesNobody functions t f = (slice_index t.count.now f < slice_index t.most.now f) ⊎ (slice_index t.count.now functions ≡ 0)
