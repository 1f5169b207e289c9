-- What serving as many needs as can be gives.
use Rattle.std.specs.Prelude.{◌≡◌, ℕ, ◌+◌, ◌-◌, ◌<◌, ◌≤◌, ◌⊎◌, Bool, List, length, slice_index, sum_by, All}
use Rattle.std.specs.List.{range_with_len}
use Rattle.std.specs.List.Sorted.{IsStrictlyIncreasing}
use Rattle.round_arena.specs.declared.tables.Pairs.{Pairs}
use Rattle.round_arena.specs.declared.tables.Tables.{Tables}
use Rattle.round_arena.specs.Planning.{neighbours}
use Rattle.round_arena.specs.Plan.{IsPair, count_on}
use Rattle.round_arena.specs.Round.{Holds}

-- No need is above the function's greatest number of workers.
abbrev pub AreWithinMost : List ℕ → Tables → Type 0
AreWithinMost need t = (f : ℕ) → f < length need → slice_index need f ≤ slice_index t.most.now f

-- No function has more workers than it needs.
abbrev pub AreWithinNeeds : List ℕ → List ℕ → Type 0
AreWithinNeeds need owner = (f : ℕ) → f < length need → count_on owner f ≤ slice_index need f

-- How many workers are lacking for the needs, over all functions.
abbrev pub lacking : List ℕ → List ℕ → ℕ
lacking need owner = sum_by (λ f. slice_index need f - count_on owner f) (range_with_len 0 (length need))

-- A set of functions, in rising order, whose needs are so many more than the workers who may do any of them.
pub record LacksJust (permits : ℕ → ℕ → Bool) (machines : List ℕ) (functions : ℕ) (need : ℕ → ℕ) (many : ℕ) (set : List ℕ) : Type 0 where
  pub rising : IsStrictlyIncreasing set
  pub within : All (λ f. f < functions) set
  pub exact : neighbours permits machines set + many ≡ sum_by need set

-- The needs of the set are so many more than the workers who may do any of it as workers are lacking in all, by the permissions that the
-- tables hold.
abbrev pub IsServedMost : List ℕ → Tables → List ℕ → Type 0
IsServedMost need t set =
    (permits : ℕ → ℕ → Bool) → Holds permits (length need) t
    → LacksJust permits t.machine.now (length need) (λ f. slice_index need f) (lacking need t.owner.now) set

-- Each worker of machine m, up to place k of the list of workers, is on a marked function.
abbrev pub IsPassedByUpTo : Pairs → List ℕ → List ℕ → ℕ → ℕ → Type 0
IsPassedByUpTo pairs owner marks m end =
    (k : ℕ) → slice_index pairs.workers.first.now m ≤ k → k < end
    → 0 < slice_index marks (slice_index owner (slice_index pairs.workers.items.now k))

-- Each worker of machine m is on a marked function.
abbrev pub IsPassedBy : Pairs → List ℕ → List ℕ → ℕ → Type 0
IsPassedBy pairs owner marks m = IsPassedByUpTo pairs owner marks m (slice_index pairs.workers.first.now (m + 1))

-- Each worker who may do the function is on a marked function.
abbrev pub IsCutOff : Pairs → List ℕ → List ℕ → ℕ → Type 0
IsCutOff pairs owner marks f = (w : ℕ) → w < length owner → IsPair pairs w f → 0 < slice_index marks (slice_index owner w)

-- Each worker who may do a marked function is on a marked function.
pub record AreCutOff (pairs : Pairs) (owner : List ℕ) (functions : ℕ) (marks : List ℕ) : Type 0 where
  pub size : length marks ≡ functions
  pub closed : (f : ℕ) → f < functions → 0 < slice_index marks f → IsCutOff pairs owner marks f

-- The function has what it needs or is marked.
abbrev pub IsServedOrMarked : List ℕ → List ℕ → List ℕ → ℕ → Type 0
IsServedOrMarked need owner marks f = (slice_index need f ≤ count_on owner f) ⊎ (0 < slice_index marks f)

-- What was reached is marked, and what was marked.
pub record MarksReached (old new place : List ℕ) : Type 0 where
  pub size : length new ≡ length old
  pub kept : (f : ℕ) → 0 < slice_index old f → 0 < slice_index new f
  pub reached : (f : ℕ) → 0 < slice_index place f → 0 < slice_index new f
  pub only : (f : ℕ) → 0 < slice_index new f → (0 < slice_index old f) ⊎ (0 < slice_index place f)
