-- Which machines the added workers are of.
use Rattle.std.specs.Prelude.{◌≡◌, ℕ, ◌+◌, ◌-◌, ◌<◌, ◌≤◌, ◌==◌, ◌++◌, true, false, nat_lt, if◌then◌else◌, List, [], ◌∷◌}
use Rattle.std.specs.Prelude.{length, map, sum, count_by, replicate, slice_index, slice_index_or, Option, None, Some, All}
use Rattle.std.specs.List.{enumerate_from}
use Rattle.std.specs.List.Sorted.{IsNonDecreasing}
use Rattle.plan_model.specs.Planning.{Assignment, Instance, assigned, functions, machines_of, may_do, workers_on}
use Rattle.round_arena.specs.declared.tables.Tables.{Tables}
use Rattle.round_arena.specs.Plan.{count_on}
use Rattle.round_arena.specs.Round.{Holds, IsConsistent, plan_of}
use Rattle.plan_sizing.specs.Sizing.{Farm, IsShortBy, is_known_to, need}
use Rattle.plan_sizing.specs.declared.size.Size.{Size}
use Rattle.plan_sizing.specs.declared.size.Size.TheVariants.{Enough, Never, TooMany}

-- How many of the functions that lack workers the machine may do.
abbrev pub score : Instance → List ℕ → ℕ → ℕ
score i lacks machine = count_by (λ f. nat_lt 0 (slice_index lacks f)) (slice_index_or i.may machine [])

-- For each machine its score.
pub record AreScores (i : Instance) (lacks scores : List ℕ) : Type 0 where
  pub many : length scores ≡ length i.may
  pub each : (machine : ℕ) → machine < length i.may → slice_index scores machine ≡ score i lacks machine

-- Of the machines below a number, the one with the greatest score that may do the function; none if no machine may.
abbrev pub IsBestBelow : Instance → List ℕ → ℕ → ℕ → Option ℕ → Type 0
IsBestBelow i scores f end None = (machine : ℕ) → machine < end → may_do i machine f ≡ false
IsBestBelow i scores f end (Some best) =
    (best < end) × (may_do i best f ≡ true)
    × ((machine : ℕ) → machine < end → may_do i machine f ≡ true → slice_index scores machine ≤ slice_index scores best)

-- The machine may do the function, and no other machine that may do it may do more of the functions that lack workers.
pub record IsBestFor (i : Instance) (lacks : List ℕ) (f machine : ℕ) : Type 0 where
  pub known : machine < length i.may
  pub permitted : may_do i machine f ≡ true
  pub best : (other : ℕ) → other < length i.may → may_do i other f ≡ true → score i lacks other ≤ score i lacks machine

-- For each function how many workers it lacks, if only the workers that are live now follow the plan.
abbrev pub lacks_now : Farm → Assignment → List ℕ
lacks_now farm plan = map (λ f. need farm f - workers_on farm.problem plan f) (functions farm.problem)

-- The worker, given by slot and machine, has a function, and its machine is best for it.
abbrev pub IsPlaced : Farm → Assignment → ℕ × ℕ → Type 0
IsPlaced farm plan worker = (f : ℕ) × (plan worker.0 ≡ Some f) × IsBestFor farm.problem (lacks_now farm plan) f worker.1

-- Each added worker has a function, and of the machines that may do it its own may do the most of the functions that lack workers.
abbrev pub ArePlaced : Farm → Size → Type 0
ArePlaced farm (Enough added entries short) = All (IsPlaced farm (assigned entries)) (enumerate_from farm.slots added)
ArePlaced farm (Never obstacle) = Unit {0}
ArePlaced farm (TooMany many set) = Unit {0}

-- So many workers are added for the function, on a machine that is best for it.
pub record Adds (i : Instance) (lacks : List ℕ) (f many : ℕ) (old new : List (ℕ × ℕ)) : Type 0 where
  pub machine : ℕ
  pub added : new ≡ old ++ replicate many (machine, f)
  pub best : 0 < many → IsBestFor i lacks f machine

-- If a function lacks workers, some machine may do it.
abbrev pub AreKnown : Instance → List ℕ → Type 0
AreKnown i lacks = (f : ℕ) → f < length lacks → 0 < slice_index lacks f → is_known_to i f ≡ true

-- Added workers, each with its machine and its function: as many for each function as it lacks, on machines that are best for it.
pub record AreHires (i : Instance) (lacks : List ℕ) (hires : List (ℕ × ℕ)) : Type 0 where
  pub placed : All (λ hire. IsBestFor i lacks hire.1 hire.0) hires
  pub counts : (f : ℕ) → f < length lacks → count_by (λ hire. hire.1 == f) hires ≡ slice_index lacks f
  pub many : length hires ≡ sum lacks

-- Those of lower machines come first.
abbrev pub AreInOrder : List (ℕ × ℕ) → Type 0
AreInOrder hires = IsNonDecreasing (map (λ hire. hire.0) hires)

-- For each function how many workers it lacks, by the workers counted on each.
pub record AreLacks (needs counts lacks : List ℕ) : Type 0 where
  pub many : length lacks ≡ length needs
  pub each : (f : ℕ) → f < length needs → slice_index lacks f ≡ slice_index needs f - slice_index counts f

-- For each function what it needs.
pub record AreNeeds (farm : Farm) (needs : List ℕ) : Type 0 where
  pub many : length needs ≡ length farm.problem.least
  pub each : (f : ℕ) → f < length farm.problem.least → slice_index needs f ≡ need farm f

-- The added workers with their functions, by the slots from this one on.
abbrev pub hired_entries : ℕ → List (ℕ × ℕ) → List (ℕ × Option ℕ)
hired_entries slot [] = []
hired_entries slot (hire ∷ hires) = (slot, Some hire.1) ∷ hired_entries (slot + 1) hires

-- The tables of the farm serve needs, and for each function so many workers are lacking.
pub record Leaves (farm : Farm) (t : Tables) (lacks : List ℕ) : Type 0 where
  pub sound : IsConsistent (length farm.problem.least) t
  pub slots : t.slot.now ≡ map (λ worker. worker.0) farm.problem.live
  pub machines : t.machine.now ≡ machines_of farm.problem
  pub holds : Holds (may_do farm.problem) (length farm.problem.least) t
  pub within : (f : ℕ) → f < length farm.problem.least → count_on t.owner.now f ≤ need farm f
  pub many : length lacks ≡ length farm.problem.least
  pub lacking : (f : ℕ) → f < length farm.problem.least → slice_index lacks f ≡ need farm f - count_on t.owner.now f

-- What the live workers leave to an addition: their plan is that of tables that serve needs, so many workers are lacking for each
-- function, and the set is short by as many as are lacking in all.
pub record IsLeft (farm : Farm) (entries : List (ℕ × Option ℕ)) (set lacks : List ℕ) : Type 0 where
  pub tables : Tables
  pub leaves : Leaves farm tables lacks
  pub plan : entries ≡ plan_of tables
  pub short : IsShortBy farm (sum lacks) set

-- The set that accompanies an addition of so many workers.
abbrev pub evidence : ℕ → List ℕ → Option (List ℕ)
evidence many set = if nat_lt 0 many then Some set else None
