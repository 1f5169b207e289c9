-- How many workers a farm is short of: the farm, what an addition makes of it, and when a plan serves.
use Rattle.std.specs.Prelude.{ℕ, ◌^◌, ◌<◌, ◌≤◌, ◌&&◌, ◌++◌, Bool, not, nat_lt, max, if◌then◌else◌, List, [], ◌∷◌}
use Rattle.std.specs.Prelude.{length, slice_index, All, IfSome, Option, None, Some}
use Rattle.std.specs.List.{enumerate_from, list_any, range_with_len}
use Rattle.std.specs.Option.{option_or}
use Rattle.std.specs.Int.{div_ceil}
use Rattle.augment.specs.Most.{LacksJust}
use Rattle.plan_model.specs.Planning.{Instance, IsInstance, Assignment, IsSound, cost, functions}
use Rattle.plan_model.specs.Planning.{machines_of, may_do, workers_on}
use Rattle.plan_sizing.specs.declared.size.Obstacle.{Obstacle}
use Rattle.plan_sizing.specs.declared.size.Obstacle.TheVariants.{AboveMost, NoMachine}

-- What is to be sized.
pub record Farm : Type 0 where
  -- the planning problem of now
  pub problem : Instance
  -- how many workers the farm has, lost ones too: each has a slot below this number
  pub slots : ℕ
  -- how many jobs may wait for each worker of a function; without a level any plan will do
  pub level : Option ℕ

-- What each farm keeps.
pub record IsFarm (farm : Farm) : Type 0 where
  pub instance : IsInstance farm.problem
  pub slotted : All (λ worker. worker.0 < farm.slots) farm.problem.live
  pub few : farm.slots ≤ 4096
  pub some : IfSome farm.level (λ level. 0 < level)
  pub small : IfSome farm.level (λ level. level < 2 ^ 32)

-- An addition is a list of further live workers, each given by its machine. The first of them has the slot after the farm's last, and
-- each other the slot after the one before it.
abbrev pub grown : Farm → List ℕ → Instance
grown farm added = record {
  live = farm.problem.live ++ enumerate_from farm.slots added;
  may = farm.problem.may;
  least = farm.problem.least;
  most = farm.problem.most;
  waiting = farm.problem.waiting;
}

-- The machines of an addition are there.
abbrev pub AreMachines : Farm → List ℕ → Type 0
AreMachines farm added = All (λ machine. machine < length farm.problem.may) added

-- The cost is within the level, if there is one.
abbrev pub IsWithin : Option ℕ → ℕ → Type 0
IsWithin None cost = Unit {0}
IsWithin (Some level) cost = cost ≤ level

-- A plan of the grown farm serves: it is sound, and all that waits for a function costs no more than the level, also if nobody live
-- could do it before.
pub record Serves (farm : Farm) (added : List ℕ) (plan : Assignment) : Type 0 where
  pub machines : AreMachines farm added
  pub sound : IsSound (grown farm added) plan
  pub within :
      (f : ℕ) → f < length farm.problem.least
      → IsWithin farm.level (cost (slice_index farm.problem.waiting f) (workers_on (grown farm added) plan f))

-- The plan serves with this addition, and no smaller addition has a plan that serves.
pub record IsLeast (farm : Farm) (added : List ℕ) (plan : Assignment) : Type 0 where
  pub serves : Serves farm added plan
  pub least : (other : List ℕ) (other_plan : Assignment) → Serves farm other other_plan → length added ≤ length other

-- How many workers the waiting jobs want at the level.
abbrev pub wanted : Option ℕ → ℕ → ℕ
wanted None waiting = 0
wanted (Some level) waiting = div_ceil waiting level

-- The need of a function: the fewest workers that meet its least number and keep the cost of all that waits for it within the level. It
-- does not depend on who is live, nor on the addition.
abbrev pub need : Farm → ℕ → ℕ
need farm f = max (slice_index farm.problem.least f) (wanted farm.level (slice_index farm.problem.waiting f))

-- So many workers are the function's least number or more, and all that waits for it costs no more than the level.
abbrev pub IsEnough : Farm → ℕ → ℕ → Type 0
IsEnough farm f n =
    (slice_index farm.problem.least f ≤ n) × IsWithin farm.level (cost (slice_index farm.problem.waiting f) n)

-- So many workers are enough for a function exactly if they are its need or more.
abbrev pub NeedsAreFewest : Farm → Type 0
NeedsAreFewest farm = (f n : ℕ) → (need farm f ≤ n → IsEnough farm f n) × (IsEnough farm f n → need farm f ≤ n)

-- A set of functions, in rising order, whose needs are so many more than the live workers that may do any of them.
abbrev pub IsShortBy : Farm → ℕ → List ℕ → Type 0
IsShortBy farm many set =
    LacksJust (may_do farm.problem) (machines_of farm.problem) (length farm.problem.least) (need farm) many set

-- Some machine may do the function, whether it has workers or not.
abbrev pub is_known_to : Instance → ℕ → Bool
is_known_to i f = list_any (λ machine. may_do i machine f) (range_with_len 0 (length i.may))

-- Why no addition serves, as far as one function shows it.
abbrev pub obstacle_at : Farm → ℕ → Option Obstacle
obstacle_at farm f =
    if nat_lt (slice_index farm.problem.most f) (need farm f)
    then Some (AboveMost f (need farm f) (slice_index farm.problem.most f))
    else (if nat_lt 0 (need farm f) && not (is_known_to farm.problem f) then Some (NoMachine f (need farm f)) else None)

abbrev pub first_of : Farm → List ℕ → Option Obstacle
first_of farm [] = None
first_of farm (f ∷ fs) = option_or (obstacle_at farm f) (first_of farm fs)

-- What the lowest function shows that shows why no addition serves.
abbrev pub first_obstacle : Farm → Option Obstacle
first_obstacle farm = first_of farm (functions farm.problem)
