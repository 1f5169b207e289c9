-- When a size is shown, and what is wrong with one that is not.
use Rattle.std.specs.Prelude.{◌≡◌, ◌≢◌, ℕ, ◌+◌, ◌<◌, ◌≤◌, nat_le, List, length, Option, None, Some, Bool, IsTrue}
use Rattle.std.specs.List.{list_all}
use Rattle.plan_model.specs.Planning.{Assignment, assigned, functions, meets_most, workers_on}
use Rattle.plan_model.specs.Shown.{is_plan}
use Rattle.plan_sizing.specs.Sizing.{Farm, AreMachines, IsLeast, IsShortBy, Serves, first_obstacle, grown, need}
use Rattle.plan_sizing.specs.Flaws.{flaw_label}
use Rattle.plan_sizing.specs.declared.size.Size.{Size}
use Rattle.plan_sizing.specs.declared.size.Size.TheVariants.{Enough, Never, TooMany}
use Rattle.plan_sizing.specs.declared.size.Flaw.{Flaw}
use Rattle.plan_sizing.specs.declared.size.Flaw.TheVariants.{WrongLimit, NotPermitted, BelowNeed, AboveMost, NotShort}
use Rattle.plan_sizing.specs.declared.size.Flaw.TheVariants.{SetMissing, WrongObstacle}

-- Each function has what it needs.
abbrev pub meets_needs : Farm → List ℕ → Assignment → Bool
meets_needs farm added plan =
    list_all (λ f. nat_le (need farm f) (workers_on (grown farm added) plan f)) (functions farm.problem)

-- The machines are there, and the list is a plan of the farm that has grown.
pub record IsPermitted (farm : Farm) (added : List ℕ) (entries : List (ℕ × Option ℕ)) : Type 0 where
  pub machines : AreMachines farm added
  pub plan : IsTrue (is_plan (grown farm added) entries)

-- Why no smaller addition serves: there is none below 0, and else a set is short by just so many workers.
abbrev pub IsEvidence : Farm → ℕ → Option (List ℕ) → Type 0
IsEvidence farm many None = many ≡ 0
IsEvidence farm many (Some set) = (0 < many) × IsShortBy farm many set

pub record IsShownAddition (farm : Farm) (added : List ℕ) (entries : List (ℕ × Option ℕ)) (short : Option (List ℕ)) : Type 0 where
  pub few : farm.slots + length added ≤ 4096
  pub permitted : IsPermitted farm added entries
  pub met : IsTrue (meets_needs farm added (assigned entries))
  pub at_most : IsTrue (meets_most (grown farm added) (assigned entries))
  pub evidence : IsEvidence farm (length added) short

-- No function shows that no addition serves, the set is short by just so many workers, and there is no room for them.
pub record IsShownTooMany (farm : Farm) (many : ℕ) (set : List ℕ) : Type 0 where
  pub short : IsShortBy farm many set
  pub above : 4096 < farm.slots + many
  pub free : first_obstacle farm ≡ None

abbrev pub Shown : Farm → Size → Type 0
Shown farm (Enough added entries short) = IsShownAddition farm added entries short
Shown farm (Never obstacle) = first_obstacle farm ≡ Some obstacle
Shown farm (TooMany many set) = IsShownTooMany farm many set

-- Each addition with a plan that serves is of so many workers at least.
abbrev pub NeedsSoMany : Farm → ℕ → Type 0
NeedsSoMany farm many = (added : List ℕ) (plan : Assignment) → Serves farm added plan → many ≤ length added

-- The size is right among all additions and plans, whatever shows it.
abbrev pub Right : Farm → Size → Type 0
Right farm (Enough added entries short) = IsLeast farm added (assigned entries) × (farm.slots + length added ≤ 4096)
Right farm (Never obstacle) = (added : List ℕ) (plan : Assignment) → ¬ Serves farm added plan
Right farm (TooMany many set) = NeedsSoMany farm many × (4096 < farm.slots + many)

-- The given set is not short by just so many workers, or accompanies an addition of nobody.
abbrev pub IsBadSet : Farm → ℕ → Option (List ℕ) → Type 0
IsBadSet farm many None = ⊥
IsBadSet farm many (Some set) = ¬ ((0 < many) × IsShortBy farm many set)

-- What each flaw says of a size.
abbrev pub Applies : Flaw → Farm → Size → Type 0
Applies WrongLimit farm (Enough added entries short) = 4096 < farm.slots + length added
Applies NotPermitted farm (Enough added entries short) = ¬ IsPermitted farm added entries
Applies BelowNeed farm (Enough added entries short) = ¬ IsTrue (meets_needs farm added (assigned entries))
Applies AboveMost farm (Enough added entries short) = ¬ IsTrue (meets_most (grown farm added) (assigned entries))
Applies NotShort farm (Enough added entries short) = IsBadSet farm (length added) short
Applies SetMissing farm (Enough added entries short) = (0 < length added) × (short ≡ None)
Applies WrongObstacle farm (Enough added entries short) = ⊥
Applies WrongObstacle farm (Never obstacle) = first_obstacle farm ≢ Some obstacle
Applies other farm (Never obstacle) = ⊥
Applies WrongLimit farm (TooMany many set) = farm.slots + many ≤ 4096
Applies NotShort farm (TooMany many set) = ¬ IsShortBy farm many set
Applies WrongObstacle farm (TooMany many set) = first_obstacle farm ≢ None
Applies other farm (TooMany many set) = ⊥

-- The flaw of the lowest number that applies.
pub record IsFirstFlaw (flaw : Flaw) (farm : Farm) (size : Size) : Type 0 where
  pub applies : Applies flaw farm size
  pub first : (other : Flaw) → (flaw_label other).number < (flaw_label flaw).number → ¬ Applies other farm size
