-- What the bisection of levels gives.
use Rattle.std.specs.Prelude.{ℕ, ◌-◌, ◌<◌, ◌≤◌, List}
use Rattle.plan_model.specs.Planning.{Instance, IsShort, top_level}
use Rattle.round_arena.specs.declared.tables.Tables.{Tables}
use Rattle.augment.specs.declared.serving.Served.{Served}
use Rattle.augment.specs.declared.serving.Served.TheVariants.{All, Short}
use Rattle.level_search.specs.declared.bisect.Found.{Found}
use Rattle.level_search.specs.declared.bisect.Found.TheVariants.{Level, Nothing}
use Rattle.level_search.specs.Levels.{AreMet}

-- What one probe of a level found.
abbrev pub IsProbed : Instance → ℕ → Tables → Served → Type 0
IsProbed i level t All = AreMet i t.owner.now level
IsProbed i level t (Short set) = IsShort i level set.now

-- What was met at the level or above stays met.
abbrev pub KeepsMet : Instance → ℕ → Tables → Tables → Type 0
KeepsMet i level old new = (higher : ℕ) → level ≤ higher → AreMet i old.owner.now higher → AreMet i new.owner.now higher

-- Level: each function has what it needs at the level, and the set shows that one level below none can.
-- Nothing: the set is short at the top level.
abbrev pub IsFound : Instance → Tables → Found → Type 0
IsFound i t (Level level set) = AreMet i t.owner.now level × (0 < level → IsShort i (level - 1) set.now)
IsFound i t (Nothing set) = IsShort i top_level set.now

-- The owners serve the level that was found.
abbrev pub Serves : Instance → List ℕ → Found → Type 0
Serves i owner (Level level set) = AreMet i owner level
Serves i owner (Nothing set) = ⊥
