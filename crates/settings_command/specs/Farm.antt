-- The farm of settings as a planning problem, and whether its least numbers can be met.
use Rattle.std.specs.Prelude.{ℕ, List, true, Option, None, Some, length, replicate, slice_index}
use Rattle.plan_model.specs.Planning.{Assignment, Instance, IsSound, LacksWorkers, machines_of, neighbours}
use Rattle.plan_model.specs.declared.answer.Answer.{Answer}
use Rattle.plan_model.specs.declared.answer.Answer.TheVariants.{NoPlan, Planned}
use Rattle.pool_settings.specs.Rows.{may_do}
use Rattle.pool_settings.specs.Settings.{Settings}
use Rattle.pool_settings.specs.Slots.{live_workers, slots}

-- a greatest number that no number of workers is above
abbrev pub no_most : ℕ
no_most = 4294967295

-- All workers live, nothing waits, and only the least numbers ask something.
abbrev pub farm : Settings → Instance
farm settings = record {
  live = live_workers settings (replicate (slots settings) true);
  may = settings.may;
  least = settings.least;
  most = replicate (length settings.functions) no_most;
  waiting = replicate (length settings.functions) 0;
}

-- how many workers may do some function of the set
abbrev pub hands : Settings → List ℕ → ℕ
hands settings set = neighbours (may_do settings) (machines_of (farm settings)) set

-- The least numbers of the set are more than the workers that may do some function of it.
abbrev pub IsShortSet : Settings → List ℕ → Type 0
IsShortSet settings set =
    LacksWorkers (may_do settings) (machines_of (farm settings)) (length settings.functions) (slice_index settings.least) set

-- the set by which an answer shows that there is no plan, if it does
abbrev pub set_of : Answer → Option (List ℕ)
set_of (Planned entries backlog short) = None
set_of (NoPlan short) = Some short

-- Some plan gives each function its least number of workers, or the set shows that none does.
abbrev pub IsShown : Settings → Option (List ℕ) → Type 0
IsShown settings None = (plan : Assignment) × IsSound (farm settings) plan
IsShown settings (Some set) = IsShortSet settings set
