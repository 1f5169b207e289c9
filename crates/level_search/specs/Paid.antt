-- How many looks a plan takes at least.
use Rattle.std.specs.Prelude.{◌≡◌, ℕ, ◌+◌, ◌*◌, ◌≤◌, nat_lt, if◌then◌else◌, List, Option, is_some, count_by, sum_by}
use Rattle.plan_model.specs.Planning.{Instance, functions, need, top_level}
use Rattle.plan_model.specs.declared.answer.Answer.{Answer}
use Rattle.plan_model.specs.declared.answer.Answer.TheVariants.{Planned, NoPlan}
use Rattle.round_arena.specs.Input.{cut_plan, pair_count}
use Rattle.level_search.specs.declared.bisect.Found.{Found}
use Rattle.level_search.specs.declared.bisect.Found.TheVariants.{Level, Nothing}

-- how many live workers still have a permitted function by a plan
abbrev pub kept_count : Instance → List (ℕ × Option ℕ) → ℕ
kept_count i plan = count_by (λ entry. is_some entry.1) (cut_plan i plan)

-- With a plan there was a look for each permitted pair, and one more at least for each worker whom the needs at its backlog ask for
-- beyond those who had a function by the previous plan.
abbrev pub PaysForPlan : Instance → List (ℕ × Option ℕ) → Answer → ℕ → Type 0
PaysForPlan i previous (Planned entries backlog set) looks =
    pair_count i + sum_by (need i backlog) (functions i) ≤ looks + kept_count i previous
PaysForPlan i previous (NoPlan set) looks = Unit {0}

abbrev pub IsLevel : Found → ℕ → Type 0
IsLevel (Level level set) backlog = backlog ≡ level
IsLevel (Nothing set) backlog = ⊥

-- How many passes over all pairs may follow once the level is found: one to fill idle workers in, and below the top level one more.
abbrev pub passes_at : ℕ → ℕ
passes_at level = if nat_lt level top_level then 2 else 1

abbrev pub passes : Found → ℕ
passes (Level level set) = passes_at level
passes (Nothing set) = 1

-- The backlog of a plan is the level that was found, and each of so many pairs was looked at once more, and once again at most.
abbrev pub Fills : Found → ℕ → ℕ → ℕ → Answer → Type 0
Fills found pairs old new (Planned entries backlog set) = IsLevel found backlog × (old + pairs ≤ new) × (new ≤ old + passes found * pairs)
Fills found pairs old new (NoPlan set) = new ≡ old
