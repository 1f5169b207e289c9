-- When the previous plan stays.
use Rattle.std.specs.Prelude.{◌≡◌, ℕ, List, Option, IsTrue, length}
use Rattle.plan_model.specs.Planning.{Instance, IsBest, is_full, assigned}
use Rattle.plan_model.specs.declared.answer.Answer.{Answer}
use Rattle.plan_model.specs.declared.answer.Answer.TheVariants.{Planned, NoPlan}
use Rattle.round_arena.specs.declared.tables.Tables.{Tables}
use Rattle.round_arena.specs.Plan.{IsAssigned, IsCounted, AreWithin}
use Rattle.round_arena.specs.Input.{cut_plan}
use Rattle.level_search.specs.declared.previous.Seed.{Seed}

-- The answer has this plan.
abbrev pub HasPlan : List (ℕ × Option ℕ) → Answer → Type 0
HasPlan entries (Planned plan backlog short) = plan ≡ entries
HasPlan entries (NoPlan set) = ⊥

-- If the previous plan, cut to live workers, permitted functions and greatest numbers, is best and full, it is the answer's plan.
abbrev pub IsSteady : Instance → List (ℕ × Option ℕ) → Answer → Type 0
IsSteady i previous answer =
    IsBest i (assigned (cut_plan i previous)) → IsTrue (is_full i (assigned (cut_plan i previous))) → HasPlan (cut_plan i previous) answer

-- The owners and counts fit the tables' pairs and greatest numbers.
pub record IsSeed (functions : ℕ) (t : Tables) (seed : Seed) : Type 0 where
  pub size : length seed.owner.now ≡ length t.owner.now
  pub assigned : IsAssigned functions t.pairs seed.owner.now
  pub counted : IsCounted functions seed.owner.now seed.count.now
  pub within : AreWithin functions t.most.now seed.owner.now
