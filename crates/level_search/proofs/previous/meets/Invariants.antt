use Rattle.std.proofs.Common.{ℕ, ◌<◌, ◌≤◌}
use Rattle.plan_model.specs.Planning.{need}
use Rattle.round_arena.specs.Plan.{count_on}
use Rattle.level_search.proofs.previous.meets.Given as goal

abbrev pub invariant-loop-f : goal.invariant-loop-f
invariant-loop-f l = (f : ℕ) → f < l.f → need l.input l.level f ≤ count_on l.seed.owner.now f
