use Rattle.std.proofs.Common.{◌≡◌, drop}
use Rattle.plan_model.specs.Planning.{functions}
use Rattle.plan_sizing.specs.Sizing.{first_obstacle, first_of}
use Rattle.plan_sizing.proofs.obstacles.first_obstacle.Given as goal

-- no function so far is at an obstacle
abbrev pub invariant-loop-number : goal.invariant-loop-number
invariant-loop-number l = first_obstacle l.farm ≡ first_of l.farm (drop l.number (functions l.farm.problem))
