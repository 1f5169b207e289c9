-- The farm that settings and a planning problem of theirs make.
use Rattle.std.specs.Prelude.{ℕ, Option}
use Rattle.toml.specs.Data.{Members}
use Rattle.live_size.specs.Farms.{unbounded_in, farm_of as farm_of_problem}
use Rattle.plan_commands.specs.declared.problem.Problem.{Problem}
use Rattle.plan_sizing.specs.Sizing.{Farm}

-- The farm of a problem, by the tree of its settings file: a greatest number that the file leaves out grows with the farm.
abbrev pub farm_of : Members → Problem → Option ℕ → Farm
farm_of tree p level = farm_of_problem p.settings (unbounded_in tree p.settings) p.input level
