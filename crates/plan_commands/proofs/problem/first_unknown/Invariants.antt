use Rattle.std.proofs.Common.{◌≡◌, map, take, true}
use Rattle.plan_commands.specs.Problem.{are_workers}
use Rattle.plan_commands.proofs.problem.first_unknown.Given as goal

-- the lost workers so far are workers
abbrev pub invariant-loop-place : goal.invariant-loop-place
invariant-loop-place l = are_workers l.settings (take l.place (map (λ w. w.now) l.lost)) ≡ true
