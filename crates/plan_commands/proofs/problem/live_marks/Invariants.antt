use Rattle.std.proofs.Common.{◌≡◌, map, take}
use Rattle.plan_commands.specs.Problem.{live_marks}
use Rattle.plan_commands.proofs.problem.live_marks.Given as goal

-- the lost workers so far are marked
abbrev pub invariant-loop-name : goal.invariant-loop-name
invariant-loop-name l = l.marks.items ≡ live_marks l.settings (take l.name-index (map (λ w. w.now) l.lost))
