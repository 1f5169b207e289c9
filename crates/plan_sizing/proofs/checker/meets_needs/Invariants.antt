use Rattle.std.proofs.Common.{◌≡◌, true, nat_le, take}
use Rattle.std.specs.List.{list_all}
use Rattle.plan_model.specs.Planning.{assigned, functions, workers_on}
use Rattle.plan_sizing.specs.Sizing.{grown, need}
use Rattle.plan_sizing.proofs.checker.meets_needs.Given as goal

-- each function so far has what it needs
abbrev pub invariant-loop-number : goal.invariant-loop-number
invariant-loop-number l =
    list_all (λ f. nat_le (need l.farm f) (workers_on (grown l.farm l.added) (assigned l.plan) f)) (take l.number (functions l.farm.problem)) ≡ true
