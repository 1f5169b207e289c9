use Rattle.std.proofs.Common.{◌≡◌, true, nat_le, slice_index, take}
use Rattle.std.specs.List.{list_all}
use Rattle.plan_model.specs.Planning.{assigned, functions, workers_on}
use Rattle.plan_sizing.specs.Sizing.{grown}
use Rattle.plan_sizing.proofs.checker.meets_most.Given as goal

-- no function so far has more workers than its greatest number
abbrev pub invariant-loop-number : goal.invariant-loop-number
invariant-loop-number l =
    list_all (λ f. nat_le (workers_on (grown l.farm l.added) (assigned l.plan) f) (slice_index l.farm.problem.most f)) (take l.number (functions l.farm.problem)) ≡ true
