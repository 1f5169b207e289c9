use Rattle.std.proofs.Common.{◌≡◌, nat_le, slice_index, max, fold, take}
use Rattle.std.specs.List.{list_all}
use Rattle.plan_model.specs.Planning.{functions, cost, counted_waiting, workers_on, assigned}
use Rattle.plan_model.proofs.checker.outcome_of.Given as goal

-- what the functions so far are given
abbrev pub invariant-loop-number : goal.invariant-loop-number
invariant-loop-number l = (l.meets_least ≡ list_all (λ f. nat_le (slice_index l.input.least f) (workers_on l.input (assigned l.plan) f)) (take l.number (functions l.input))) × (l.meets_most ≡ list_all (λ f. nat_le (workers_on l.input (assigned l.plan) f) (slice_index l.input.most f)) (take l.number (functions l.input))) × (l.backlog ≡ fold (λ worst f. max worst (cost (counted_waiting l.input f) (workers_on l.input (assigned l.plan) f))) 0 (take l.number (functions l.input)))
