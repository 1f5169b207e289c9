use Rattle.std.proofs.Common.{◌≡◌, true, take}
use Rattle.std.specs.List.{list_all}
use Rattle.plan_model.specs.Planning.{may_have, assigned}
use Rattle.plan_sizing.specs.Sizing.{grown}
use Rattle.plan_sizing.proofs.checker.is_permitted.Given as goal

-- each worker so far may do what it has
abbrev pub invariant-loop-place : goal.invariant-loop-place
invariant-loop-place l =
    list_all (λ worker. may_have (grown l.farm l.added) worker.1 (assigned l.plan worker.0)) (take l.place (grown l.farm l.added).live) ≡ true
