use Rattle.std.proofs.Common.{◌≡◌, ◌*◌, ◌≤◌, ◌^◌, sum, take}
use Rattle.farm_notes.proofs.found.sum_of.Given as goal

-- the sum of those so far
abbrev pub invariant-loop-count : goal.invariant-loop-count
invariant-loop-count l = (l.jobs ≡ sum (take l.count-index l.waiting)) × (l.jobs ≤ l.count-index * 2 ^ 32)
