-- How many of a few added workers are on a machine.
use Rattle.std.proofs.Common.{ℕ, ◌<◌, ◌≤◌, ◌^◌, List, eqb, length, arith}
use Rattle.std.proofs.lemmas.List.Sums.{count_by-le-length}
use Rattle.size_report.specs.Text.{added_on}

pub few_on : (added : List ℕ) (machine : ℕ) → length added ≤ 4096 → added_on added machine < 2 ^ 32
few_on added machine few = omega (arith, few, count_by-le-length (λ other. eqb other machine) added)
