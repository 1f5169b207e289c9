use Rattle.std.proofs.Common.{◌≡◌, ◌++◌, drop}
use Rattle.farm_page.specs.Rows.{failure_rows}
use Rattle.farm_page.proofs.sections.failure_rows.Given as goal

-- what is written, and what is left to write
abbrev pub invariant-loop-failure : goal.invariant-loop-failure
invariant-loop-failure l = l.out ++ failure_rows (drop l.failure-index l.failures) ≡ failure_rows l.failures
