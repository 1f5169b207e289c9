use Rattle.std.proofs.Common.{◌≡◌, ◌++◌, drop}
use Rattle.farm_page.specs.Sections.{function_rows}
use Rattle.farm_page.proofs.sections.function_rows.Given as goal

-- what is written, and what is left to write
abbrev pub invariant-loop-function : goal.invariant-loop-function
invariant-loop-function l = l.out ++ function_rows l.share l.all (drop l.function-index l.functions) ≡ function_rows l.share l.all l.functions
