use Rattle.std.proofs.Common.{◌≡◌, ◌++◌, drop}
use Rattle.farm_page.specs.Sections.{end_rows}
use Rattle.farm_page.proofs.sections.end_rows.Given as goal

-- what is written, and what is left to write
abbrev pub invariant-loop-end : goal.invariant-loop-end
invariant-loop-end l = l.out ++ end_rows (drop l.end-index l.ends) ≡ end_rows l.ends
