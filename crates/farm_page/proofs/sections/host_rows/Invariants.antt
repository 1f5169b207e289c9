use Rattle.std.proofs.Common.{◌≡◌, ◌++◌, drop}
use Rattle.farm_page.specs.Sections.{host_rows}
use Rattle.farm_page.proofs.sections.host_rows.Given as goal

-- what is written, and what is left to write
abbrev pub invariant-loop-host : goal.invariant-loop-host
invariant-loop-host l = l.out ++ host_rows (drop l.host-index l.hosts) ≡ host_rows l.hosts
