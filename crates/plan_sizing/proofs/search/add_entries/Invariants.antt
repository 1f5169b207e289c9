use Rattle.std.proofs.Common.{◌≡◌, ◌+◌, ◌++◌, drop}
use Rattle.plan_sizing.specs.Hiring.{hired_entries}
use Rattle.plan_sizing.proofs.search.add_entries.Given as goal

abbrev pub invariant-loop-function : goal.invariant-loop-function
invariant-loop-function l = record {
  done : l.entries.items ++ hired_entries l.slot (drop l.function-index l.hires) ≡ l.fn.entries.items ++ hired_entries l.first l.hires;
  slot : l.slot ≡ l.first + l.function-index;
}
