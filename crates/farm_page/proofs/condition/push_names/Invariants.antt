use Rattle.std.proofs.Common.{◌≡◌, ◌++◌, drop, string_bytes}
use Rattle.farm_page.specs.Condition.{names}
use Rattle.farm_page.proofs.condition.push_names.Given as goal

-- what is written, and what is left to write
abbrev pub invariant-loop-function : goal.invariant-loop-function
invariant-loop-function l =
    string_bytes l.out ++ names (drop l.function-index l.functions) ≡ string_bytes l.fn.out ++ names l.functions
