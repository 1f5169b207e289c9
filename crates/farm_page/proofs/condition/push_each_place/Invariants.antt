use Rattle.std.proofs.Common.{◌≡◌, ◌++◌, drop, string_bytes}
use Rattle.farm_page.specs.Condition.{each_place}
use Rattle.farm_page.proofs.condition.push_each_place.Given as goal

-- what is written, and what is left to write
abbrev pub invariant-loop-host : goal.invariant-loop-host
invariant-loop-host l =
    string_bytes l.out ++ each_place (drop l.host-index l.hosts) ≡ string_bytes l.fn.out ++ each_place l.hosts
