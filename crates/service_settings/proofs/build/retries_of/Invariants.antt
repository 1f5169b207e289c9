use Rattle.std.proofs.Common.{◌≡◌, map, take}
use Rattle.toml.specs.View.{table_view}
use Rattle.service_settings.specs.Reading.{retries_for}
use Rattle.service_settings.proofs.build.retries_of.Given as goal

-- those of the functions so far
abbrev pub invariant-loop-number : goal.invariant-loop-number
invariant-loop-number l = l.retries.items ≡ map (retries_for (table_view l.tree)) (take l.number l.settings.functions)
