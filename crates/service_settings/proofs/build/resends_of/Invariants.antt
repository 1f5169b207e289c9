use Rattle.std.proofs.Common.{◌≡◌, map, take}
use Rattle.toml.specs.View.{table_view}
use Rattle.service_settings.specs.Reading.{resend_for}
use Rattle.service_settings.proofs.build.resends_of.Given as goal

-- those of the functions so far
abbrev pub invariant-loop-number : goal.invariant-loop-number
invariant-loop-number l = l.resends.items ≡ map (resend_for (table_view l.tree)) (take l.number l.settings.functions)
