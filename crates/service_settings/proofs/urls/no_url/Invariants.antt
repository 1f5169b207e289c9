use Rattle.std.proofs.Common.{◌≡◌, drop}
use Rattle.std.specs.List.{find}
use Rattle.toml.specs.View.{table_view}
use Rattle.service_settings.specs.Reading.{has_no_url}
use Rattle.service_settings.proofs.urls.no_url.Given as goal

-- what is left decides
abbrev pub invariant-loop-number : goal.invariant-loop-number
invariant-loop-number l =
    find (has_no_url (table_view l.tree)) (drop l.number l.settings.machines) ≡ find (has_no_url (table_view l.tree)) l.settings.machines
