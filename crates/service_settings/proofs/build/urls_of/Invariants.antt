use Rattle.std.proofs.Common.{◌≡◌, ◌++◌, drop}
use Rattle.std.specs.List.{filter_map}
use Rattle.toml.specs.View.{table_view}
use Rattle.service_settings.specs.Reading.{url_for}
use Rattle.service_settings.proofs.build.urls_of.Given as goal

-- what is done, and what is left
abbrev pub invariant-loop-number : goal.invariant-loop-number
invariant-loop-number l =
    l.urls.items ++ filter_map (url_for (table_view l.tree)) (drop l.number l.settings.machines)
    ≡ filter_map (url_for (table_view l.tree)) l.settings.machines
