use Rattle.std.proofs.Common.{ap, length, ◌∙◌}
use Rattle.toml.specs.View.{table_view}
use Rattle.service_settings.specs.Services.{Services}
use Rattle.service_settings.proofs.Machines.{all_have_urls}
use Rattle.service_settings.proofs.file.ServicesFile.services.Goals as goal

pub returns-clause-machines : goal.returns-clause-machines
returns-clause-machines c =
    ap (λ (s : Services). length s.urls) c.in_ok-services.ensures
    ∙ all_have_urls c.args.settings.now (table_view c.args.self.now.tree) c.in_ok-checked.ensures.urls
