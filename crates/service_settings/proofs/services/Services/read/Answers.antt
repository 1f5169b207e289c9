use Rattle.std.proofs.Common.{sym, ◌∙◌}
use Rattle.toml.specs.View.{table_view}
use Rattle.service_settings.proofs.Blank.{memory_refused}
use Rattle.service_settings.proofs.services.Services.read.Goals as goal

pub returns-clause-memory : goal.returns-clause-memory
returns-clause-memory c memory =
    memory_refused c.args.settings.now c.args.text.now (table_view c.in-Ok.file.tree) c.in-Err-services.fault c.in-Ok.ensures.ok
    c.in-Err-services.ensures.refused (sym c.error-in-Err-services.ensures ∙ memory)
