use Rattle.std.proofs.Common.{sym, ◌∙◌}
use Rattle.toml.specs.View.{table_view}
use Rattle.pool_settings.proofs.Trees.{memory_refused}
use Rattle.pool_settings.proofs.settings.Settings.read.Goals as goal

pub returns-clause-memory : goal.returns-clause-memory
returns-clause-memory c memory =
    memory_refused c.args.settings_text.now (table_view c.in-Ok.file.tree) c.in-Err-settings.fault c.in-Ok.ensures.ok
    c.in-Err-settings.ensures.refused (sym c.error-in-Err-settings.ensures ∙ memory)
