use Rattle.toml.specs.View.{table_view}
use Rattle.settings_command.proofs.Refused.{told_of_text, told_of_tree}
use Rattle.settings_command.proofs.settings.settings_text.Goals as goal

pub returns-in-Ok : goal.returns-in-Ok
returns-in-Ok g c = record {
  tells = told_of_tree c.args.settings_text.now (table_view c.in-Ok.file.tree) _ _ _ c.in-Ok.ensures.ok c.explain.ensures;
}

pub returns-in-Err : goal.returns-in-Err
returns-in-Err g c = record {
  tells = told_of_text c.args.settings_text.now c.in-Err.fault _ _ _ c.in-Err.ensures.refused c.locate.ensures;
}
