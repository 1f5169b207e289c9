use Rattle.std.proofs.Common.{inr}
use Rattle.std.proofs.lemmas.Result.{err_from_is_err_and}
use Rattle.toml.specs.View.{table_view}
use Rattle.settings_command.proofs.served.described.Goals as goal

pub returns-in_err-services_file-clause-refused : goal.returns-in_err-services_file-clause-refused
returns-in_err-services_file-clause-refused c =
    let p = err_from_is_err_and c.from_residual-in_err-services_file.result c.from_residual-in_err-services_file.ensures.1 in
    let settings = c.in_ok-settings in
    rw (p.1, p.2) (inr (settings.settings, settings.ensures.reads, c.in_err-services_file.ensures.refused settings.settings))

pub returns-clause-ok : goal.returns-clause-ok
returns-clause-ok c = (
  record {
    settings_tree = table_view c.in_ok-file.file.tree;
    settings = c.in_ok-settings.settings;
    services_tree = table_view c.in_ok-services_file.services_file.tree;
    services = c.in_ok-services.services;
  },
  record {
    settings_read = c.in_ok-file.ensures.ok;
    settings_meant = c.in_ok-settings.ensures.reads;
    services_read = c.in_ok-services_file.ensures.ok;
    services_meant = c.in_ok-services.ensures.reads _ c.in_ok-services_file.ensures.ok;
  },
  c.in_ok-text.ensures,
)
