use Rattle.pool_settings.proofs.WorkerNames.{named}
use Rattle.pool_settings.proofs.settings.Settings.worker_number.Goals as goal

pub returns-clause-named : goal.returns-clause-named
returns-clause-named c = named c.args.self.now c.machine_of.ensures.valid c.args.slot c.requires
