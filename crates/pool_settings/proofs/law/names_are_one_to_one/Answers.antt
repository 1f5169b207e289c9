use Rattle.pool_settings.proofs.OneToOne.{names_paired, slots_paired}
use Rattle.pool_settings.proofs.law.names_are_one_to_one.Goals as goal

pub returns : goal.returns
returns c =
    let p = c.args.settings.now in
    let valid = c.functions-functions.ensures.valid in
    record {
      functions = names_paired p.functions valid.functions_rise;
      machines = names_paired p.machines valid.machines_rise;
      slots = slots_paired p valid;
    }
