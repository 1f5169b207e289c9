use Rattle.std.proofs.Common.{rules, refl, arith, ◌<◌, ◌^◌, length}
use Rattle.pool_settings.specs.Slots.{machine_of}
use Rattle.pool_settings.proofs.SlotSums.{machine_found}
use Rattle.job_runner.proofs.Names.{worker_accepted}
use Rattle.job_runner.proofs.session.encode_worker.Goals as goal

pub returns-clause-accepted : goal.returns-clause-accepted
returns-clause-accepted c =
    let settings = c.args.worker.now.place.settings.now in
    let worker = c.args.worker.now.pass.now in
    let valid = c.worker_text.ensures.valid in
    let at = machine_found settings worker.slot (machine_of settings worker.slot) valid c.requires.slot refl in
    let there : machine_of settings worker.slot < length settings.machines = omega (arith, at.there, valid.workers_paired) in
    let small : worker.generation < 2 ^ 32 = search rules in
    worker_accepted settings worker valid c.requires.slot there small
