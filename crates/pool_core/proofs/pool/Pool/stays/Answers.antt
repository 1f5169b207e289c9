use Rattle.std.proofs.Common.{◌≡◌, ◌<◌, arith}
use Rattle.worker_state.specs.Slots.{run_count}
use Rattle.pool_core.specs.Machine.{slot_in}
use Rattle.pool_core.proofs.pool.Pool.stays.Goals as goal

pub overflow_add-result : goal.overflow_add-result
overflow_add-result c =
    let p = c.self.inside in
    let runs : c.run_count-runs.result ≡ run_count (slot_in p.slots.items c.args.worker.now.slot) = cc in
    let few : run_count (slot_in p.slots.items c.args.worker.now.slot) < p.settings.max_runs = c.self.invariant.0.sound.runs c.args.worker.now.slot in
    omega (arith, runs, few, c.max_runs-max_runs.ensures.all, c.max_runs-max_runs.type_inv)
