use Rattle.std.proofs.Common.{ap, arith, ◌∙◌}
use Rattle.pool_settings.specs.Settings.{Settings}
use Rattle.pool_settings.specs.Slots.{slots}
use Rattle.pool_core.specs.Book.{Book}
use Rattle.tests_pool_supervisor.proofs.booked.make.Goals as goal

-- the board has a place for each slot of the settings, which are the pool's
pub invariant_of-result-clause-room : goal.invariant_of-result-clause-room
invariant_of-result-clause-room c =
    let same = ap (λ (b : Book). slots b.settings) c.in_ok-pool.ensures ∙ ap (λ (s : Settings). slots s) c.in_ok-copy.ensures.equal in
    omega (arith, same, c.slots.ensures.all, c.in-Ok.ensures.slots)
