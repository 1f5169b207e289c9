use Rattle.pool_core.proofs.Lasting.{events_count_lem}
use Rattle.pool_core.proofs.laws.events_count.Goals as goal

pub returns : goal.returns
returns c =
    let h = c.history-events.ensures in
    events_count_lem c.args.pool.now h.settings h.replays
