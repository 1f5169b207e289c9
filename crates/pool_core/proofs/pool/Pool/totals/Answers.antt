use Rattle.std.proofs.Common.{◌≡◌, ◌-◌, length, ap, ◌∙◌, arith}
use Rattle.std.specs.Prelude.{count_by}
use Rattle.worker_state.specs.Slots.{is_open}
use Rattle.pool_core.specs.Book.{totals_of}
use Rattle.pool_core.proofs.Sums.{counts_all}
use Rattle.pool_core.proofs.pool.Pool.totals.Goals as goal

pub overflow_sub-result-2 : goal.overflow_sub-result-2
overflow_sub-result-2 c =
    let p = c.self.inside in
    omega (arith, counts_all p.standings.items, c.self.invariant.0.reported_is, c.self.invariant.0.lost_is, c.len-grabbed.ensures)

pub returns-clause-exact : goal.returns-clause-exact
returns-clause-exact c =
    let p = c.self.inside in
    let grabbed : c.len-grabbed.result ≡ length p.standings.items = c.len-grabbed.ensures in
    let running : c.len-grabbed.result - p.reported - p.lost ≡ count_by is_open p.standings.items = omega (arith, grabbed, counts_all p.standings.items, c.self.invariant.0.reported_is, c.self.invariant.0.lost_is) in
    let events : c.len.result ≡ length p.events.items = c.len.ensures ∙ p.events.ok.0 in
    rw (running, grabbed, events, c.self.invariant.0.reported_is, c.self.invariant.0.lost_is) (ap totals_of c.self.view_is)

pub returns-clause-within : goal.returns-clause-within
returns-clause-within c =
    let p = c.self.inside in
    omega (arith, counts_all p.standings.items, c.self.invariant.0.reported_is, c.len-grabbed.ensures)
