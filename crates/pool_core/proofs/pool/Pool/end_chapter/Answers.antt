use Rattle.std.proofs.Common.{◌≡◌, [], ap, arith}
use Rattle.std.specs.Prelude.{vec_capacity}
use Rattle.pool_core.specs.View.{state_of}
use Rattle.pool_core.proofs.Calls.{kept_chapter}
use Rattle.pool_core.proofs.pool.Pool.end_chapter.Goals as goal

pub invariant_of-self : goal.invariant_of-self
invariant_of-self c =
    let p = c.self.inside in
    let none : c.replace-events.new.dest.items ≡ [] = cc (c.replace-events.ensures.after, c.in_ok-reserve.ensures.items, c.new-fresh.ensures.items) in (
      kept_chapter p.settings p.chapters p.standings.forgotten p.events.items (state_of p) p.owed p.reported p.lost _ c.self.invariant.0
          c.replace-events.new.dest.items none
          _ (omega (arith, c.in_ok-reserve.ensures.ok, ap vec_capacity c.replace-events.ensures.after)),
      c.self.invariant.1,
    )
