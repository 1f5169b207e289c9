use Rattle.std.proofs.Common.{ap, ◌∙◌, sym, arith}
use Rattle.pool_core.specs.Book.{Book, begin_refusal}
use Rattle.pool_core.specs.View.{state_of}
use Rattle.pool_core.proofs.Calls.{kept_begin, owes_begin, begin_later}
use Rattle.pool_core.proofs.pool.Pool.begin_report.Goals as goal

pub invariant_of-self : goal.invariant_of-self
invariant_of-self c =
    let p = c.self.inside in (
      rw c.put_standing.ensures.forgotten (kept_begin p.settings p.chapters p.standings.forgotten p.events.items (state_of p) p.owed p.reported p.lost _ c.self.invariant.0
          c.name-worker.result c.args.ticket
          (ap (λ (b : Book). begin_refusal b c.name-worker.result c.args.ticket) c.self.view_is ∙ (sym c.begin_refusal.ensures ∙ c.in_default.is))
          c.push_reserved.new.self.items c.push_reserved.ensures.items
          c.put_standing.new.standings.items c.put_standing.ensures.items
          _ c.push_reserved.ensures.capacity),
      c.self.invariant.1 ∙ sym c.put_standing.ensures.forgotten,
    )

pub push_reserved-requires : goal.push_reserved-requires
push_reserved-requires c =
    let p = c.self.inside in
    let owed = owes_begin p.settings p.chapters p.standings.forgotten p.events.items (state_of p) p.owed p.reported p.lost _ c.self.invariant.0 c.name-worker.result c.args.ticket
    (ap (λ (b : Book). begin_refusal b c.name-worker.result c.args.ticket) c.self.view_is ∙ (sym c.begin_refusal.ensures ∙ c.in_default.is)) in
    omega (arith, owed, c.self.invariant.0.reserved, p.events.ok.0)

pub put_standing-requires-clause-kept : goal.put_standing-requires-clause-kept
put_standing-requires-clause-kept c =
    let p = c.self.inside in
    begin_later p.settings p.chapters p.standings.forgotten p.events.items (state_of p) p.owed p.reported p.lost _ c.self.invariant.0 c.name-worker.result c.args.ticket
    (ap (λ (b : Book). begin_refusal b c.name-worker.result c.args.ticket) c.self.view_is ∙ (sym c.begin_refusal.ensures ∙ c.in_default.is))
