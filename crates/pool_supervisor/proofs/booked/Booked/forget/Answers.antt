use Rattle.std.proofs.Common.{◌∙◌, sym}
use Rattle.pool_supervisor.proofs.Counts.{forgotten_rounds, forgotten_totals}
use Rattle.pool_supervisor.proofs.booked.Booked.forget.Goals as goal

pub invariant_of-self : goal.invariant_of-self
invariant_of-self g c =
    let h = c.forget.ensures in
    let t = forgotten_totals c.self.inside.pool c.forget.new.self c.forget.result h.3 h.4 in (
      c.self.invariant.0 ∙ sym t.0,
      c.self.invariant.1 ∙ sym t.1,
      t.2 ∙ c.self.invariant.2,
      forgotten_rounds c.self.inside.pool c.forget.new.self c.self.inside.rounds c.forget.result h.3 h.4 c.self.invariant.3,
    )
