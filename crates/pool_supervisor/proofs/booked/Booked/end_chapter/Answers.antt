use Rattle.std.proofs.Common.{◌∙◌, sym}
use Rattle.pool_supervisor.proofs.Counts.{chapter_rounds, chapter_totals}
use Rattle.pool_supervisor.proofs.booked.Booked.end_chapter.Goals as goal

pub invariant_of-self : goal.invariant_of-self
invariant_of-self g c =
    let h = c.end_chapter.ensures in
    let t = chapter_totals c.self.inside.pool c.end_chapter.new.self c.end_chapter.result h.2 h.3 in (
      c.self.invariant.0 ∙ sym t.0,
      c.self.invariant.1 ∙ sym t.1,
      t.2 ∙ c.self.invariant.2,
      chapter_rounds c.self.inside.pool c.end_chapter.new.self c.self.inside.rounds c.end_chapter.result h.2 h.3 c.self.invariant.3,
    )
