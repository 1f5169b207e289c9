use Rattle.std.proofs.Common.{ap, ◌∙◌}
use Rattle.pool_core.specs.Machine.{open_ticket, standing_in}
use Rattle.pool_core.specs.Book.{Book}
use Rattle.pool_core.specs.View.{state_of}
use Rattle.pool_core.proofs.Calls.{held_kept}
use Rattle.pool_core.proofs.pool.Pool.held_standing.Goals as goal

pub returns : goal.returns
returns c =
    let p = c.self.inside in
    c.standing_of.ensures
    ∙ held_kept p.settings (state_of p) p.standings.forgotten c.self.invariant.0.sound c.self.invariant.0.prefix c.args.worker.now c.args.ticket
    (ap (λ (b : Book). open_ticket b.state c.args.worker.now) c.self.view_is ∙ c.requires)
    ∙ ap (λ (b : Book). standing_in b.state.standings c.args.ticket) c.self.view_is
