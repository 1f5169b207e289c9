use Rattle.std.proofs.Common.{List, sym, subst}
use Rattle.pool_core.specs.declared.answer.Ran.{Ran}
use Rattle.pool_core.specs.declared.answer.Totals.{Totals}
use Rattle.pool_core.specs.Book.{Book}
use Rattle.pool_supervisor.specs.Counted.{CountsItsEvents}
use Rattle.pool_supervisor.proofs.Counts.{counts_its_events}
use Rattle.pool_supervisor.proofs.booked.Booked.settle.Goals as goal

-- the rounds that were told are those that are kept
pub returns-clause-events : goal.returns-clause-events
returns-clause-events g c =
    let pool = c.self.inside.pool in
    let kept = c.self.inside.rounds in
    let counts = counts_its_events pool kept c.history-events.ensures.settings c.self.invariant.3 c.histories_count.ensures c.rounds_are_shown.ensures c.jobs_are_accounted_for.ensures in
    let of_totals = subst (λ (t : Totals). CountsItsEvents pool t kept) (sym c.audit.ensures.totals) counts in
    let of_rounds = subst (λ (l : List Ran). CountsItsEvents pool c.audit.result l) (sym c.reconcile.ensures.same) of_totals in
    subst (λ (b : Book). CountsItsEvents b c.audit.result c.args.told) c.self.view_is of_rounds
