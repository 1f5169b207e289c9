use Rattle.std.proofs.Common.{List, rules, sym, subst, ◌∙◌}
use Rattle.pool_core.specs.declared.answer.Ran.{Ran}
use Rattle.pool_supervisor.specs.Counted.{CameTo}
use Rattle.pool_supervisor.proofs.Counts.{no_rounds_yet}
use Rattle.pool_supervisor.proofs.booked.Booked.new.Goals as goal

-- nothing was grabbed, and no round was made
pub invariant_of-booked : goal.invariant_of-booked
invariant_of-booked g c = (
  c.open-grab_book.ensures.total ∙ sym c.requires.pool.0,
  search rules,
  c.requires.settings,
  subst (λ (l : List Ran). CameTo c.args.pool l) (sym c.named-kept.ensures.kept)
      (no_rounds_yet c.args.pool c.history-events.ensures.replays c.histories_join.ensures c.requires.pool.1),
)
