use Rattle.agreed_history.specs.Agreed.{no_worker}
use Rattle.agreed_history.proofs.history.HistoryKept.add.Given as goal

abbrev pub ghosts-add_own : goal.ghosts-add_own
ghosts-add_own g a = record { event = a.event.now; who = no_worker }
