use Rattle.agreed_history.specs.Agreed.{no_worker}
use Rattle.agreed_history.proofs.history.HistoryKept.note.Given as goal

abbrev pub ghosts-add_other : goal.ghosts-add_other
ghosts-add_other g a = record { event = a.event.now; who = no_worker }
