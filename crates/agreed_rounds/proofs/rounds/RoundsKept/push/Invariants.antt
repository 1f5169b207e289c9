use Rattle.agreed_rounds.proofs.rounds.RoundsKept.push.Given as goal

abbrev pub ghosts-add : goal.ghosts-add
ghosts-add g a = record { ran = a.ran.now }
