use Rattle.pool_supervisor.proofs.asking.ask.Given as goal

-- what the link has taken when it is listened to
abbrev pub ghosts-listen : goal.ghosts-listen
ghosts-listen g a = record { sent = g.L.Device.output a.link }
