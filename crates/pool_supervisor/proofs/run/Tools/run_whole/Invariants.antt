use Rattle.pool_supervisor.specs.Sessions.{HadJobs}
use Rattle.pool_supervisor.proofs.run.Tools.run_whole.Given as goal

abbrev pub ghosts-run : goal.ghosts-run
ghosts-run g a = record { board = a.made.board.id; settings = a.made.pool.settings; until = a.made.lines.until; allows = g.J.JobSource.allows a.lent.jobs.now; had_jobs = HadJobs g.J.Jobs.Jobs.tells g.J.Jobs.Jobs.fails g.J.Jobs.Jobs.prepares (g.J.JobSource.gives a.lent.jobs.now) (g.J.JobSource.denies a.lent.jobs.now); grabs = a.grabbed.name; reports = a.reported.name; rounds = a.made.rounds }
