use Rattle.std.specs.Prelude.{⊤}
use Rattle.pool_supervisor.specs.declared.attempts.Until.TheVariants.{Rounds}
use Rattle.pool_supervisor.specs.Tries.{all_slots}
use Rattle.tests_pool_supervisor.proofs.booked.book.Given as goal

-- the run is that of what was made
abbrev pub ghosts-serve : goal.ghosts-serve
ghosts-serve g a = record { board = a.made.board.id; settings = a.made.pool.settings; until = Rounds 1; allows = all_slots; had_jobs = λ _. ⊤; grabs = a.books.0.name; reports = a.books.1.name; rounds = a.made.rounds }
