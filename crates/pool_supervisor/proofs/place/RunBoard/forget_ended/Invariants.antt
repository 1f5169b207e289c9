use Rattle.std.specs.Prelude.{◌≡◌, ◌+◌}
use Rattle.pool_core.specs.Book.{Book}
use Rattle.pool_supervisor.proofs.place.RunBoard.forget_ended.Given as goal

abbrev pub invariant-loop-number : goal.invariant-loop-number
invariant-loop-number g l = let start : Book = l.initial.held in l.held ≡ record start { forgotten = start.forgotten + l._number }
