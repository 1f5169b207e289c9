use Rattle.std.proofs.Common.{◌≡◌}
use Rattle.order_board.proofs.tests.follow.Given as goal

abbrev pub invariant-loop-turn : goal.invariant-loop-turn
invariant-loop-turn l = l.reader.board ≡ l.board.id
