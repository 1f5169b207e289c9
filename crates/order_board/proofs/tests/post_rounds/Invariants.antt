use Rattle.std.proofs.Common.{◌≡◌}
use Rattle.order_board.proofs.tests.post_rounds.Given as goal

abbrev pub invariant-loop-round : goal.invariant-loop-round
invariant-loop-round l = (l.publisher.board ≡ l.board.id) × (l.board.slots ≡ 2)
