use Rattle.std.proofs.Common.{rules}
use Rattle.order_board.proofs.Steps.{opens}
use Rattle.order_board.proofs.board.Board.new.Goals as goal

pub split_seat-source-requires : goal.split_seat-source-requires
split_seat-source-requires c =
    let t = c.in-Ok.ensures.table in
    let s = c.in-Ok.ensures.seat in
    (s.0, search rules, opens _ _ _)
