use Rattle.std.proofs.Common.{sym, ap, ◌∙◌}
use Rattle.order_board.proofs.Steps.{seats}
use Rattle.order_board.proofs.board.Board.seat_reader_at.Goals as goal

pub split_seat-new-requires : goal.split_seat-new-requires
split_seat-new-requires g c =
    let board = ap (λ v. v.board) c.source.view_is ∙ c.requires.own ∙ sym (ap (λ v. v.id) c.self.view_is) in
    let some = c.self.invariant.2 in
    (board, some, seats _ _ _ _)
