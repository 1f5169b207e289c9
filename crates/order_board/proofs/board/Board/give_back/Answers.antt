use Rattle.std.proofs.Common.{sym, ap, ◌∙◌}
use Rattle.order_board.proofs.Steps.{retires}
use Rattle.order_board.proofs.board.Board.give_back.Goals as goal

pub join_seat-requires : goal.join_seat-requires
join_seat-requires c =
    let board = ap (λ v. v.board) c.source.view_is ∙ c.requires.source ∙ sym (ap (λ v. v.id) c.self.view_is) in
    let theirs = ap (λ v. v.board) c.reader.view_is ∙ c.requires.reader ∙ sym (ap (λ v. v.id) c.self.view_is) in
    (board, theirs, ap (λ m. m.1) c.reader.invariant.0, c.self.invariant.2, retires _ _ _ _ _)
