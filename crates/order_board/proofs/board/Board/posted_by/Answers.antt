use Rattle.std.proofs.Common.{sym, ap, ◌∙◌, arith}
use Rattle.order_board.proofs.Steps.{looks_at}
use Rattle.order_board.proofs.board.Board.posted_by.Goals as goal

pub load-word-requires : goal.load-word-requires
load-word-requires c =
    let board = ap (λ v. v.board) c.publisher.view_is ∙ c.requires.own ∙ sym (ap (λ v. v.id) c.self.view_is) in
    let slots = ap (λ v. v.slots) c.self.view_is in
    let i = c.self.invariant in
    let key = i.0 in let fits = i.1 in let within = c.requires.slot in
    (board, omega arith, looks_at _ _ _ _ _ _ c.publisher.invariant (omega arith))
