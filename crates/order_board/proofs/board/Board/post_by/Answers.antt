use Rattle.std.proofs.Common.{sym, ap, ◌∙◌, arith}
use Rattle.order_board.proofs.Steps.{stores_at}
use Rattle.order_board.proofs.board.Board.post_by.Goals as goal

pub store-requires : goal.store-requires
store-requires c =
    let board = ap (λ v. v.board) c.publisher.view_is ∙ c.requires.own ∙ sym (ap (λ v. v.id) c.self.view_is) in
    let slots = ap (λ v. v.slots) c.self.view_is in
    let i = c.self.invariant in
    let key = i.0 in let fits = i.1 in let within = c.requires.slot in
    (board, omega arith, stores_at _ _ _ _ _ _ c.args.order _ c.publisher.invariant c.to_word.ensures.word (omega arith) c.to_word.ensures.ranges c.to_word.ensures.alone)
