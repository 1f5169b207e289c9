use Rattle.std.proofs.Common.{ℕ, [], sym, ap, ◌∙◌, arith}
use Rattle.order_board.specs.Rule.{reader, seen_in}
use Rattle.order_board.proofs.Steps.{reads_at}
use Rattle.order_board.proofs.board.Board.read_by.Goals as goal

pub load-word-requires : goal.load-word-requires
load-word-requires c =
    let s = c.reader.inside in
    let board = ap (λ v. v.board) c.reader.view_is ∙ c.requires.own ∙ sym (ap (λ v. v.id) c.self.view_is) in
    let words = ap (λ t. t.words) board in
    let me = c.reader.invariant.0 ∙ ap (λ (n : ℕ). (reader n (seen_in s.seat.me.0), [])) (sym c.number.ensures) in
    let key = c.self.invariant.0 in
    let within = c.reader.invariant.1 in
    (board, omega (arith, within, words, c.number.ensures), reads_at _ _ _ _ _ _ me (omega (arith, within, words, key, c.number.ensures)))
