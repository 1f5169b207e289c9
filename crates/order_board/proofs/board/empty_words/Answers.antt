use Rattle.std.proofs.Common.{ℕ, List, [], sym, ◌∙◌, subst}
use Rattle.atomic_table.specs.Table.{opening}
use Rattle.order_board.specs.declared.view.View.{View}
use Rattle.order_board.specs.Rule.{IsKept, publisher}
use Rattle.order_board.proofs.Steps.{begins}
use Rattle.order_board.proofs.board.empty_words.Goals as goal

pub of_words-requires : goal.of_words-requires
of_words-requires c =
    subst (λ (words : List ℕ). IsKept c.args.count (opening {S = Unit {0}} {V = View} words [] (publisher []))) (sym (c.as_slice.ensures.value ∙ c.in_ok-words.ensures)) (begins c.args.count)
