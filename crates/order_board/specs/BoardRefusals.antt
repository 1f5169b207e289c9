-- The number and the name of each refusal of a board.
use Rattle.std.specs.Prelude.{codes}
use Rattle.refusal.specs.Label.{Label, label}
use Rattle.order_board.specs.declared.board.BoardError.{BoardError}
use Rattle.order_board.specs.declared.board.BoardError.TheVariants as refused

abbrev pub board_label : BoardError → Label
board_label refused.TooMany = label 1 (codes "TooMany")
board_label refused.Memory = label 2 (codes "Memory")
