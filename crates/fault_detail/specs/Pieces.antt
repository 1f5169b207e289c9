-- The line of a fault, in pieces.
use Rattle.std.specs.Prelude.{ℕ, List, [], ◌++◌, codes, Option, None, Some}
use Rattle.std.specs.Fmt.{decimal}
use Rattle.refusal.specs.Label.{Label, label_words}
use Rattle.fault_detail.specs.declared.pieces.Count.{Count}
use Rattle.fault_detail.specs.declared.pieces.Count.TheVariants as count
use Rattle.fault_detail.specs.declared.pieces.Pieces.{Pieces}

abbrev pub label_text : Option Label → List ℕ
label_text (Some label) = label_words label
label_text None = []

-- the number at the end, after the word for what it is
abbrev pub count_text : Option Count → List ℕ
count_text (Some (count.Line line)) = codes " line " ++ decimal line
count_text (Some (count.Status status)) = codes " status " ++ decimal status
count_text None = []

-- the pieces, one after the other
abbrev pub pieces_text : Pieces → List ℕ
pieces_text pieces = pieces.words.now ++ label_text pieces.label ++ count_text pieces.count
