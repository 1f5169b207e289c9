-- A text cut into its lines.
use Rattle.std.proofs.Common.{◌≡◌, ◌∙◌, ◌<◌, ℕ, List, [], ◌∷◌, length, ap, sym, arith}
use Rattle.std.specs.List.{slice_split}
use Rattle.text_pieces.specs.Lines.{is_line_feed}
use Rattle.text_pieces.proofs.Lines.{first_part}
use Rattle.pool_replay.specs.Transcript.{lines_of, lines_of_parts}

-- the line before the first line feed
pub line_before : (text line rest : List ℕ) → slice_split is_line_feed text ≡ line ∷ slice_split is_line_feed rest → lines_of text ≡ line ∷ lines_of rest
line_before text line rest parts =
    let after = first_part rest in
    ap lines_of_parts (parts ∙ ap (λ ps. line ∷ ps) after.2) ∙ ap (λ ps. line ∷ lines_of_parts ps) (sym after.2)

-- the last line, without a line feed
pub last_one : (text : List ℕ) → 0 < length text → slice_split is_line_feed text ≡ text ∷ [] → lines_of text ≡ text ∷ []
last_one [] some parts = absurd (omega arith)
last_one (b ∷ text) some parts = ap lines_of_parts parts
