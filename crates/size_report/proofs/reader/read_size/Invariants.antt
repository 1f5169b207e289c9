use Rattle.std.proofs.Common.{◌≡◌, ◌+◌, ◌≤◌, length}
use Rattle.std.specs.List.{slice_split}
use Rattle.size_report.specs.Reading.{meaning_from, size_meaning}
use Rattle.text_pieces.specs.Lines.{is_line_feed}
use Rattle.size_report.proofs.reader.read_size.Given as goal

-- the lines that are left tell what the text tells
abbrev pub invariant-loop-line : goal.invariant-loop-line
invariant-loop-line l = record {
  left : meaning_from l.settings l.number l.draft (slice_split is_line_feed l.rest) ≡ size_meaning l.settings l.text;
  within : l.number + length l.rest ≤ length l.text + 1;
}

abbrev pub decreases-loop-line : goal.decreases-loop-line
decreases-loop-line l = length l.rest
