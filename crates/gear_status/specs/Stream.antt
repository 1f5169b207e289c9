-- A status text that has come in part.
use Rattle.std.specs.Prelude.{ℕ, ◌≡◌, ◌+◌, ◌-◌, ◌*◌, ◌≤◌, List, ◌++◌, take, Bool, true, false, not, length, Option, Some, None, Result}
use Rattle.std.specs.Prelude.{Ok, Err}
use Rattle.std.specs.List.{list_all, slice_split}
use Rattle.byte_io.specs.Sides.{GaveUp, Met, Undisturbed}
use Rattle.gear_status.specs.Status.{Line, meaning_from, status}
use Rattle.text_pieces.specs.Lines.{is_line_feed}
use Rattle.gear_status.specs.declared.error.StatusError.{StatusError}
use Rattle.gear_status.specs.declared.error.StatusError.TheVariants as fault

-- the number of the line that is coming, its bytes so far, and the lines before it
pub record Part : Type 0 where
  pub number : ℕ
  pub line : List ℕ
  pub load : List Line

-- what the whole text means, if these are the bytes still to come
abbrev pub meaning_with : Part → List ℕ → Result (List Line) StatusError
meaning_with p rest = meaning_from p.number (slice_split is_line_feed (p.line ++ rest)) p.load

abbrev pub has_no_line_feed : List ℕ → Bool
has_no_line_feed line = list_all (λ b. not (is_line_feed b)) line

-- a line that is not too long and has no line feed, with a number up to 65,537
pub record IsPart (p : Part) : Type 0 where
  pub open_line : has_no_line_feed p.line ≡ true
  pub short : length p.line ≤ 4096
  pub few : p.number ≤ 65537

-- how many bytes there may still be
abbrev pub room : Part → ℕ
room p = (65537 - p.number) * 4097 + (4097 - length p.line)

-- The bytes end the text, or lead from one part to another. Each takes up some of the room.
abbrev pub LeadsTo : Part → List ℕ → Part → Bool → Type 0
LeadsTo old bytes new true = (rest : List ℕ) → meaning_with old (bytes ++ rest) ≡ Ok new.load
LeadsTo old bytes new false =
    ((rest : List ℕ) → meaning_with old (bytes ++ rest) ≡ meaning_with new rest) × (room new + length bytes ≤ room old)

-- a fault that bytes alone decide, or out of memory
abbrev pub is_verdict : StatusError → Bool
is_verdict fault.Truncated = false
is_verdict fault.ReadFault = false
is_verdict _ = true

-- The last piece has at most 4,096 bytes, nothing before it decides, and the last read did not find the end. Since any read may
-- fail or find the end, a call that promises this makes none after the piece: it does not read after the period line, or a fault.
abbrev pub EndsWithPiece : Met → Type 0
EndsWithPiece met =
    ((before : List ℕ) × (piece : List ℕ) × (met.bytes ≡ before ++ piece) × (status before ≡ Err fault.Truncated) × (length piece ≤ 4096))
    × (met.has_ended ≡ false)

-- What a call may answer that met this. Out of memory comes while a piece is taken in, and nothing before that piece decides.
abbrev pub AnswersStatus : Met → Result (List Line) StatusError → Type 0
AnswersStatus met (Ok load) = (status met.bytes ≡ Ok load) × EndsWithPiece met × Undisturbed met
AnswersStatus met (Err fault.Memory) = EndsWithPiece met × Undisturbed met
AnswersStatus met (Err fault.Truncated) =
    (status met.bytes ≡ Err fault.Truncated) × (met.has_ended ≡ true) × Undisturbed met
AnswersStatus met (Err fault.ReadFault) = (status met.bytes ≡ Err fault.Truncated) × GaveUp met
AnswersStatus met (Err f) = (status met.bytes ≡ Err f) × EndsWithPiece met × Undisturbed met

-- No text that is undecided is longer than this: 65,536 lines of 4,096 bytes with their line feeds, and one more line.
abbrev pub longest : ℕ
longest = 65537 * 4097

-- The same, of a call that takes so many bytes at most and one byte more to see whether the text goes on.
abbrev pub AnswersWithin : ℕ → Met → Result (Option (List Line)) StatusError → Type 0
AnswersWithin limit met (Ok (Some load)) = AnswersStatus met (Ok load) × (length met.bytes ≤ limit)
AnswersWithin limit met (Ok None) =
    (length met.bytes ≡ limit + 1) × (status (take limit met.bytes) ≡ Err fault.Truncated) × (limit ≤ longest) × Undisturbed met
AnswersWithin limit met (Err f) = AnswersStatus met (Err f) × (length met.bytes ≤ limit)
