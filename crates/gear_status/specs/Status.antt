-- The text that answers `status`: what a line means, and what the whole text means.
use Rattle.std.specs.Prelude.{ℕ, ◌+◌, ◌-◌, ◌^◌, List, [], ◌∷◌, Bool, ◌&&◌, nat_lt, ◌==◌, length, slice_index, take, Option, Some, None}
use Rattle.std.specs.Prelude.{Result, Ok, Err, if◌then◌else◌}
use Rattle.std.specs.List.{slice_split}
use Rattle.std.specs.Option.{option_and_then, option_map, option_map_or}
use Rattle.std.specs.Str.{bytes_eq}
use Rattle.text_pieces.specs.Cuts.{cut_last}
use Rattle.text_pieces.specs.Numbers.{number_below}
use Rattle.gear_status.specs.declared.load.Counts.{Counts}
use Rattle.gear_status.specs.declared.error.StatusError.{StatusError}
use Rattle.gear_status.specs.declared.error.StatusError.TheVariants as fault
use Rattle.text_pieces.specs.Lines.{is_line_feed}

-- a function's name with its counts
abbrev pub Line : Type 0
Line = List ℕ × Counts

-- ---- the load as a list of lines

-- a name that is there keeps its place, and a new one goes last
abbrev pub put : List Line → Line → List Line
put [] line = line ∷ []
put (first ∷ rest) line =
    if bytes_eq line.0 first.0 then (first.0, line.1) ∷ rest else first ∷ put rest line

abbrev pub counts_of : List Line → List ℕ → Option Counts
counts_of [] name = None
counts_of (first ∷ rest) name = if bytes_eq name first.0 then Some first.1 else counts_of rest name

-- total less running, 0 if running is greater or the name is not there
abbrev pub waiting : List Line → List ℕ → ℕ
waiting lines name = option_map_or (λ c. c.total - c.running) (counts_of lines name) 0

-- ---- one line

-- the number below 2 ^ 32 that one or more decimal digits write
abbrev pub number_in : List ℕ → Option ℕ
number_in digits = number_below (2 ^ 32) digits

-- the four fields of a line, from the left
pub record Fields : Type 0 where
  pub name : List ℕ
  pub total : List ℕ
  pub running : List ℕ
  pub workers : List ℕ

-- cut at the last three tabs
abbrev pub fields_of : List ℕ → Option Fields
fields_of line =
    option_map_or (λ last. option_map_or (λ middle. option_map_or (λ first.
    Some (record { name = first.0; total = first.1; running = middle.1; workers = last.1 }))
    (cut_last 9 middle.0) None) (cut_last 9 last.0) None) (cut_last 9 line) None

abbrev pub counts_in : Fields → Option Counts
counts_in f =
    option_and_then (λ total. option_and_then (λ running. option_map (λ workers.
    record { total = total; running = running; workers = workers })
    (number_in f.workers)) (number_in f.running)) (number_in f.total)

-- what line n says, or its fault
abbrev pub line_of_fields : ℕ → Fields → Result Line StatusError
line_of_fields n f = option_map_or (λ c. Ok (f.name, c)) (counts_in f) (Err (fault.BadNumber n))

abbrev pub line_meaning : ℕ → List ℕ → Result Line StatusError
line_meaning n line = option_map_or (line_of_fields n) (fields_of line) (Err (fault.BadLine n))

-- ---- the text

-- a line without the carriage return at its end
abbrev pub without_return : List ℕ → List ℕ
without_return line =
    if nat_lt 0 (length line) && slice_index line (length line - 1) == 13 then take (length line - 1) line else line

abbrev pub is_period : List ℕ → Bool
is_period line = bytes_eq (without_return line) (46 ∷ [])

abbrev pub is_too_long : List ℕ → Bool
is_too_long line = nat_lt 4096 (length line)

-- What to do at the end of line n, whose bytes before the line feed are given: the text ends
-- there, or the lines after it are read on.
abbrev pub with_line : Result Line StatusError → List Line → (List Line → Result (List Line) StatusError) → Result (List Line) StatusError
with_line (Ok line) load next = next (put load line)
with_line (Err f) load next = Err f

abbrev pub at_end : ℕ → List ℕ → List Line → (List Line → Result (List Line) StatusError) → Result (List Line) StatusError
at_end n line load next =
    if is_period line then Ok load
    else (if nat_lt 65536 n then Err fault.TooManyLines
    else with_line (line_meaning n (without_return line)) load next)

-- The parts of a text between its line feeds, from line n on. Behind the last part there is none,
-- so that line has not come whole.
abbrev pub meaning_from : ℕ → List (List ℕ) → List Line → Result (List Line) StatusError
meaning_from n [] load = Err fault.Truncated
meaning_from n (line ∷ []) load = if is_too_long line then Err (fault.LineTooLong n) else Err fault.Truncated
meaning_from n (line ∷ next ∷ rest) load =
    if is_too_long line then Err (fault.LineTooLong n)
    else at_end n line load (λ more. meaning_from (n + 1) (next ∷ rest) more)

-- the load that a text means, up to its period line, or its first fault
abbrev pub status : List ℕ → Result (List Line) StatusError
status text = meaning_from 1 (slice_split is_line_feed text) []
