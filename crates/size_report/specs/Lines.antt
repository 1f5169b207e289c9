-- One line of the text of a size, as it is read: what it says, less the numbers that a size does not hold.
use Rattle.std.specs.Prelude.{ℕ, ◌^◌, List, Bool, ◌&&◌, nat_lt, Option, Some, None, option_map, codes, if◌then◌else◌}
use Rattle.std.specs.Option.{option_map_or}
use Rattle.std.specs.Str.{bytes_eq}
use Rattle.pool_report.specs.Lines.{ReportLine, after_word, count_after, line_of}
use Rattle.pool_settings.specs.Names.{is_machine_name, is_name}
use Rattle.text_pieces.specs.Cuts.{cut_last}
use Rattle.text_pieces.specs.Numbers.{plain_number_below}

pub data SizeLine : Type 0 where
  first : SizeLine
  level : SizeLine
  add : SizeLine
  -- a machine's name, and how many workers it gets
  on : List ℕ → ℕ → SizeLine
  -- a function's name, what it needs, and its greatest number
  above_most : List ℕ → ℕ → ℕ → SizeLine
  -- a function's name, and what it needs
  no_machine : List ℕ → ℕ → SizeLine
  -- how many workers have to be added
  too_many : ℕ → SizeLine
  -- a line as a report has it
  shared : ReportLine → SizeLine

abbrev pub small : ℕ → Bool
small n = nat_lt n (2 ^ 32)

abbrev pub if_some : ℕ → Option SizeLine
if_some n = if nat_lt 0 n then Some level else None

-- a level of at least 1, or `-` for none
abbrev pub level_in : List ℕ → Option SizeLine
level_in rest = if bytes_eq rest (codes "-") then Some level else option_map_or if_some (plain_number_below (2 ^ 32) rest) None

abbrev pub add_in : List ℕ → Option SizeLine
add_in rest = option_map (λ n. add) (plain_number_below (2 ^ 32) rest)

abbrev pub on_of : List ℕ × List ℕ → Option SizeLine
on_of parts = option_map_or (λ n. if is_machine_name parts.0 then Some (on parts.0 n) else None) (plain_number_below (2 ^ 32) parts.1) None

abbrev pub on_in : List ℕ → Option SizeLine
on_in rest = option_map_or on_of (cut_last 32 rest) None

abbrev pub needs_of : ℕ → List ℕ × ℕ → Option SizeLine
needs_of most parts =
    if is_name parts.0 && (small parts.1 && small most) then Some (above_most parts.0 parts.1 most) else None

abbrev pub above_most_of : List ℕ × ℕ → Option SizeLine
above_most_of parts = option_map_or (needs_of parts.1) (count_after (codes "need") parts.0) None

-- `FUNCTION need K most M`
abbrev pub above_most_in : List ℕ → Option SizeLine
above_most_in rest = option_map_or above_most_of (count_after (codes "most") rest) None

abbrev pub no_machine_of : List ℕ × ℕ → Option SizeLine
no_machine_of parts = if is_name parts.0 && small parts.1 then Some (no_machine parts.0 parts.1) else None

-- `FUNCTION need K`
abbrev pub no_machine_in : List ℕ → Option SizeLine
no_machine_in rest = option_map_or no_machine_of (count_after (codes "need") rest) None

abbrev pub too_many_in : List ℕ → Option SizeLine
too_many_in rest = option_map (λ n. too_many n) (plain_number_below (2 ^ 64) rest)

-- a line by its first words
abbrev pub keyed : List ℕ → Option SizeLine
keyed line =
    option_map_or level_in (after_word (codes "level ") line)
    (option_map_or add_in (after_word (codes "add ") line)
    (option_map_or on_in (after_word (codes "on ") line)
    (option_map_or above_most_in (after_word (codes "cannot 1 ") line)
    (option_map_or no_machine_in (after_word (codes "cannot 2 ") line)
    (option_map_or too_many_in (after_word (codes "cannot 3 add ") line)
    (option_map (λ line. shared line) (line_of line)))))))

-- what a line says, if it has the shape of one
abbrev pub size_line_of : List ℕ → Option SizeLine
size_line_of line = if bytes_eq line (codes "size 1") then Some first else keyed line
