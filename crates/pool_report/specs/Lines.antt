-- One line of a report, as it is read: what it says, less the numbers that an answer does not hold.
use Rattle.std.specs.Prelude.{ℕ, ◌+◌, ◌^◌, List, length, take, drop, Bool, false, ◌&&◌, nat_lt, Option}
use Rattle.std.specs.Prelude.{Some, None, option_map, codes, if◌then◌else◌}
use Rattle.std.specs.Option.{option_map_or}
use Rattle.std.specs.Str.{bytes_eq}
use Rattle.pool_settings.specs.Names.{is_machine_name, is_name}
use Rattle.text_pieces.specs.Cuts.{cut_last}
use Rattle.text_pieces.specs.Numbers.{is_plain, plain_number_below}

pub data ReportLine : Type 0 where
  head : ReportLine
  backlog : ℕ → ReportLine
  no_plan : ReportLine
  -- a worker's name, and its function's
  task : List ℕ → Option (List ℕ) → ReportLine
  short : ReportLine
  needed : List ℕ → ReportLine
  stranded : List ℕ → ReportLine
  last : ReportLine

-- ---- parts of a line

-- what comes after a word at the start of a line
abbrev pub after_word : List ℕ → List ℕ → Option (List ℕ)
after_word word line =
    if bytes_eq (take (length word) line) word then Some (drop (length word) line) else None

-- a worker's name, `machine/number`
abbrev pub is_worker_parts : List ℕ × List ℕ → Bool
is_worker_parts parts = is_machine_name parts.0 && is_plain parts.1

abbrev pub is_worker : List ℕ → Bool
is_worker name = option_map_or is_worker_parts (cut_last 47 name) false

-- ---- each kind of line, from what comes after its first words

abbrev pub backlog_in : List ℕ → Option ReportLine
backlog_in rest = option_map (λ k. backlog k) (plain_number_below (2 ^ 32) rest)

abbrev pub above_zero : ℕ → Option ReportLine
above_zero w = if nat_lt 0 w then Some (backlog (2 ^ 32 + w)) else None

abbrev pub unserved_in : List ℕ → Option ReportLine
unserved_in rest = option_map_or above_zero (plain_number_below (2 ^ 32) rest) None

abbrev pub work_of : List ℕ × List ℕ → Option ReportLine
work_of parts = if is_worker parts.0 && is_name parts.1 then Some (task parts.0 (Some parts.1)) else None

abbrev pub work_in : List ℕ → Option ReportLine
work_in rest = option_map_or work_of (cut_last 32 rest) None

abbrev pub idle_in : List ℕ → Option ReportLine
idle_in rest = if is_worker rest then Some (task rest None) else None

-- `A WORD N`, as the text A and the number N
abbrev pub counted_of : List ℕ → ℕ → List ℕ × List ℕ → Option (List ℕ × ℕ)
counted_of word n parts = if bytes_eq parts.1 word then Some (parts.0, n) else None

abbrev pub numbered : List ℕ → List ℕ × List ℕ → Option (List ℕ × ℕ)
numbered word parts =
    option_map_or (λ n. option_map_or (counted_of word n) (cut_last 32 parts.0) None) (plain_number_below (2 ^ 64) parts.1) None

abbrev pub count_after : List ℕ → List ℕ → Option (List ℕ × ℕ)
count_after word rest = option_map_or (numbered word) (cut_last 32 rest) None

abbrev pub short_of : List ℕ × ℕ → Option ReportLine
short_of parts = option_map (λ n. short) (plain_number_below (2 ^ 64) parts.0)

abbrev pub short_in : List ℕ → Option ReportLine
short_in rest = option_map_or short_of (count_after (codes "have") rest) None

abbrev pub needed_of : List ℕ × ℕ → Option ReportLine
needed_of parts = if is_name parts.0 then Some (needed parts.0) else None

abbrev pub needed_in : List ℕ → Option ReportLine
needed_in rest = option_map_or needed_of (count_after (codes "need") rest) None

abbrev pub stranded_of : List ℕ × List ℕ → Option ReportLine
stranded_of parts =
    option_map_or (λ w. if is_name parts.0 then Some (stranded parts.0) else None) (plain_number_below (2 ^ 32) parts.1) None

abbrev pub stranded_in : List ℕ → Option ReportLine
stranded_in rest = option_map_or stranded_of (cut_last 32 rest) None

-- ---- a line by its first words

abbrev pub keyed : List ℕ → Option ReportLine
keyed line =
    option_map_or backlog_in (after_word (codes "backlog ") line)
    (option_map_or unserved_in (after_word (codes "unserved ") line)
    (option_map_or work_in (after_word (codes "work ") line)
    (option_map_or idle_in (after_word (codes "idle ") line)
    (option_map_or short_in (after_word (codes "short need ") line)
    (option_map_or needed_in (after_word (codes "in ") line)
    (option_map_or stranded_in (after_word (codes "stranded ") line)
    None))))))

-- what a line says, if it has the shape of one
abbrev pub line_of : List ℕ → Option ReportLine
line_of line =
    if bytes_eq line (codes "report 1") then Some head
    else (if bytes_eq line (codes "noplan") then Some no_plan
    else (if bytes_eq line (codes "end") then Some last
    else keyed line))
