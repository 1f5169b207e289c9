-- What a process's status says of its signals: a line for each mask, with its name, a colon and a tab before it.
use Rattle.std.specs.Prelude.{ℕ, List, [], ◌∷◌, length, take, drop, Option, Some, None, Result, Ok, Err, codes, if◌then◌else◌}
use Rattle.std.specs.List.{slice_split}
use Rattle.std.specs.Option.{option_map_or, option_or}
use Rattle.std.specs.Str.{bytes_eq}
use Rattle.text_pieces.specs.Lines.{is_line_feed}
use Rattle.end_signals.specs.Masks.{joined_of, signals_in}
use Rattle.end_signals.specs.declared.masks.EndSignals.{EndSignals}
use Rattle.end_signals.specs.declared.status.MaskLine.{MaskLine}
use Rattle.end_signals.specs.declared.status.MaskLine.TheVariants.{ThreadPending, SharedPending, Blocked}
use Rattle.end_signals.specs.declared.status.MaskFault.{MaskFault}
use Rattle.end_signals.specs.declared.status.MaskFault.TheVariants.{Missing, NoMask}
use Rattle.end_signals.specs.declared.status.SignalStatus.{SignalStatus}

-- the line, up to its mask
abbrev pub start_of : MaskLine → List ℕ
start_of ThreadPending = codes "SigPnd:\t"
start_of SharedPending = codes "ShdPnd:\t"
start_of Blocked = codes "SigBlk:\t"

-- what follows these bytes at the start of a line
abbrev pub after_start : List ℕ → List ℕ → Option (List ℕ)
after_start start line = if bytes_eq (take (length start) line) start then Some (drop (length start) line) else None

-- what follows them in the first of some lines that begins with them
abbrev pub first_after : List ℕ → List (List ℕ) → Option (List ℕ)
first_after start [] = None
first_after start (line ∷ lines) = option_or (after_start start line) (first_after start lines)

abbrev pub mask_from : List ℕ → List ℕ → Option (List ℕ)
mask_from start text = first_after start (slice_split is_line_feed text)

-- the signals of the mask that a line is to have
abbrev pub signals_or : MaskLine → List ℕ → Result EndSignals MaskFault
signals_or line mask = option_map_or (λ signals. Ok signals) (signals_in mask) (Err (NoMask line))

abbrev pub signals_of_line : MaskLine → List ℕ → Result EndSignals MaskFault
signals_of_line line text = option_map_or (signals_or line) (mask_from (start_of line) text) (Err (Missing line))

-- what three masks say, or the first fault of them: the thread's pending signals, the process's, and the blocked ones
abbrev pub status_of : Result EndSignals MaskFault → Result EndSignals MaskFault → Result EndSignals MaskFault
    → Result SignalStatus MaskFault
status_of (Err fault) shared blocked = Err fault
status_of (Ok own) (Err fault) blocked = Err fault
status_of (Ok own) (Ok shared) (Err fault) = Err fault
status_of (Ok own) (Ok shared) (Ok blocked) = Ok (record { blocked = blocked; pending = joined_of own shared })

unfoldable pub signal_status : List ℕ → Result SignalStatus MaskFault
signal_status text =
    status_of (signals_of_line ThreadPending text) (signals_of_line SharedPending text) (signals_of_line Blocked text)
