-- The words of a command line, and what a single word says.
use Rattle.std.specs.Prelude.{ℕ, ◌^◌, ◌==◌, List, [], length, Bool, ◌&&◌, nat_le, nat_lt, is_none, Option}
use Rattle.std.specs.Prelude.{Some, None, option_map, if◌then◌else◌, codes}
use Rattle.std.specs.List.{slice_split}
use Rattle.std.specs.Option.{option_and_then, option_map_or}
use Rattle.std.specs.Str.{bytes_eq}
use Rattle.text_pieces.specs.Cuts.{cut_first}
use Rattle.text_pieces.specs.Numbers.{number_below}
use Rattle.gear_packets.specs.PacketRefusals.{handle_refusal}
use Rattle.pool_settings.specs.Settings.{Settings}
use Rattle.pool_settings.specs.Slots.{slot_named}
use Rattle.worker_state.specs.Limits.{max_generation}
use Rattle.worker_state.specs.declared.job.EndKind.{EndKind}
use Rattle.worker_state.specs.declared.job.EndKind.TheVariants.{Complete, Fail}
use Rattle.worker_state.specs.declared.slot.WorkerName.{WorkerName}

abbrev pub is_space : ℕ → Bool
is_space b = b == 32

-- What is between the spaces. Two spaces in a row have an empty word between them, a space at an end has one beside it,
-- and an empty line is one empty word; no form takes an empty word.
abbrev pub words_of : List ℕ → List (List ℕ)
words_of line = slice_split is_space line

-- the same of what comes after a space, if there is one
abbrev pub words_after : Option (List ℕ) → List (List ℕ)
words_after text = option_map_or words_of text []

-- any word but an empty one
abbrev pub word_in : List ℕ → Option (List ℕ)
word_in text = if nat_lt 0 (length text) then Some text else None

-- a ticket, or a time in milliseconds
abbrev pub long_in : List ℕ → Option ℕ
long_in digits = number_below (2 ^ 64) digits

-- a number of jobs
abbrev pub count_in : List ℕ → Option ℕ
count_in digits = number_below (2 ^ 32) digits

abbrev pub generation_of : ℕ → Option ℕ
generation_of n = if nat_le 1 n && nat_le n max_generation then Some n else None

abbrev pub generation_in : List ℕ → Option ℕ
generation_in digits = option_and_then generation_of (number_below (2 ^ 32) digits)

-- ---- workers: the slot's name, a hash sign and the generation

abbrev pub worker_of : Settings → List ℕ × List ℕ → Option WorkerName
worker_of settings parts =
    option_and_then (λ slot. option_map (λ number. record { slot = slot; generation = number }) (generation_in parts.1))
    (slot_named settings parts.0)

abbrev pub worker_in : Settings → List ℕ → Option WorkerName
worker_in settings text = option_and_then (worker_of settings) (cut_first 35 text)

-- ---- handles and ends

abbrev pub handle_in : List ℕ → Option (List ℕ)
handle_in text = if is_none (handle_refusal text) then Some text else None

abbrev pub end_in : List ℕ → Option EndKind
end_in text =
    if bytes_eq text (codes "complete") then Some Complete
    else (if bytes_eq text (codes "fail") then Some Fail else None)
