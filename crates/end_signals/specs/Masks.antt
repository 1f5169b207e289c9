-- Sets of signals, as the system writes them: 16 hexadecimal digits, of which the last has the signals 1 to 4, the one before it 5 to 8.
use Rattle.std.specs.Prelude.{ℕ, ◌-◌, ◌/◌, ◌%◌, ◌^◌, ◌==◌, Bool, true, false, not, ◌&&◌, ◌||◌, bit_and, if◌then◌else◌}
use Rattle.std.specs.Prelude.{List, length, slice_index, Option, Some, None}
use Rattle.std.specs.Char.{digit_value, is_ascii_hexdigit}
use Rattle.std.specs.List.{list_all}
use Rattle.end_signals.specs.declared.masks.EndSignals.{EndSignals}
use Rattle.end_signals.specs.declared.masks.EndSignals.TheVariants.{Neither, Terminate, Interrupt, Both}

-- the value of a hexadecimal digit
abbrev pub digit_of : ℕ → ℕ
digit_of c = if is_ascii_hexdigit c then digit_value c else 0

abbrev pub is_mask : List ℕ → Bool
is_mask digits = (length digits == 16) && list_all is_ascii_hexdigit digits

-- the mask has the signal of this number, from 1 on
unfoldable pub has_signal : ℕ → List ℕ → Bool
has_signal number mask =
    not (bit_and (digit_of (slice_index mask (15 - (number - 1) / 4))) (2 ^ ((number - 1) % 4)) == 0)

-- SIGTERM if the first is so, and SIGINT if the second is
abbrev pub signals_of : Bool → Bool → EndSignals
signals_of true true = Both
signals_of true false = Terminate
signals_of false true = Interrupt
signals_of false false = Neither

abbrev pub has_terminate : EndSignals → Bool
has_terminate Neither = false
has_terminate Terminate = true
has_terminate Interrupt = false
has_terminate Both = true

abbrev pub has_interrupt : EndSignals → Bool
has_interrupt Neither = false
has_interrupt Terminate = false
has_interrupt Interrupt = true
has_interrupt Both = true

abbrev pub common_of : EndSignals → EndSignals → EndSignals
common_of some others =
    signals_of (has_terminate some && has_terminate others) (has_interrupt some && has_interrupt others)

abbrev pub joined_of : EndSignals → EndSignals → EndSignals
joined_of some others =
    signals_of (has_terminate some || has_terminate others) (has_interrupt some || has_interrupt others)

-- SIGTERM is signal 15, and SIGINT signal 2
abbrev pub signals_in : List ℕ → Option EndSignals
signals_in mask = if is_mask mask then Some (signals_of (has_signal 15 mask) (has_signal 2 mask)) else None
