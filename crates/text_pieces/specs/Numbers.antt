-- Decimal numbers, as they are read.
use Rattle.std.specs.Prelude.{ℕ, List, length, slice_index, Bool, not, ◌&&◌, ◌||◌, nat_lt, ◌==◌, Option, Some, None, if◌then◌else◌}
use Rattle.std.specs.Str.{all_ascii_digits}
use Rattle.std.specs.Str.Parse.{digits_value}

-- one or more decimal digits
abbrev pub are_digits : List ℕ → Bool
are_digits digits = nat_lt 0 (length digits) && all_ascii_digits digits

-- the same without a zero before them
abbrev pub is_plain : List ℕ → Bool
is_plain digits = are_digits digits && (not (slice_index digits 0 == 48) || (length digits == 1))

-- the number below a bound that digits write, zeros before it allowed
abbrev pub number_below : ℕ → List ℕ → Option ℕ
number_below bound digits =
    if are_digits digits && nat_lt (digits_value 10 digits) bound then Some (digits_value 10 digits) else None

-- the number below a bound that plain digits write
abbrev pub plain_number_below : ℕ → List ℕ → Option ℕ
plain_number_below bound digits =
    if is_plain digits && nat_lt (digits_value 10 digits) bound then Some (digits_value 10 digits) else None
