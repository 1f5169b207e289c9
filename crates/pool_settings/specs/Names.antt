-- Names of functions and machines.
use Rattle.std.specs.Prelude.{ℕ, List, [], Option, Bool, not, ◌&&◌, nat_le, ◌==◌, length, position, slice_index_or}
use Rattle.std.specs.List.{list_all}
use Rattle.std.specs.List.Sorted.{IsStrictlySortedBy}
use Rattle.std.specs.Cmp.Lexicographic.{slice_cmp}
use Rattle.std.specs.Ordering.{nat_cmp}
use Rattle.std.specs.Str.{bytes_eq}

-- from `!` to `~`
abbrev pub is_name_byte : ℕ → Bool
is_name_byte b = nat_le 33 b && nat_le b 126

-- the name of a function: 1 to 64 bytes
abbrev pub is_name : List ℕ → Bool
is_name name = (nat_le 1 (length name) && nat_le (length name) 64) && list_all is_name_byte name

-- neither `/` nor `#`, which end the machine in the name of a worker
abbrev pub is_machine_name_byte : ℕ → Bool
is_machine_name_byte b = is_name_byte b && (not (b == 47) && not (b == 35))

abbrev pub is_machine_name : List ℕ → Bool
is_machine_name name =
    (nat_le 1 (length name) && nat_le (length name) 64) && list_all is_machine_name_byte name

-- names by number are in byte order, each there once
abbrev pub IsInByteOrder : List (List ℕ) → Type 0
IsInByteOrder names = IsStrictlySortedBy (slice_cmp nat_cmp) names

-- the number of a name
abbrev pub place_of : List (List ℕ) → List ℕ → Option ℕ
place_of names name = position (λ n. bytes_eq n name) names

-- the name at a number, and none after the last
abbrev pub name_at : List (List ℕ) → ℕ → List ℕ
name_at names number = slice_index_or names number []
