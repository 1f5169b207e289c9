-- The address of a socket of this machine, as the bytes that the system reads.
use Rattle.std.specs.Prelude.{ℕ, ◌==◌, Bool, ◌||◌, nat_lt, List, [], ◌∷◌, length, Result, Ok, Err, if◌then◌else◌}
use Rattle.service_manager.specs.declared.error.AddressError.{AddressError}
use Rattle.service_manager.specs.declared.error.AddressError.TheVariants.{Empty, NoName, TooLong}

-- a path begins with `/`, and an abstract name with `@`
abbrev pub begins_a_name : ℕ → Bool
begins_a_name b = (b == 47) || (b == 64)

-- an abstract name has a byte of 0 in the place of its `@`
abbrev pub first_byte : ℕ → ℕ
first_byte b = if b == 64 then 0 else b

-- the number of the family in two bytes, the lower one first, and the name
abbrev pub address_of : List ℕ → Result (List ℕ) AddressError
address_of [] = Err Empty
address_of (b ∷ bs) =
    if begins_a_name b
    then (if nat_lt 107 (length (b ∷ bs)) then Err TooLong else Ok (1 ∷ 0 ∷ first_byte b ∷ bs))
    else Err NoName
