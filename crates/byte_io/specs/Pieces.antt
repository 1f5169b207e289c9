-- A source that is read piece by piece.
use Rattle.std.specs.Prelude.{ℕ, ◌≡◌, ◌+◌, ◌≤◌, ◌⊎◌, List, [], ◌++◌, Bool, true, false, Option, Some, None, Result, Ok, Err, length, take}
use Rattle.byte_io.specs.Sides.{Met}
use Rattle.byte_io.specs.declared.device.DeviceFault.{DeviceFault}

-- what a call met that met this first and then that
abbrev pub met_then : Met → Met → Met
met_then first next = record {
  bytes = first.bytes ++ next.bytes;
  lulls = first.lulls + next.lulls;
  failures = first.failures + next.failures;
  has_ended = next.has_ended;
}

-- what was met if these bytes came after so many timeouts
abbrev pub brought : List ℕ → ℕ → Bool → Met
brought bytes lulls ended = record { bytes = bytes; lulls = lulls; failures = 0; has_ended = ended }

-- Nothing came: the source failed, or it was silent for the 65th time in a call that had so many timeouts before.
abbrev pub IsGivenUp : ℕ → Met → Type 0
IsGivenUp before met =
    (met.bytes ≡ []) × (((met.failures ≡ 1) × (before + met.lulls ≤ 64)) ⊎ ((met.failures ≡ 0) × (before + met.lulls ≡ 65)))

-- What was met if these bytes came, or the end, in a call that had so many timeouts before and has so many after it.
abbrev pub Came : ℕ → Met → List ℕ → Bool → ℕ → Type 0
Came before met bytes ended after =
    (met.bytes ≡ bytes) × (met.failures ≡ 0) × (met.has_ended ≡ ended) × (before + met.lulls ≡ after) × (after ≤ 64)

-- What reading a piece met: the timeouts of the call before it, the buffer and the answer, and the timeouts after it.
abbrev pub IsPiece : ℕ → Met → List ℕ → Result (Option ℕ) DeviceFault → ℕ → Type 0
IsPiece before met buffer (Ok (Some n)) after = (1 ≤ n) × (n ≤ length buffer) × Came before met (take n buffer) false after
IsPiece before met buffer (Ok None) after = Came before met [] true after
IsPiece before met buffer (Err f) after = IsGivenUp before met
