-- An input that is read whole, or why it is not.
use Rattle.std.specs.Prelude.{◌≡◌, ℕ, ◌+◌, ◌<◌, ◌≤◌, [], length, true}
use Rattle.byte_io.specs.Sides.{GaveUp, Met, Undisturbed}
use Rattle.devices.specs.declared.error.InputError.{InputError}
use Rattle.devices.specs.declared.error.InputError.TheVariants as error

-- the most bytes that a file or an input may have
abbrev pub limit : ℕ
limit = 16777216

-- Nothing was read.
abbrev pub IsUntouched : Met → Type 0
IsUntouched met = (met.bytes ≡ []) × (met.lulls ≡ 0) × (met.failures ≡ 0)

-- All bytes were taken, up to the end, and they are no more than the limit.
abbrev pub IsWhole : Met → Type 0
IsWhole met = (length met.bytes ≤ limit) × (met.has_ended ≡ true) × Undisturbed met

-- Why not all bytes were taken: they go above the limit, by no more than the 4,096 bytes of one read; or the source gave up before
-- that. Out of memory is no fault of the source.
abbrev pub IsNotWhole : Met → InputError → Type 0
IsNotWhole met error.TooLong = (limit < length met.bytes) × (length met.bytes ≤ limit + 4096) × Undisturbed met
IsNotWhole met error.ReadFault = (length met.bytes ≤ limit) × GaveUp met
IsNotWhole met error.Memory = Undisturbed met
IsNotWhole met error.NoFile = ⊥
IsNotWhole met error.NoPermission = ⊥
