-- What the errors of the system's calls say of a device or a file.
use Rattle.std.specs.Prelude.{Result, Ok, Err}
use Rattle.std.specs.declared.io.ErrorKind.{ErrorKind}
use Rattle.std.specs.declared.io.ErrorKind.TheVariants as kind
use Rattle.byte_io.specs.declared.device.DeviceFault.{DeviceFault}
use Rattle.byte_io.specs.declared.device.Took.{Took}
use Rattle.byte_io.specs.declared.device.Took.TheVariants as took
use Rattle.devices.specs.declared.error.InputError.{InputError}
use Rattle.devices.specs.declared.error.InputError.TheVariants as input
use Rattle.devices.specs.declared.results.Meaning.{Meaning}
use Rattle.devices.specs.declared.results.Meaning.TheVariants as meaning
use Rattle.devices.specs.declared.results.TimeLimit.{TimeLimit}
use Rattle.devices.specs.declared.results.TimeLimit.TheVariants as time

-- what it says that a call had to wait
abbrev pub waited : TimeLimit → Meaning
waited time.Set = meaning.Timeout
waited time.Unset = meaning.Fault

-- A signal's interruption is a timeout. That a call would have to wait is one if there is a time limit. That TCP gave up is none.
abbrev pub meaning_of : ErrorKind → TimeLimit → Meaning
meaning_of kind.Interrupted limit = meaning.Timeout
meaning_of kind.WouldBlock limit = waited limit
meaning_of kind.OutOfMemory limit = meaning.OutOfMemory
meaning_of _ limit = meaning.Fault

-- out of memory, which says nothing of the file, or the other error
abbrev pub failed_as : Meaning → InputError → InputError
failed_as meaning.OutOfMemory other = input.Memory
failed_as meaning.Timeout other = other
failed_as meaning.Fault other = other

abbrev pub failed_by : ErrorKind → InputError → InputError
failed_by kind other = failed_as (meaning_of kind time.Unset) other

-- why a file is not opened
abbrev pub unopened_by : ErrorKind → InputError
unopened_by kind.PermissionDenied = input.NoPermission
unopened_by other = failed_by other input.NoFile

-- a timeout, or a failure
abbrev pub IsNoPiece : Result Took DeviceFault → Type 0
IsNoPiece (Ok took.Lull) = Unit {0}
IsNoPiece (Ok (took.Bytes n)) = ⊥
IsNoPiece (Ok took.Ended) = ⊥
IsNoPiece (Err f) = Unit {0}
