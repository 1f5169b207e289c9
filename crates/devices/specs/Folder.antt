-- What is known of a file, and why it is not read.
use Rattle.std.specs.Prelude.{◌≡◌, ◌<◌, ◌≤◌, ℕ, List, Option, None, Some, length}
use Rattle.std.specs.declared.io.ErrorKind.{ErrorKind}
use Rattle.std.specs.declared.io.ErrorKind.TheVariants.{OutOfMemory}
use Rattle.devices.specs.Whole.{limit}
use Rattle.devices.specs.declared.error.InputError.{InputError}
use Rattle.devices.specs.declared.error.InputError.TheVariants as error

-- what is known of a file of a name: nothing, that there is none, or its bytes
pub data Known : Type 0 where
  unknown : Known
  absent : Known
  holds : List ℕ → Known

-- what is known of a file by its reader
abbrev pub known_of : Option (List ℕ) → Known
known_of None = unknown
known_of (Some all) = holds all

-- A file of which this is known is open, and its reader has this left.
abbrev pub IsOpenFile : Known → Option (List ℕ) → Type 0
IsOpenFile unknown left = Unit {0}
IsOpenFile absent left = ⊥
IsOpenFile (holds all) left = left ≡ Some all

-- A file of which this is known is not opened, with an error of this kind. One that is known to be there fails to open only when out of
-- memory.
abbrev pub IsUnopened : Known → ErrorKind → Type 0
IsUnopened (holds all) kind = kind ≡ OutOfMemory
IsUnopened known kind = Unit {0}

-- These may be the bytes of a file of which this is known.
abbrev pub IsTextOf : Known → List ℕ → Type 0
IsTextOf unknown text = Unit {0}
IsTextOf absent text = ⊥
IsTextOf (holds all) text = text ≡ all

-- A file of which this is known is read whole, and these are its bytes.
abbrev pub IsReadFile : Known → List ℕ → Type 0
IsReadFile known text = IsTextOf known text × (length text ≤ limit)

-- A file of which this is known is not read whole by this error. Any file may lack memory, and a device may fail for any that is there;
-- but for these, one that is known not to be there is not opened, and one whose bytes are known is above the limit.
abbrev pub IsUnreadFile : Known → InputError → Type 0
IsUnreadFile unknown error = Unit {0}
IsUnreadFile absent error.NoFile = Unit {0}
IsUnreadFile absent error.NoPermission = Unit {0}
IsUnreadFile (holds all) error.TooLong = limit < length all
IsUnreadFile (holds all) error.ReadFault = Unit {0}
IsUnreadFile known error.Memory = Unit {0}
IsUnreadFile known other = ⊥
