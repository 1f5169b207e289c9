-- What is known of the signals by the system's status of this process.
use Rattle.std.specs.Prelude.{◌≡◌, ℕ, List, Ok, codes}
use Rattle.devices.specs.Folder.{IsReadFile, Known}
use Rattle.end_signals.specs.Status.{signal_status}
use Rattle.end_signals.specs.declared.status.SignalStatus.{SignalStatus}

-- the file's name
abbrev pub status_file : List ℕ
status_file = codes "/proc/self/status"

-- It is what the text says of a file of which this is known.
abbrev pub IsStatusOf : Known → SignalStatus → Type 0
IsStatusOf known status = (text : List ℕ) × IsReadFile known text × (signal_status text ≡ Ok status)
