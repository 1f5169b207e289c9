-- What a fault line says of a status text that is not taken.
use Rattle.std.specs.Prelude.{ℕ, Bool, true, false, Option, Some, None, codes}
use Rattle.refusal.specs.Label.{Label, label}
use Rattle.gear_status.specs.declared.error.StatusError.{StatusError}
use Rattle.gear_status.specs.declared.error.StatusError.TheVariants as fault

abbrev pub status_label : StatusError → Label
status_label (fault.BadLine n) = label 1 (codes "BadLine")
status_label (fault.BadNumber n) = label 2 (codes "BadNumber")
status_label (fault.LineTooLong n) = label 3 (codes "LineTooLong")
status_label fault.TooManyLines = label 4 (codes "TooManyLines")
status_label fault.Truncated = label 5 (codes "Truncated")
status_label fault.ReadFault = label 6 (codes "ReadFault")
status_label fault.Memory = label 7 (codes "Memory")

abbrev pub is_status_memory : StatusError → Bool
is_status_memory fault.Memory = true
is_status_memory _ = false

-- the line that is refused, if it is one line
abbrev pub status_line_of : StatusError → Option ℕ
status_line_of (fault.BadLine n) = Some n
status_line_of (fault.BadNumber n) = Some n
status_line_of (fault.LineTooLong n) = Some n
status_line_of fault.TooManyLines = None
status_line_of fault.Truncated = None
status_line_of fault.ReadFault = None
status_line_of fault.Memory = None
