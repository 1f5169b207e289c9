-- The numbers and names of the refusals of `read` and of `write`, and what a fault line says of a report that is not taken.
use Rattle.std.specs.Prelude.{ℕ, Bool, true, false, Option, Some, None, codes}
use Rattle.refusal.specs.Label.{Label, label}
use Rattle.pool_report.specs.declared.error.ReadError.{ReadError}
use Rattle.pool_report.specs.declared.error.ReadError.TheVariants as fault
use Rattle.pool_report.specs.declared.error.WriteError.{WriteError}
use Rattle.pool_report.specs.declared.error.WriteError.TheVariants as unwritten

abbrev pub read_label : ReadError → Label
read_label (fault.BadLine n) = label 1 (codes "BadLine")
read_label (fault.UnknownName n) = label 2 (codes "UnknownName")
read_label fault.Truncated = label 3 (codes "Truncated")
read_label fault.Memory = label 4 (codes "Memory")

abbrev pub is_read_memory : ReadError → Bool
is_read_memory fault.Memory = true
is_read_memory _ = false

-- the line that is refused, if it is one line
abbrev pub report_line_of : ReadError → Option ℕ
report_line_of (fault.BadLine n) = Some n
report_line_of (fault.UnknownName n) = Some n
report_line_of fault.Truncated = None
report_line_of fault.Memory = None

abbrev pub write_label : WriteError → Label
write_label (unwritten.WriteFault n) = label 1 (codes "WriteFault")
write_label unwritten.Memory = label 2 (codes "Memory")
