-- Faults, with the exit status of each.
use Rattle.std.specs.Prelude.{ℕ, List, [], ◌++◌, codes, Option, None, Some}
use Rattle.std.specs.Fmt.{decimal}
use Rattle.devices.specs.declared.error.InputError.{InputError}
use Rattle.devices.specs.declared.error.InputError.TheVariants as input
use Rattle.gear_status.specs.StatusRefusals.{status_line_of as status_line, status_label}
use Rattle.gear_status.specs.declared.error.StatusError.{StatusError}
use Rattle.gear_status.specs.declared.error.StatusError.TheVariants as status
use Rattle.pool_report.specs.ReportRefusals.{report_line_of as report_line, read_label}
use Rattle.pool_report.specs.declared.error.WriteError.{WriteError}
use Rattle.pool_report.specs.declared.error.WriteError.TheVariants as write
use Rattle.pool_report.specs.declared.error.ReadError.{ReadError}
use Rattle.pool_report.specs.declared.error.ReadError.TheVariants as read
use Rattle.pool_settings.specs.SettingsRefusals.{settings_label}
use Rattle.refusal.specs.Label.{label_words}
use Rattle.service_settings.specs.Refusals.{services_label}
use Rattle.plan_commands.specs.declared.ending.Exit.{Exit}
use Rattle.plan_commands.specs.declared.fault.Fault.{Fault}
use Rattle.plan_commands.specs.declared.fault.NamedFile.{NamedFile}
use Rattle.plan_commands.specs.declared.fault.Fault.TheVariants as fault
use Rattle.plan_commands.specs.declared.fault.PageError.{PageError}
use Rattle.plan_commands.specs.declared.fault.PageError.TheVariants as page

-- 3 if input is refused, 4 if memory or a device failed
abbrev pub input_status : InputError → ℕ
input_status input.TooLong = 3
input_status _ = 4

abbrev pub status_of : Fault → ℕ
status_of (fault.File file e) = input_status e
status_of fault.ReadFault = 4
status_of fault.WriteFault = 4
status_of (fault.Page e) = 4
status_of fault.Memory = 4
status_of _ = 3

-- ` line L`, if a fault has one line
abbrev pub on_line : Option ℕ → List ℕ
on_line (Some line) = codes " line " ++ decimal line
on_line None = []

-- why a file or standard input was not read whole
abbrev pub input_words : InputError → List ℕ
input_words input.NoFile = codes "device 3 NoFile"
input_words input.NoPermission = codes "device 3 NoFile"
input_words input.ReadFault = codes "device 1 ReadFault"
input_words input.TooLong = codes "input 1 TooLong"
input_words input.Memory = codes "memory"

-- why the page of a farm told no totals
abbrev pub page_words : PageError → List ℕ
page_words page.Unreached = codes "page 1 Unreached"
page_words page.Unanswered = codes "page 2 Unanswered"
page_words (page.Refused status) = codes "page 3 Refused status " ++ decimal status

-- The fault as one line for a person and a script: a word for what is at fault, a number, a name, and the line.
abbrev pub fault_line : Fault → List ℕ
fault_line (fault.Settings mistake) = codes "settings " ++ label_words (settings_label mistake.error)
fault_line (fault.Services mistake) = codes "services " ++ label_words (services_label mistake.error)
fault_line (fault.UnknownWorker place) = codes "lost 1 UnknownWorker"
fault_line (fault.Status e) = codes "status " ++ label_words (status_label e) ++ on_line (status_line e)
fault_line (fault.Report e) = codes "report " ++ label_words (read_label e) ++ on_line (report_line e)
fault_line (fault.BadCommand line) = codes "events 1 BadLine line " ++ decimal line
fault_line (fault.File file e) = input_words e
fault_line fault.TooLong = input_words input.TooLong
fault_line fault.ReadFault = input_words input.ReadFault
fault_line fault.WriteFault = codes "device 2 WriteFault"
fault_line (fault.Page e) = page_words e
fault_line fault.Memory = codes "memory"

-- Out of memory is one fault, whoever meets it.
abbrev pub status_fault : StatusError → Fault
status_fault status.ReadFault = fault.ReadFault
status_fault status.Memory = fault.Memory
status_fault other = fault.Status other

abbrev pub report_fault : ReadError → Fault
report_fault read.Memory = fault.Memory
report_fault other = fault.Report other

abbrev pub write_fault : WriteError → Fault
write_fault (write.WriteFault count) = fault.WriteFault
write_fault write.Memory = fault.Memory

abbrev pub file_fault : NamedFile → InputError → Fault
file_fault file input.Memory = fault.Memory
file_fault file other = fault.File file other

abbrev pub input_fault : InputError → Fault
input_fault input.NoFile = fault.ReadFault
input_fault input.NoPermission = fault.ReadFault
input_fault input.ReadFault = fault.ReadFault
input_fault input.TooLong = fault.TooLong
input_fault input.Memory = fault.Memory

-- how a command ends that was answered, and one that met a fault
abbrev pub answered : ℕ → Exit
answered status = record { status = status; fault = None }

abbrev pub refused : Fault → Exit
refused f = record { status = status_of f; fault = Some f }
