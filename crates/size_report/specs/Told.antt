-- The line that the code reads, as a definition says it.
use Rattle.pool_report.specs.Told.{line_view}
use Rattle.size_report.specs.Lines.{SizeLine, first, level, add, on, above_most, no_machine, too_many, shared}
use Rattle.size_report.specs.declared.line.Line.{Line as LinePart}
use Rattle.size_report.specs.declared.line.Line.TheVariants as part

abbrev pub size_line_view : LinePart → SizeLine
size_line_view part.Head = first
size_line_view part.Level = level
size_line_view part.Add = add
size_line_view (part.On machine count) = on machine.now count
size_line_view (part.AboveMost function need most) = above_most function.now need most
size_line_view (part.NoMachine function need) = no_machine function.now need
size_line_view (part.TooMany added) = too_many added
size_line_view (part.Shared line) = shared (line_view line)
