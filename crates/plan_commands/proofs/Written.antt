-- How the writing of a report ends.
use Rattle.std.proofs.Common.{◌≡◌, Err, inl, inr}
use Rattle.byte_io.specs.Sides.{Output}
use Rattle.plan_model.specs.Shown.{Shown}
use Rattle.plan_model.specs.declared.answer.Answer.{Answer}
use Rattle.pool_report.specs.Answered.{report_text}
use Rattle.pool_report.specs.Outcome.{WroteText}
use Rattle.pool_report.specs.declared.error.WriteError.{WriteError}
use Rattle.pool_report.specs.declared.error.WriteError.TheVariants as write
use Rattle.plan_commands.specs.Fault.{refused, write_fault}
use Rattle.plan_commands.specs.Plan.{WritesReport}
use Rattle.plan_commands.specs.declared.ending.Exit.{Exit}
use Rattle.plan_commands.specs.declared.problem.Problem.{Problem}

-- the report was not written, or not all of it
pub unwritten : (p : Problem) (answer : Answer) (old new : Output) (exit : Exit) (e : WriteError) → Shown p.input answer
    → WroteText {T = Unit {0}} old (report_text p.settings p.input answer) new (Err e) → exit ≡ refused (write_fault e) → WritesReport p old new exit
unwritten p answer old new exit (write.WriteFault count) shown wrote ends = inl (answer, shown, inr (count, wrote, ends))
unwritten p answer old new exit write.Memory shown wrote ends = inr (wrote, ends)
