-- What `check` finds a report to be, what it writes, and how it ends.
use Rattle.std.specs.Prelude.{◌≡◌, ◌≢◌, ◌⊎◌, ℕ, List, ◌∷◌, [], ◌++◌, codes, Result, Ok, Err}
use Rattle.devices.specs.Whole.{IsNotWhole, IsUntouched, IsWhole}
use Rattle.devices.specs.declared.error.InputError.TheVariants as input
use Rattle.byte_io.specs.Sides.{Met, Output, Undisturbed}
use Rattle.gear_status.specs.Status.{Line}
use Rattle.plan_model.specs.Reasons.{reason_label}
use Rattle.plan_model.specs.Shown.{IsFirstReason, Shown}
use Rattle.plan_model.specs.declared.answer.Answer.{Answer}
use Rattle.pool_report.specs.Answered.{report_text}
use Rattle.pool_report.specs.Reading.{meaning}
use Rattle.pool_settings.specs.Settings.{Settings}
use Rattle.refusal.specs.Label.{label_words}
use Rattle.plan_commands.specs.Ending.{Delivers, Stops}
use Rattle.plan_commands.specs.Fault.{answered}
use Rattle.plan_commands.specs.Mistake.{Reads}
use Rattle.plan_commands.specs.Problem.{problem}
use Rattle.plan_commands.specs.declared.check.Verdict.{Verdict}
use Rattle.plan_commands.specs.declared.check.Verdict.TheVariants as verdict
use Rattle.plan_commands.specs.declared.ending.Exit.{Exit}
use Rattle.plan_commands.specs.declared.fault.Fault.{Fault}
use Rattle.plan_commands.specs.declared.fault.Fault.TheVariants as fault
use Rattle.plan_commands.specs.declared.problem.Problem.{Problem}

-- What a report is that gives this answer: it is shown and the text is its report, it is shown and the text is another, or it is not shown.
abbrev pub Finds : Problem → List ℕ → Answer → Verdict → Type 0
Finds p given_text answer verdict.Shown = Shown p.input answer × (given_text ≡ report_text p.settings p.input answer)
Finds p given_text answer verdict.OtherText = Shown p.input answer × (given_text ≢ report_text p.settings p.input answer)
Finds p given_text answer (verdict.NotShown reason) = IsFirstReason reason p.input answer

abbrev pub verdict_line : Verdict → List ℕ
verdict_line verdict.Shown = codes "shown" ++ 10 ∷ []
verdict_line verdict.OtherText = codes "not shown 7 Text" ++ 10 ∷ []
verdict_line (verdict.NotShown reason) = codes "not shown " ++ label_words (reason_label reason) ++ 10 ∷ []

-- 0 if it is shown
abbrev pub verdict_status : Verdict → ℕ
verdict_status verdict.Shown = 0
verdict_status verdict.OtherText = 1
verdict_status (verdict.NotShown reason) = 1

-- what is found of a report, or why it is not read
abbrev pub Judges : Problem → List ℕ → Result Verdict Fault → Type 0
Judges p given_text (Ok found) = (answer : Answer) × (meaning p.settings given_text ≡ Ok answer) × Finds p given_text answer found
Judges p given_text (Err (fault.Report e)) = meaning p.settings given_text ≡ Err e
Judges p given_text (Err fault.Memory) = Unit {0}
Judges p given_text (Err other) = ⊥

-- If there is a problem: what is found of the report that was met, or the first fault of the source and of the report. If there is
-- none: the fault that it is not posed by, and nothing is read.
abbrev pub Examines : Result Problem Fault → Met → Result Verdict Fault → Type 0
Examines (Ok p) met (Ok found) = IsWhole met × Judges p met.bytes (Ok found)
Examines (Ok p) met (Err (fault.Report e)) = IsWhole met × (meaning p.settings met.bytes ≡ Err e)
Examines (Ok p) met (Err fault.TooLong) = IsNotWhole met input.TooLong
Examines (Ok p) met (Err fault.ReadFault) = IsNotWhole met input.ReadFault
Examines (Ok p) met (Err fault.Memory) = Undisturbed met
Examines (Ok p) met (Err other) = ⊥
Examines (Err f) met (Ok found) = ⊥
Examines (Err f) met (Err told) = ((told ≡ f) ⊎ (told ≡ fault.Memory)) × IsUntouched met

-- The line of what is found is written. Or memory is refused, and nothing is written.
abbrev pub Pronounces : Verdict → Output → Output → Exit → Type 0
Pronounces found old new exit =
    Delivers (verdict_line found) (answered (verdict_status found)) old new exit ⊎ Stops fault.Memory old new exit

-- The report is examined for the problem, and the line of what is found is written. Or it is not, by a fault, and nothing is written.
abbrev pub Checks : Result Problem Fault → Met → Output → Output → Exit → Type 0
Checks posed met old new exit =
    ((found : Verdict) × Examines posed met (Ok found) × Pronounces found old new exit)
    ⊎ ((f : Fault) × Examines posed met (Err f) × Stops f old new exit)

-- The same of a settings text, lost workers and the load of a status text.
abbrev pub ChecksText : List ℕ → List (List ℕ) → Result (List Line) Fault → Met → Output → Output → Exit → Type 0
ChecksText settings_text lost load met old new exit =
    (settings : Result Settings Fault) × Reads settings_text settings × Checks (problem settings lost load) met old new exit

-- What a report is found to be, or the first fault, by a settings text, lost workers and the load of a status text.
abbrev pub ExaminesText : List ℕ → List (List ℕ) → Result (List Line) Fault → Met → Result Verdict Fault → Type 0
ExaminesText settings_text lost load met result =
    (settings : Result Settings Fault) × Reads settings_text settings × Examines (problem settings lost load) met result
