-- What `check-size` finds a text to be, what it writes, and how it ends.
use Rattle.std.specs.Prelude.{◌≡◌, ◌≢◌, ◌⊎◌, ℕ, List, ◌∷◌, [], ◌++◌, codes, Option, Some, Result, Ok, Err}
use Rattle.devices.specs.Whole.{IsNotWhole, IsUntouched, IsWhole}
use Rattle.devices.specs.declared.error.InputError.TheVariants as input
use Rattle.byte_io.specs.Sides.{Met, Output, Undisturbed}
use Rattle.gear_status.specs.Status.{Line}
use Rattle.toml.specs.Data.{Members}
use Rattle.plan_sizing.specs.Flaws.{flaw_label}
use Rattle.plan_sizing.specs.Shown.{IsFirstFlaw, Shown}
use Rattle.plan_sizing.specs.Sizing.{Farm}
use Rattle.plan_sizing.specs.declared.size.Size.{Size}
use Rattle.pool_settings.specs.Reading.{tree_of}
use Rattle.pool_settings.specs.Settings.{Settings}
use Rattle.refusal.specs.Label.{label_words}
use Rattle.plan_commands.specs.Ending.{Delivers, Stops}
use Rattle.plan_commands.specs.Fault.{answered}
use Rattle.plan_commands.specs.Mistake.{Reads}
use Rattle.plan_commands.specs.Problem.{problem}
use Rattle.plan_commands.specs.declared.ending.Exit.{Exit}
use Rattle.plan_commands.specs.declared.fault.Fault.{Fault}
use Rattle.plan_commands.specs.declared.fault.Fault.TheVariants as fault
use Rattle.plan_commands.specs.declared.problem.Problem.{Problem}
use Rattle.size_command.specs.Farms.{farm_of}
use Rattle.size_command.specs.declared.check.SizeVerdict.{SizeVerdict}
use Rattle.size_command.specs.declared.check.SizeVerdict.TheVariants as verdict
use Rattle.size_report.specs.Reading.{size_meaning}
use Rattle.size_report.specs.Text.{size_text}

-- What a text is that gives this size: it is shown and the text is its own, it is shown and the text is another, or it is not shown.
abbrev pub FindsSize : Settings → Farm → List ℕ → Size → SizeVerdict → Type 0
FindsSize settings farm given_text size verdict.Shown = Shown farm size × (given_text ≡ size_text settings farm size)
FindsSize settings farm given_text size verdict.OtherText = Shown farm size × (given_text ≢ size_text settings farm size)
FindsSize settings farm given_text size (verdict.NotShown flaw) = IsFirstFlaw flaw farm size

abbrev pub size_verdict_line : SizeVerdict → List ℕ
size_verdict_line verdict.Shown = codes "shown" ++ 10 ∷ []
size_verdict_line verdict.OtherText = codes "not shown 7 Text" ++ 10 ∷ []
size_verdict_line (verdict.NotShown flaw) = codes "not shown " ++ label_words (flaw_label flaw) ++ 10 ∷ []

-- 0 if it is shown
abbrev pub size_verdict_status : SizeVerdict → ℕ
size_verdict_status verdict.Shown = 0
size_verdict_status verdict.OtherText = 1
size_verdict_status (verdict.NotShown flaw) = 1

-- what is found of a text, by the farm
abbrev pub FindsText : Settings → Farm → List ℕ → SizeVerdict → Type 0
FindsText settings farm given_text found =
    (size : Size) × (size_meaning settings given_text ≡ Ok size) × FindsSize settings farm given_text size found

-- what is found of a text, or why it is not read
abbrev pub JudgesSize : List ℕ → Option ℕ → Problem → List ℕ → Result SizeVerdict Fault → Type 0
JudgesSize settings_text level p given_text (Ok found) =
    (tree : Members) × (tree_of settings_text ≡ Some tree) × FindsText p.settings (farm_of tree p level) given_text found
JudgesSize settings_text level p given_text (Err (fault.Report e)) = size_meaning p.settings given_text ≡ Err e
JudgesSize settings_text level p given_text (Err fault.Memory) = Unit {0}
JudgesSize settings_text level p given_text (Err other) = ⊥

-- If there is a problem: what is found of the text that was met, or the first fault of the source and of the text. If there is
-- none: the fault that it is not posed by, and nothing is read.
abbrev pub ExaminesSize : List ℕ → Option ℕ → Result Problem Fault → Met → Result SizeVerdict Fault → Type 0
ExaminesSize settings_text level (Ok p) met (Ok found) = IsWhole met × JudgesSize settings_text level p met.bytes (Ok found)
ExaminesSize settings_text level (Ok p) met (Err (fault.Report e)) = IsWhole met × (size_meaning p.settings met.bytes ≡ Err e)
ExaminesSize settings_text level (Ok p) met (Err fault.TooLong) = IsNotWhole met input.TooLong
ExaminesSize settings_text level (Ok p) met (Err fault.ReadFault) = IsNotWhole met input.ReadFault
ExaminesSize settings_text level (Ok p) met (Err fault.Memory) = Undisturbed met
ExaminesSize settings_text level (Ok p) met (Err other) = ⊥
ExaminesSize settings_text level (Err f) met (Ok found) = ⊥
ExaminesSize settings_text level (Err f) met (Err told) = ((told ≡ f) ⊎ (told ≡ fault.Memory)) × IsUntouched met

-- The line of what is found is written. Or memory is refused, and nothing is written.
abbrev pub PronouncesSize : SizeVerdict → Output → Output → Exit → Type 0
PronouncesSize found old new exit =
    Delivers (size_verdict_line found) (answered (size_verdict_status found)) old new exit ⊎ Stops fault.Memory old new exit

-- The text is examined for the problem, and the line of what is found is written. Or it is not, by a fault, and nothing is written.
abbrev pub ChecksSize : List ℕ → Option ℕ → Result Problem Fault → Met → Output → Output → Exit → Type 0
ChecksSize settings_text level posed met old new exit =
    ((found : SizeVerdict) × ExaminesSize settings_text level posed met (Ok found) × PronouncesSize found old new exit)
    ⊎ ((f : Fault) × ExaminesSize settings_text level posed met (Err f) × Stops f old new exit)

-- The same of a settings text, lost workers and the load of a status text.
abbrev pub ChecksSizeText : List ℕ → Option ℕ → List (List ℕ) → Result (List Line) Fault → Met → Output → Output → Exit → Type 0
ChecksSizeText settings_text level lost load met old new exit =
    (settings : Result Settings Fault) × Reads settings_text settings
    × ChecksSize settings_text level (problem settings lost load) met old new exit

-- What a text is found to be, or the first fault, by a settings text, lost workers and the load of a status text.
abbrev pub ExaminesSizeText : List ℕ → Option ℕ → List (List ℕ) → Result (List Line) Fault → Met → Result SizeVerdict Fault → Type 0
ExaminesSizeText settings_text level lost load met result =
    (settings : Result Settings Fault) × Reads settings_text settings
    × ExaminesSize settings_text level (problem settings lost load) met result
