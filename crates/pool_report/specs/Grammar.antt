-- A whole report: the texts that give an answer, by their parts and the names of the settings.
use Rattle.std.specs.Prelude.{◌≡◌, ◌≢◌, ℕ, ◌+◌, ◌<◌, ◌≤◌, ◌^◌, ◌↔◌, List, [], ◌∷◌, Option, Some, None, Ok, length, map, option_map}
use Rattle.plan_model.specs.declared.answer.Answer.{Answer}
use Rattle.plan_model.specs.declared.answer.Answer.TheVariants.{Planned, NoPlan}
use Rattle.pool_report.specs.Reading.{meaning}
use Rattle.pool_report.specs.Report.{Needed, Short, Stranded, Worker, no_plan, planned, report}
use Rattle.pool_settings.specs.Names.{name_at}
use Rattle.pool_settings.specs.Settings.{Settings}
use Rattle.pool_settings.specs.Slots.{machine_of, slots, worker_number}

-- a function of the settings, or none
abbrev pub IsFunctionOrNone : Settings → Option ℕ → Type 0
IsFunctionOrNone settings None = Unit {0}
IsFunctionOrNone settings (Some f) = f < length settings.functions

-- Slots of the settings, each above the one before and the first not below a number, with a function or none.
abbrev pub AreEntries : Settings → ℕ → List (ℕ × Option ℕ) → Type 0
AreEntries settings next [] = Unit {0}
AreEntries settings next (entry ∷ entries) =
    (next ≤ entry.0) × (entry.0 < slots settings) × IsFunctionOrNone settings entry.1 × AreEntries settings (entry.0 + 1) entries

-- a worker as its line names it
abbrev pub listed_worker : Settings → ℕ × Option ℕ → Worker
listed_worker settings entry = record {
  machine = name_at settings.machines (machine_of settings entry.0);
  number = worker_number settings entry.0;
  function = option_map (name_at settings.functions) entry.1;
}

-- Lines of functions of the settings, each above the one before, with any needs; and those functions.
abbrev pub AreNeeded : Settings → ℕ → List Needed → List ℕ → Type 0
AreNeeded settings next [] [] = Unit {0}
AreNeeded settings next (n ∷ lines) (f ∷ fs) =
    (next ≤ f) × (f < length settings.functions) × (n.function ≡ name_at settings.functions f) × (n.need < 2 ^ 64)
    × AreNeeded settings (f + 1) lines fs
AreNeeded settings next _ _ = ⊥

-- a set with any sums
abbrev pub IsSet : Settings → Short → List ℕ → Type 0
IsSet settings short set = (short.need < 2 ^ 64) × (short.have < 2 ^ 64) × AreNeeded settings 0 short.functions set

abbrev pub IsSetOrNone : Settings → Option Short → Option (List ℕ) → Type 0
IsSetOrNone settings None None = Unit {0}
IsSetOrNone settings (Some short) (Some set) = IsSet settings short set
IsSetOrNone settings _ _ = ⊥

-- Lines of stranded functions of the settings, each above the one before, with any number of jobs.
abbrev pub AreLeft : Settings → ℕ → List Stranded → Type 0
AreLeft settings next [] = Unit {0}
AreLeft settings next (s ∷ left) =
    (f : ℕ) × (next ≤ f) × (f < length settings.functions) × (s.function ≡ name_at settings.functions f) × (s.waiting < 2 ^ 32)
    × AreLeft settings (f + 1) left

-- The text is a report that gives this answer. What the set needs and has, and which functions are stranded with how many jobs, an answer
-- does not hold: there the text may say any.
abbrev pub IsReportOf : Settings → List ℕ → Answer → Type 0
IsReportOf settings text (Planned entries k set) =
    (short : Option Short) × (left : List Stranded) × (text ≡ report (planned k (map (listed_worker settings) entries) short) left)
    × (k < 2 ^ 33) × (k ≢ 2 ^ 32) × AreEntries settings 0 entries × IsSetOrNone settings short set × AreLeft settings 0 left
IsReportOf settings text (NoPlan set) =
    (short : Short) × (left : List Stranded) × (text ≡ report (no_plan short) left) × IsSet settings short set × AreLeft settings 0 left

-- A text means an answer exactly if it is a report that gives it.
abbrev pub AreTextsReports : Settings → Type 0
AreTextsReports settings = (text : List ℕ) (answer : Answer) → (meaning settings text ≡ Ok answer) ↔ IsReportOf settings text answer
