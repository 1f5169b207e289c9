-- The texts with which the plan of an attempt can be checked.
use Rattle.std.specs.Prelude.{◌≡◌, ℕ, [], ◌∷◌, List, ◌++◌, Ok, codes, if◌then◌else◌, length, map, slice_index, string_bytes}
use Rattle.std.specs.Fmt.{decimal}
use Rattle.std.specs.List.{flat_map, range_with_len}
use Rattle.farm_page.specs.declared.view.Evidence.{Evidence}
use Rattle.gear_status.specs.Status.{Line, status}
use Rattle.plan_model.specs.Certificate.{Certificate}
use Rattle.plan_model.specs.Planning.{Instance, is_live}
use Rattle.plan_model.specs.Shown.{Shown}
use Rattle.pool_report.specs.Answered.{report_text}
use Rattle.pool_settings.specs.Names.{name_at}
use Rattle.pool_settings.specs.Planning.{waiting_of}
use Rattle.pool_settings.specs.Settings.{Settings}
use Rattle.pool_settings.specs.Slots.{slots, worker_name}
use Rattle.pool_supervisor.specs.Steps.{IsMadeOf}

-- the line of a function for which so many jobs wait, and none runs
abbrev pub status_line : List ℕ → ℕ → List ℕ
status_line name waiting = name ++ 9 ∷ decimal waiting ++ codes "\t0\t0\n"

-- the lines of these functions, for which so many jobs wait
abbrev pub status_lines : List (List ℕ) → List ℕ → List ℕ
status_lines names waiting = flat_map (λ f. status_line (name_at names f) (slice_index waiting f)) (range_with_len 0 (length names))

-- a status text in which so many jobs wait for each of these functions
abbrev pub status_text : List (List ℕ) → List ℕ → List ℕ
status_text names waiting = status_lines names waiting ++ codes ".\n"

-- The text means a load in which so many jobs wait for each function of the settings.
pub record IsReadAs (settings : Settings) (waiting text : List ℕ) : Type 0 where
  pub load : List Line
  pub read : status text ≡ Ok load
  pub waits : waiting_of settings load ≡ waiting

-- the name of a slot's worker, if that is not live
abbrev pub lost_at : Settings → Instance → ℕ → List (List ℕ)
lost_at settings input slot = if is_live input slot then [] else worker_name settings slot ∷ []

-- the workers of the settings that are not live in the input
abbrev pub lost_workers : Settings → Instance → List (List ℕ)
lost_workers settings input = flat_map (lost_at settings input) (range_with_len 0 (slots settings))

-- The evidence is that of this answer: its report, a status text of the jobs that wait in its input, and the workers that are not live
-- in it.
pub record IsEvidenceOf (settings : Settings) (certified : Certificate) (evidence : Evidence) : Type 0 where
  pub report : evidence.report.items ≡ report_text settings certified.input certified.answer
  pub status : IsReadAs settings certified.input.waiting evidence.status.items
  pub lost : map string_bytes evidence.lost.items ≡ lost_workers settings certified.input

-- the same evidence, held apart
pub record IsSameEvidence (old new : Evidence) : Type 0 where
  pub attempt : new.attempt ≡ old.attempt
  pub report : new.report.items ≡ old.report.items
  pub status : new.status.items ≡ old.status.items
  pub lost : map string_bytes new.lost.items ≡ map string_bytes old.lost.items

-- The evidence is that of an answer that is shown for its input, and the input is one of these settings.
pub record IsOfAShownAnswer (evidence : Evidence) : Type 0 where
  pub settings : Settings
  pub certified : Certificate
  pub input : IsMadeOf settings certified.input
  pub shown : Shown certified.input certified.answer
  pub is_its : IsEvidenceOf settings certified evidence
