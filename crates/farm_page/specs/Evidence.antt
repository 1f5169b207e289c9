-- The texts of the evidence.
use Rattle.std.specs.Prelude.{ℕ, List, [], Option, Some, None, String, ◌++◌, codes, string_bytes}
use Rattle.std.specs.Global.{Global}
use Rattle.std.specs.Fmt.{decimal}
use Rattle.std.specs.List.{flat_map}
use Rattle.farm_page.specs.declared.view.Evidence.{Evidence}
use Rattle.farm_page.specs.declared.view.RelaxedPlan.{RelaxedPlan}
use Rattle.farm_page.specs.declared.view.SizeView.{SizeView}
use Rattle.farm_page.specs.declared.view.SizeView.TheVariants as size
use Rattle.text_pieces.specs.Lines.{ended}

-- each worker after a space
abbrev pub lost_words : List (String Global) → List ℕ
lost_words lost = flat_map (λ worker. codes " " ++ string_bytes worker) lost

abbrev pub lost_text : Evidence → List ℕ
lost_text evidence = ended (codes "lost" ++ lost_words evidence.lost.items)

abbrev pub attempt_text : Evidence → List ℕ
attempt_text evidence = ended (codes "attempt " ++ decimal evidence.attempt) ++ lost_text evidence

-- a text after the line that says what it is
abbrev pub part : List ℕ → List ℕ → List ℕ
part title text = ended title ++ text

-- the settings and the report of a plan that leaves out least numbers
abbrev pub plan_text : RelaxedPlan → List ℕ
plan_text plan = part (codes "relaxed settings") plan.settings.items ++ part (codes "relaxed report") plan.report.items

abbrev pub relaxed_text : Option RelaxedPlan → List ℕ
relaxed_text None = []
relaxed_text (Some plan) = plan_text plan

abbrev pub size_part : SizeView → List ℕ
size_part size.NotAsked = []
size_part size.NoRound = []
size_part size.NoMemory = []
size_part (size.Text attempt text) = part (codes "size") text.items

-- The number of the attempt, and what belongs to it: the lost workers, the status text, the report, what is in force in place of a plan,
-- and how many workers are missing.
abbrev pub evidence_text : Evidence → Option RelaxedPlan → SizeView → List ℕ
evidence_text evidence relaxed size =
    attempt_text evidence ++ part (codes "status") evidence.status.items ++ part (codes "report") evidence.report.items
    ++ relaxed_text relaxed ++ size_part size
