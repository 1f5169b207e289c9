-- Each line and each name that a report may have is read as what it says.
use Rattle.std.specs.Prelude.{◌≡◌, ◌≢◌, ℕ, ◌<◌, ◌^◌, List, Option, None, Some, Bool, not, ◌==◌, IsTrue, codes, length, map}
use Rattle.std.specs.List.{list_all}
use Rattle.pool_settings.specs.Names.{is_machine_name, is_name, name_at, place_of}
use Rattle.pool_settings.specs.Settings.{Settings}
use Rattle.pool_settings.specs.Slots.{machine_of, slot_named, slots}
use Rattle.plan_model.specs.Planning.{Assignment, Instance, assigned}
use Rattle.plan_model.specs.declared.answer.Answer.{Answer}
use Rattle.plan_model.specs.declared.answer.Answer.TheVariants.{Planned, NoPlan}
use Rattle.pool_settings.specs.Planning.{instance_of}
use Rattle.pool_report.specs.Answered.{report_text, reported_worker}
use Rattle.plan_model.specs.Shown.{Shown}
use Rattle.pool_report.specs.Lines.{ReportLine, head, backlog, no_plan, task, short, needed, stranded, last, is_worker, line_of}
use Rattle.pool_report.specs.Report.{Needed, Stranded, Worker, backlog_line, needed_line, short_line, stranded_line}
use Rattle.pool_report.specs.Report.{task_line, worker_line, name_of_worker}
use Rattle.text_pieces.specs.Lines.{ended}

-- no byte of it is a line feed
abbrev pub is_one_line : List ℕ → Bool
is_one_line line = list_all (λ b. not (b == 10)) line

-- The text is one line with its line feed, and says this.
abbrev pub TellsLine : List ℕ → ReportLine → Type 0
TellsLine text told = (line : List ℕ) × (text ≡ ended line) × IsTrue (is_one_line line) × (line_of line ≡ Some told)

abbrev pub HasName : Option (List ℕ) → Type 0
HasName None = Unit {0}
HasName (Some name) = IsTrue (is_name name)

-- The worker and its function have names and a number that settings can give them.
abbrev pub IsNamed : Worker → Type 0
IsNamed w = IsTrue (is_machine_name w.machine) × (w.number < 2 ^ 64) × HasName w.function

pub record AreLinesRead : Type 0 where
  pub first : TellsLine (ended (codes "report 1")) head
  pub counts : (k : ℕ) → k < 2 ^ 33 → k ≢ 2 ^ 32 → TellsLine (backlog_line k) (backlog k)
  pub none : TellsLine (ended (codes "noplan")) no_plan
  pub workers : (w : Worker) → IsNamed w → TellsLine (worker_line w) (task (name_of_worker w) w.function)
  pub sums : (need have : ℕ) → need < 2 ^ 64 → have < 2 ^ 64 → TellsLine (short_line need have) short
  pub needs : (n : Needed) → IsTrue (is_name n.function) → n.need < 2 ^ 64 → TellsLine (needed_line n) (needed n.function)
  pub leftovers : (s : Stranded) → IsTrue (is_name s.function) → s.waiting < 2 ^ 32 → TellsLine (stranded_line s) (stranded s.function)
  pub end : TellsLine (ended (codes "end")) last

-- Each name that a report writes is found again as what it names.
pub record AreNamesFound (settings : Settings) : Type 0 where
  pub functions : (f : ℕ) → f < length settings.functions → place_of settings.functions (name_at settings.functions f) ≡ Some f
  pub workers : (plan : Assignment) (slot : ℕ) → slot < slots settings
      → slot_named settings (name_of_worker (reported_worker settings plan (slot, machine_of settings slot))) ≡ Some slot

-- the plan that a report lists: each live worker with its function, or none
abbrev pub listed_plan : Instance → Assignment → List (ℕ × Option ℕ)
listed_plan i plan = map (λ worker. (worker.0, plan worker.0)) i.live

-- the answer that a report gives: the same, with its plan listed for each live worker
abbrev pub retold : Instance → Answer → Answer
retold i (Planned entries k set) = Planned (listed_plan i (assigned entries)) k set
retold i (NoPlan set) = NoPlan set

-- The planning problem is one of these settings.
abbrev pub IsOf : Settings → Instance → Type 0
IsOf settings i = (live : List Bool) × (waiting : List ℕ) × (i ≡ instance_of settings live waiting)

-- No other answer that is shown has the same report.
abbrev pub IsTheOnlyOne : Settings → Instance → Answer → Type 0
IsTheOnlyOne settings i answer =
    (other : Answer) → Shown i other → report_text settings i other ≡ report_text settings i answer → retold i other ≡ retold i answer

-- The text is a line with its line feed, written as what it says: its words, its names and its numbers without leading zeros, with one
-- space between them.
abbrev pub Encodes : List ℕ → ReportLine → Type 0
Encodes text head = text ≡ ended (codes "report 1")
Encodes text (backlog k) = (k < 2 ^ 33) × (k ≢ 2 ^ 32) × (text ≡ backlog_line k)
Encodes text no_plan = text ≡ ended (codes "noplan")
Encodes text (task worker function) = IsTrue (is_worker worker) × HasName function × (text ≡ task_line worker function)
Encodes text short = (need : ℕ) × (have : ℕ) × (need < 2 ^ 64) × (have < 2 ^ 64) × (text ≡ short_line need have)
Encodes text (needed f) =
    (need : ℕ) × IsTrue (is_name f) × (need < 2 ^ 64) × (text ≡ needed_line (record { function = f; need = need }))
Encodes text (stranded f) =
    (waiting : ℕ) × IsTrue (is_name f) × (waiting < 2 ^ 32) × (text ≡ stranded_line (record { function = f; waiting = waiting }))
Encodes text last = text ≡ ended (codes "end")

-- A line says something only as it is written.
abbrev pub AreLinesEncoded : Type 0
AreLinesEncoded = (line : List ℕ) (told : ReportLine) → line_of line ≡ Some told → Encodes (ended line) told
