-- A text that gives an addition with its plan, read.
use Rattle.std.proofs.Common.{◌≡◌, ℕ, ◌+◌, ◌^◌, ◌<◌, ◌≤◌, List, [], ◌++◌, Option, Some, None, Ok, length, option_map, All, refl, ap, subst, ◌∙◌, arith}
use Rattle.std.specs.Prelude.{codes}
use Rattle.std.specs.List.{flat_map}
use Rattle.std.specs.List.Sorted.{IsNonDecreasing, IsStrictlyIncreasing}
use Rattle.std.proofs.lemmas.List.Elements.{recursion_from_All}
use Rattle.plan_model.specs.Planning.{slots_of}
use Rattle.plan_model.proofs.Hall.{rising}
use Rattle.plan_sizing.specs.Shown.{IsShownAddition}
use Rattle.plan_sizing.specs.Sizing.{Farm, IsFarm}
use Rattle.plan_sizing.specs.declared.size.Size.TheVariants.{Enough}
use Rattle.pool_settings.specs.Settings.{AreSettings, Settings}
use Rattle.pool_settings.specs.Slots.{slots}
use Rattle.pool_report.specs.Report.{short_if, short_lines}
use Rattle.pool_report.proofs.Whole.{numbers_from_0}
use Rattle.size_report.specs.Law.{IsReadBack, listed_plan, retold}
use Rattle.size_report.specs.Lines.{add}
use Rattle.size_report.specs.Reading.{size_meaning}
use Rattle.size_report.specs.Text.{add_line, level_line, on_lines, short_of, size_text, task_if}
use Rattle.size_report.specs.declared.stage.Kind.TheVariants as kind
use Rattle.size_report.specs.declared.stage.Stage.{Stage}
use Rattle.size_report.specs.declared.stage.Stage.TheVariants as stage
use Rattle.size_report.proofs.Added.{ascends, on_lead}
use Rattle.size_report.proofs.Plans.{IsListed, IsOpen, listed, tasks_lead}
use Rattle.size_report.proofs.Retold.{lines_same, shown_still}
use Rattle.size_report.proofs.Sets.{set_lead}
use Rattle.size_report.proofs.Encoded.{add_told}
use Rattle.size_report.proofs.Walks.{Leads, asked, at, closed, leads_line, leads_none, leads_on}
use Rattle.text_pieces.specs.Lines.{ended}

-- The farm has the permissions, the workers and the functions of these settings, and numbers that fit.
pub record IsTheirs (p : Settings) (farm : Farm) : Type 0 where
  pub may : farm.problem.may ≡ p.may
  pub slots : farm.slots ≡ slots p
  pub functions : length farm.problem.least ≡ length p.functions
  pub least : All (λ n. n < 2 ^ 32) farm.problem.least

module _ (p : Settings) (farm : Farm) (valid : AreSettings p) (sound : IsFarm farm) (theirs : IsTheirs p farm) (added : List ℕ) (entries : List (ℕ × Option ℕ)) where
  module _ (machines : IsNonDecreasing added) (rises : IsStrictlyIncreasing (slots_of entries)) where
    -- the lines up to the last worker's
    prefix_lead : (short : Option (List ℕ)) → IsShownAddition farm added entries short
        → (t : Stage) × (a : ℕ) × (b : ℕ) × IsOpen t × Leads p asked (add_line (length added) ++ on_lines p added ++ flat_map (task_if p added) entries) (at t kind.Enough added (listed_plan entries) None a b 0)
    prefix_lead short shown =
        let room : length added ≤ 4096 = omega (arith, shown.few) in
        let rows : length farm.problem.may ≡ length p.machines = ap length theirs.may ∙ valid.may_paired in
        let there : All (λ m. m < length p.machines) added = subst (λ n. All (λ m. m < n) added) rows shown.permitted.machines in
        let d = at stage.Added kind.Enough [] [] None 0 0 0 in
        let first : Leads p asked (add_line (length added)) d = leads_line p asked d (add_line (length added)) add (add_told (length added) (omega (arith, room))) refl in
        let ons = on_lead p valid added (length p.machines) 0 [] added 0 (omega arith) (omega arith) (ascends added 0 machines (λ some. omega arith)) (recursion_from_All (λ m. m < length p.machines) added there) (omega (arith, room)) (λ m from. refl) in
        let e = at stage.Added kind.Enough added [] None ons.0 0 0 in
        let all : All (IsListed (slots p + length added) (length p.functions)) entries =
        subst (λ n. All (IsListed (n + length added) (length p.functions)) entries) theirs.slots
        (subst (λ n. All (IsListed (farm.slots + length added) n) entries) theirs.functions (listed farm added entries sound shown.permitted rises)) in
        let works = tasks_lead p valid added there room entries stage.Added kind.Enough [] ons.0 0 (record { tasks = refl; set = refl; complete = refl }) (numbers_from_0 (slots_of entries)) (rising (slots_of entries) rises)
        (recursion_from_All (IsListed (slots p + length added) (length p.functions)) entries all) in (
          works.0,
          ons.0,
          works.1,
          works.2,
          leads_on p asked e _ (add_line (length added) ++ on_lines p added) (flat_map (task_if p added) entries) (leads_on p asked d e (add_line (length added)) (on_lines p added) first ons.1) works.3,
        )

    pub enough_read : (short : Option (List ℕ)) → IsShownAddition farm added entries short → size_meaning p (size_text p farm (Enough added entries short)) ≡ Ok (retold (Enough added entries short))
    enough_read None shown =
        let prefix = add_line (length added) ++ on_lines p added ++ flat_map (task_if p added) entries in
        let read = prefix_lead None shown in
        let d = at read.0 kind.Enough added (listed_plan entries) None read.1 read.2 0 in
        closed p farm.level sound.some sound.small (prefix ++ []) read.0 kind.Enough added (listed_plan entries) None read.1 read.2 0 read.3.complete (leads_on p asked d d prefix [] read.4 (leads_none p d))
    enough_read (Some set) shown =
        let prefix = add_line (length added) ++ on_lines p added ++ flat_map (task_if p added) entries in
        let read = prefix_lead (Some set) shown in
        let d = at read.0 kind.Enough added (listed_plan entries) None read.1 read.2 0 in
        let rest = set_lead p farm valid sound theirs.functions theirs.least (length added) set read.0 kind.Enough added (listed_plan entries) read.1 read.2 shown.evidence.1 read.3.set in
        closed p farm.level sound.some sound.small (prefix ++ short_lines (short_of p farm set)) stage.Set kind.Enough added (listed_plan entries) (Some set) read.1 read.2 rest.0 refl
        (leads_on p asked d _ prefix (short_lines (short_of p farm set)) read.4 rest.1)

    pub enough_read_back : (short : Option (List ℕ)) → IsShownAddition farm added entries short → IsReadBack p farm (Enough added entries short)
    enough_read_back short shown =
        let lines = ended (codes "size 1") ++ level_line farm.level in
        let prefix = add_line (length added) ++ on_lines p added in
        record {
          same = enough_read short shown;
          shown = shown_still farm added entries short rises shown;
          text = ap (λ t. lines ++ (prefix ++ t ++ short_if (option_map (short_of p farm) short)) ++ ended (codes "end")) (lines_same p added entries);
        }
