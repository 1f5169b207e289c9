-- A text means a size exactly where it is one that the grammar gives.
use Rattle.std.proofs.Common.{◌≡◌, ℕ, ◌+◌, ◌^◌, ◌<◌, ◌≤◌, List, [], ◌∷◌, ◌++◌, true, false, Option, Some, None, IfSome, Ok, ltb, leb, length, replicate, All, append_assoc, refl, ap, sym, subst, ◌∙◌, arith}
use Rattle.std.specs.Prelude.{IsTrue, codes}
use Rattle.std.specs.Fmt.{decimal}
use Rattle.std.specs.List.{flat_map}
use Rattle.std.proofs.lemmas.Bool.{le-leb, le-ltb, lt-ltb}
use Rattle.std.proofs.lemmas.List.{append-nil, length-append, length-replicate}
use Rattle.std.proofs.lemmas.List.Elements.{All-append, All-nil, All-replicate}
use Rattle.plan_sizing.specs.declared.size.Obstacle.{Obstacle}
use Rattle.plan_sizing.specs.declared.size.Obstacle.TheVariants.{AboveMost, NoMachine}
use Rattle.plan_sizing.specs.declared.size.Size.{Size}
use Rattle.plan_sizing.specs.declared.size.Size.TheVariants.{Enough, Never, TooMany}
use Rattle.pool_report.specs.Grammar.{AreNeeded, IsSet, IsSetOrNone}
use Rattle.pool_report.specs.Lines.{needed, short, task}
use Rattle.pool_report.specs.Report.{Needed, Short, needed_line, short_if, short_line, short_lines, worker_line}
use Rattle.pool_report.proofs.Found.{function_found}
use Rattle.pool_settings.specs.Names.{is_name, name_at, place_of}
use Rattle.pool_settings.specs.Settings.{AreSettings, Settings}
use Rattle.pool_settings.specs.Slots.{slots}
use Rattle.pool_settings.proofs.Searches.{place_is}
use Rattle.size_report.specs.Grammar.{AreAdded, AreTextsSizes, AreWorkers, IsAround, IsLevelOrNone, IsObstacle, IsTextOf, machine_line, machines_added}
use Rattle.size_report.specs.Grown.{told_worker, worker_of}
use Rattle.size_report.specs.Lines.{above_most, add, no_machine, on, shared, too_many}
use Rattle.size_report.specs.Reading.{before_set, is_complete, size_meaning, size_with}
use Rattle.size_report.specs.Text.{above_most_line, add_line, no_machine_line, obstacle_line, task_if, too_many_line}
use Rattle.size_report.specs.declared.stage.Kind.{Kind}
use Rattle.size_report.specs.declared.stage.Kind.TheVariants as kind
use Rattle.size_report.specs.declared.stage.Stage.{Stage}
use Rattle.size_report.specs.declared.stage.Stage.TheVariants as stage
use Rattle.size_report.proofs.Encoded.{above_told, add_told, needed_told, nobody_told, on_told, sums_told, too_many_told, work_told}
use Rattle.size_report.proofs.GrammarsBack.{text_back}
use Rattle.size_report.proofs.Named.{back}
use Rattle.size_report.proofs.Plans.{IsOpen}
use Rattle.size_report.proofs.Walks.{Leads, asked, at, closed, leads_line, leads_none, leads_on}

some_level : (level : Option ℕ) → IsLevelOrNone level → IfSome level (λ n. 0 < n)
some_level None there = tt
some_level (Some n) there = there.0

small_level : (level : Option ℕ) → IsLevelOrNone level → IfSome level (λ n. n < 2 ^ 32)
small_level None there = tt
small_level (Some n) there = there.1

open_tasks : IsOpen stage.Tasks
open_tasks = record { tasks = refl; set = refl; complete = refl }

module _ (p : Settings) (valid : AreSettings p) where
  -- ---- machines

  machines_there : (machines : List (ℕ × ℕ)) (next : ℕ) → AreAdded p next machines → All (λ m. m < length p.machines) (machines_added machines)
  machines_there [] next there = All-nil (λ m. m < length p.machines)
  machines_there (m ∷ machines) next there =
      All-append (λ m. m < length p.machines) (replicate m.1 m.0) (machines_added machines) (All-replicate (λ m. m < length p.machines) m.1 m.0 there.1) (machines_there machines (m.0 + 1) there.3)

  machines_lead : (machines : List (ℕ × ℕ)) (ms : List ℕ) (next : ℕ) → AreAdded p next machines → length (ms ++ machines_added machines) ≤ 4096
      → (last : ℕ) × Leads p (at stage.Added kind.Enough ms [] None next 0 0) (flat_map (machine_line p) machines) (at stage.Added kind.Enough (ms ++ machines_added machines) [] None last 0 0)
  machines_lead [] ms next there few =
      (next, subst (λ (ns : List ℕ). Leads p (at stage.Added kind.Enough ms [] None next 0 0) [] (at stage.Added kind.Enough ns [] None next 0 0)) (sym (append-nil ms)) (leads_none p _))
  machines_lead (m ∷ machines) ms next there few =
      let now = ms ++ replicate m.1 m.0 in
      let later = machines_added machines in
      let all : now ++ later ≡ ms ++ machines_added (m ∷ machines) = append_assoc ms (replicate m.1 m.0) later in
      let room : length (now ++ later) ≤ 4096 = subst (λ (ns : List ℕ). length ns ≤ 4096) (sym all) few in
      let fits : length ms + m.1 ≤ 4096 = omega (arith, room, length-append now later, length-append ms (replicate m.1 m.0), length-replicate m.1 m.0) in
      let name = name_at p.machines m.0 in
      let d = at stage.Added kind.Enough ms [] None next 0 0 in
      let e = at stage.Added kind.Enough now [] None (m.0 + 1) 0 0 in
      let found : place_of p.machines name ≡ Some m.0 = place_is p.machines name m.0 valid.machines_rise there.1 refl in
      let order : ltb m.0 next ≡ false = le-ltb m.0 next there.0 in
      let busy : ltb 0 m.1 ≡ true = lt-ltb 0 m.1 there.2 in
      let test : leb (length ms + m.1) 4096 ≡ true = le-leb (length ms + m.1) 4096 fits in
      let line = machine_line p m in
      let first : Leads p d line e = leads_line p d e line (on name m.1) (on_told name m.1 (valid.machines_named m.0 [] there.1) (omega (arith, fits))) (rw (found, order, busy, test) refl) in
      let rest = machines_lead machines now (m.0 + 1) there.3 room in (
        rest.0,
        subst (λ (ns : List ℕ). Leads p d (flat_map (machine_line p) (m ∷ machines)) (at stage.Added kind.Enough ns [] None rest.0 0 0)) all
            (leads_on p d e _ line (flat_map (machine_line p) machines) first rest.1),
      )

  -- ---- workers

  workers_lead : (added : List ℕ) → All (λ m. m < length p.machines) added → length added ≤ 4096
      → (workers : List (ℕ × Option ℕ)) (s : Stage) (es : List (ℕ × Option ℕ)) (a low : ℕ) → IsOpen s → AreWorkers p (slots p + length added) low workers
      → (t : Stage) × (last : ℕ) × IsOpen t × Leads p (at s kind.Enough added es None a low 0) (flat_map (task_if p added) workers) (at t kind.Enough added (es ++ workers) None a last 0)
  workers_lead added known few [] s es a low free there =
      (s, low, free, subst (λ (fs : List (ℕ × Option ℕ)). Leads p (at s kind.Enough added es None a low 0) [] (at s kind.Enough added fs None a low 0)) (sym (append-nil es)) (leads_none p _))
  workers_lead added known few ((slot, None) ∷ workers) s es a low free there = absurd there
  workers_lead added known few ((slot, Some f) ∷ workers) s es a low free there =
      let d = at s kind.Enough added es None a low 0 in
      let e = at stage.Tasks kind.Enough added (es ++ (slot, Some f) ∷ []) None a (slot + 1) 0 in
      let order : ltb slot low ≡ false = le-ltb slot low there.0 in
      let worker = worker_of p added slot in
      let good = back p valid added known few slot there.1 in
      let name = name_at p.machines worker.0 ++ codes "/" ++ decimal worker.1 in
      let line = worker_line (told_worker p added slot f) in
      let told = work_told (name_at p.machines worker.0) worker.1 (name_at p.functions f) (valid.machines_named worker.0 [] good.machine) good.small (valid.functions_named f [] there.2) in
      let first : Leads p d line e = leads_line p d e line (shared (task name (Some (name_at p.functions f)))) told (rw (free.tasks, good.found, order, function_found p valid f there.2) refl) in
      let rest = workers_lead added known few workers stage.Tasks (es ++ (slot, Some f) ∷ []) a (slot + 1) open_tasks there.3 in (
        rest.0,
        rest.1,
        rest.2,
        subst (λ (fs : List (ℕ × Option ℕ)). Leads p d (flat_map (task_if p added) ((slot, Some f) ∷ workers)) (at rest.0 kind.Enough added fs None a rest.1 0)) (append_assoc es ((slot, Some f) ∷ []) workers)
            (leads_on p d e _ line (flat_map (task_if p added) workers) first rest.3),
      )

  -- ---- the set

  named_so : (name : List ℕ) (f : ℕ) → f < length p.functions → name ≡ name_at p.functions f → IsTrue (is_name name)
  named_so name f below is = subst (λ (n : List ℕ). IsTrue (is_name n)) (sym is) (valid.functions_named f [] below)

  needs_lead : (lines : List Needed) (fs : List ℕ) (k : Kind) (ms : List ℕ) (es : List (ℕ × Option ℕ)) (set : List ℕ) (a b c : ℕ) → AreNeeded p c lines fs
      → (last : ℕ) × Leads p (at stage.Set k ms es (Some set) a b c) (flat_map needed_line lines) (at stage.Set k ms es (Some (set ++ fs)) a b last)
  needs_lead [] [] k ms es set a b c there =
      (c, subst (λ (gs : List ℕ). Leads p (at stage.Set k ms es (Some set) a b c) [] (at stage.Set k ms es (Some gs) a b c)) (sym (append-nil set)) (leads_none p _))
  needs_lead [] (f ∷ fs) k ms es set a b c there = absurd there
  needs_lead (n ∷ lines) [] k ms es set a b c there = absurd there
  needs_lead (n ∷ lines) (f ∷ fs) k ms es set a b c there =
      let d = at stage.Set k ms es (Some set) a b c in
      let e = at stage.Set k ms es (Some (set ++ f ∷ [])) a b (f + 1) in
      let order : ltb f c ≡ false = le-ltb f c there.0 in
      let found : place_of p.functions n.function ≡ Some f = ap (place_of p.functions) there.2 ∙ function_found p valid f there.1 in
      let first : Leads p d (needed_line n) e = leads_line p d e (needed_line n) (shared (needed n.function)) (needed_told n (named_so n.function f there.1 there.2) there.3) (rw (found, order) refl) in
      let rest = needs_lead lines fs k ms es (set ++ f ∷ []) a b (f + 1) there.4 in (
        rest.0,
        subst (λ (gs : List ℕ). Leads p d (flat_map needed_line (n ∷ lines)) (at stage.Set k ms es (Some gs) a b rest.0)) (append_assoc set (f ∷ []) fs)
            (leads_on p d e _ (needed_line n) (flat_map needed_line lines) first rest.1),
      )

  short_lead : (sums : Short) (set : List ℕ) (s : Stage) (k : Kind) (ms : List ℕ) (es : List (ℕ × Option ℕ)) (a b : ℕ) → IsSet p sums set → before_set s ≡ true
      → (last : ℕ) × Leads p (at s k ms es None a b 0) (short_lines sums) (at stage.Set k ms es (Some set) a b last)
  short_lead sums set s k ms es a b is before =
      let d = at s k ms es None a b 0 in
      let e = at stage.Set k ms es (Some []) a b 0 in
      let line = short_line sums.need sums.have in
      let first : Leads p d line e = leads_line p d e line (shared short) (sums_told sums.need sums.have is.0 is.1) (rw before refl) in
      let rest = needs_lead sums.functions set k ms es [] a b 0 is.2 in
      (rest.0, leads_on p d e _ line (flat_map needed_line sums.functions) first rest.1)

  -- ---- the whole text

  around_on : (lines text : List ℕ) (s : Stage) (k : Kind) (ms : List ℕ) (es : List (ℕ × Option ℕ)) (set : Option (List ℕ)) (a b c : ℕ) → IsAround lines text → is_complete s ≡ true
      → Leads p asked lines (at s k ms es set a b c) → size_meaning p text ≡ Ok (size_with k (at stage.Done k ms es set a b c))
  around_on lines text s k ms es set a b c around complete led =
      ap (size_meaning p) around.2 ∙ closed p around.0 (some_level around.0 around.1) (small_level around.0 around.1) lines s k ms es set a b c complete led

  -- the lines up to the last worker's
  plan_lead : (many : ℕ) (machines : List (ℕ × ℕ)) (workers : List (ℕ × Option ℕ)) → many < 2 ^ 32 → AreAdded p 0 machines → length (machines_added machines) ≤ 4096
      → AreWorkers p (slots p + length (machines_added machines)) 0 workers
      → (t : Stage) × (a : ℕ) × (b : ℕ) × IsOpen t
      × Leads p asked (add_line many ++ flat_map (machine_line p) machines ++ flat_map (task_if p (machines_added machines)) workers) (at t kind.Enough (machines_added machines) workers None a b 0)
  plan_lead many machines workers small there few listed =
      let added = machines_added machines in
      let d = at stage.Added kind.Enough [] [] None 0 0 0 in
      let first : Leads p asked (add_line many) d = leads_line p asked d (add_line many) add (add_told many small) refl in
      let ons = machines_lead machines [] 0 there few in
      let e = at stage.Added kind.Enough added [] None ons.0 0 0 in
      let works = workers_lead added (machines_there machines 0 there) few workers stage.Added [] ons.0 0 (record { tasks = refl; set = refl; complete = refl }) listed in
      let works_text = flat_map (task_if p added) workers in
      let ons_text = flat_map (machine_line p) machines in (
        works.0,
        ons.0,
        works.1,
        works.2,
        leads_on p asked e _ (add_line many ++ ons_text) works_text (leads_on p asked d e (add_line many) ons_text first ons.1) works.3,
      )

  addition_on : (text : List ℕ) (many : ℕ) (machines : List (ℕ × ℕ)) (workers : List (ℕ × Option ℕ)) (sums : Option Short) (set : Option (List ℕ))
      → IsAround (add_line many ++ flat_map (machine_line p) machines ++ flat_map (task_if p (machines_added machines)) workers ++ short_if sums) text
      → many < 2 ^ 32 → AreAdded p 0 machines → length (machines_added machines) ≤ 4096 → AreWorkers p (slots p + length (machines_added machines)) 0 workers → IsSetOrNone p sums set
      → size_meaning p text ≡ Ok (Enough (machines_added machines) workers set)
  addition_on text many machines workers None None around small there few listed is =
      let added = machines_added machines in
      let plan = plan_lead many machines workers small there few listed in
      let lines = add_line many ++ flat_map (machine_line p) machines ++ flat_map (task_if p added) workers in
      let d = at plan.0 kind.Enough added workers None plan.1 plan.2 0 in
      around_on (lines ++ []) text plan.0 kind.Enough added workers None plan.1 plan.2 0 around plan.3.complete (leads_on p asked d d lines [] plan.4 (leads_none p d))
  addition_on text many machines workers (Some sums) (Some set) around small there few listed is =
      let added = machines_added machines in
      let plan = plan_lead many machines workers small there few listed in
      let lines = add_line many ++ flat_map (machine_line p) machines ++ flat_map (task_if p added) workers in
      let d = at plan.0 kind.Enough added workers None plan.1 plan.2 0 in
      let sets = short_lead sums set plan.0 kind.Enough added workers plan.1 plan.2 is plan.3.set in
      around_on (lines ++ short_lines sums) text stage.Set kind.Enough added workers (Some set) plan.1 plan.2 sets.0 around refl (leads_on p asked d _ lines (short_lines sums) plan.4 sets.1)
  addition_on text many machines workers None (Some set) around small there few listed is = absurd is
  addition_on text many machines workers (Some sums) None around small there few listed is = absurd is

  never_on : (text : List ℕ) (o : Obstacle) → IsAround (obstacle_line p o) text → IsObstacle p o → size_meaning p text ≡ Ok (Never o)
  never_on text (AboveMost f need most) around fits =
      let name = name_at p.functions f in
      let d = at stage.Barred (kind.Never (AboveMost f need most)) [] [] None 0 0 0 in
      around_on (above_most_line name need most) text stage.Barred (kind.Never (AboveMost f need most)) [] [] None 0 0 0 around refl
      (leads_line p asked d (above_most_line name need most) (above_most name need most) (above_told name need most (valid.functions_named f [] fits.0) fits.1 fits.2) (rw (function_found p valid f fits.0) refl))
  never_on text (NoMachine f need) around fits =
      let name = name_at p.functions f in
      let d = at stage.Barred (kind.Never (NoMachine f need)) [] [] None 0 0 0 in
      around_on (no_machine_line name need) text stage.Barred (kind.Never (NoMachine f need)) [] [] None 0 0 0 around refl
      (leads_line p asked d (no_machine_line name need) (no_machine name need) (nobody_told name need (valid.functions_named f [] fits.0) fits.1) (rw (function_found p valid f fits.0) refl))

  too_many_on : (text : List ℕ) (many : ℕ) (set : List ℕ) (sums : Short) → IsAround (too_many_line many ++ short_lines sums) text → many < 2 ^ 64 → IsSet p sums set
      → size_meaning p text ≡ Ok (TooMany many set)
  too_many_on text many set sums around small is =
      let d = at stage.Beyond (kind.TooMany many) [] [] None 0 0 0 in
      let first : Leads p asked (too_many_line many) d = leads_line p asked d (too_many_line many) (too_many many) (too_many_told many small) refl in
      let sets = short_lead sums set stage.Beyond (kind.TooMany many) [] [] 0 0 is refl in
      around_on (too_many_line many ++ short_lines sums) text stage.Set (kind.TooMany many) [] [] (Some set) 0 0 sets.0 around refl
      (leads_on p asked d _ (too_many_line many) (short_lines sums) first sets.1)

  text_on : (text : List ℕ) (size : Size) → IsTextOf p text size → size_meaning p text ≡ Ok size
  text_on text (Enough added workers set) is =
      subst (λ (ms : List ℕ). size_meaning p text ≡ Ok (Enough ms workers set)) (sym is.6)
      (addition_on text is.0 is.1 workers is.2 set (subst (λ (ms : List ℕ). IsAround (add_line is.0 ++ flat_map (machine_line p) is.1 ++ flat_map (task_if p ms) workers ++ short_if is.2) text) is.6 is.3) is.4 is.5
      (subst (λ (ms : List ℕ). length ms ≤ 4096) is.6 is.7) (subst (λ (ms : List ℕ). AreWorkers p (slots p + length ms) 0 workers) is.6 is.8) is.9)
  text_on text (Never o) is = never_on text o is.0 is.1
  text_on text (TooMany many set) is = too_many_on text many set is.0 is.2 is.3 is.1

  pub texts_sizes : AreTextsSizes p
  texts_sizes text size = (text_back p valid size text, text_on text size)
