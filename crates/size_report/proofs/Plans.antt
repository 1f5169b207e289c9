-- The lines of the workers of a plan, taken.
use Rattle.std.proofs.Common.{◌≡◌, ℕ, ◌+◌, ◌<◌, ◌≤◌, List, [], ◌∷◌, ◌++◌, true, false, Option, Some, None, eqb, ltb, length, get_or, All, append_assoc, refl, sym, subst, inl, inr}
use Rattle.std.specs.Prelude.{codes}
use Rattle.std.specs.Fmt.{decimal}
use Rattle.std.specs.List.{AllByRecursion, flat_map, list_all, list_any}
use Rattle.std.specs.List.Sorted.{IsStrictlyIncreasing}
use Rattle.std.proofs.lemmas.Bool.{and_parts, cases_lt, eqb-true, false≢true, le-ltb, or_cases}
use Rattle.std.proofs.lemmas.List.{append-nil, get_or-map, get_or_past}
use Rattle.std.proofs.lemmas.List.Elements.{All-from_get_or, recursion_from_All}
use Rattle.std.proofs.lemmas.List.Sums.{AllPass-from_list_all}
use Rattle.plan_model.specs.Planning.{Assignment, Instance, assigned, is_live, is_permitted, may_have, slots_of}
use Rattle.plan_model.proofs.Hall.{Rising}
use Rattle.plan_model.proofs.Places.{assigned_at}
use Rattle.plan_sizing.specs.Shown.{IsPermitted}
use Rattle.plan_sizing.specs.Sizing.{Farm, IsFarm, grown}
use Rattle.pool_settings.specs.Names.{name_at}
use Rattle.pool_settings.specs.Settings.{AreSettings, Settings}
use Rattle.pool_settings.specs.Slots.{slots}
use Rattle.pool_report.specs.Lines.{task}
use Rattle.pool_report.specs.Report.{worker_line}
use Rattle.pool_report.proofs.Found.{function_found}
use Rattle.pool_report.proofs.Whole.{Below, may_below, numbers_above}
use Rattle.size_report.specs.Grown.{told_worker, worker_of}
use Rattle.size_report.specs.Law.{listed_plan}
use Rattle.size_report.specs.Lines.{shared}
use Rattle.size_report.specs.Reading.{before_set, before_tasks, is_complete}
use Rattle.size_report.specs.Text.{task_if}
use Rattle.size_report.specs.declared.stage.Kind.{Kind}
use Rattle.size_report.specs.declared.stage.Stage.{Stage}
use Rattle.size_report.specs.declared.stage.Stage.TheVariants as stage
use Rattle.size_report.proofs.Named.{back}
use Rattle.size_report.proofs.Encoded.{work_told}
use Rattle.size_report.proofs.Walks.{Leads, at, leads_line, leads_none, leads_on}
use Rattle.size_report.proofs.Written.{listed_slots}

-- ---- the functions of a plan are there

module _ (i : Instance) (n : ℕ) (rows : All (λ row. All (λ f. f < n) row) i.may) where
  row_below : (m : ℕ) → AllByRecursion (λ f. f < n) (get_or i.may m [])
  row_below m = elim (cases_lt m (length i.may)) [
    | inl inside ↦ recursion_from_All (λ f. f < n) (get_or i.may m []) (rows m [] inside)
    | inr past ↦ rw (get_or_past i.may m [] past) tt
  ]

  had : (m : ℕ) (o : Option ℕ) → may_have i m o ≡ true → Below n o
  had m None may = tt
  had m (Some f) may = may_below n f (get_or i.may m []) (row_below m) may

  of_live : (plan : Assignment) (slot : ℕ) (ws : List (ℕ × ℕ)) → list_any (λ w. eqb w.0 slot) ws ≡ true → list_all (λ w. may_have i w.1 (plan w.0)) ws ≡ true → Below n (plan slot)
  of_live plan slot [] live may = absurd (false≢true live)
  of_live plan slot (w ∷ ws) live may =
      let parts = and_parts (may_have i w.1 (plan w.0)) (list_all (λ w. may_have i w.1 (plan w.0)) ws) may in
      elim (or_cases (eqb w.0 slot) (list_any (λ w. eqb w.0 slot) ws) live) [
        | inl same ↦ subst (λ s. Below n (plan s)) (eqb-true w.0 slot same) (had w.1 (plan w.0) parts.0)
        | inr other ↦ of_live plan slot ws other parts.1
      ]

-- the slot has a worker, and the function is there
abbrev pub IsListed : ℕ → ℕ → ℕ × Option ℕ → Type 0
IsListed many n entry = (entry.0 < many) × Below n entry.1

pub listed : (farm : Farm) (added : List ℕ) (entries : List (ℕ × Option ℕ)) → IsFarm farm → IsPermitted farm added entries → IsStrictlyIncreasing (slots_of entries)
    → All (IsListed (farm.slots + length added) (length farm.problem.least)) entries
listed farm added entries sound permitted rises = All-from_get_or (IsListed (farm.slots + length added) (length farm.problem.least)) entries (0, None) each
  where
    each : (k : ℕ) → k < length entries → IsListed (farm.slots + length added) (length farm.problem.least) (get_or entries k (0, None))
    each k inside =
        let g = grown farm added in
        let slot = (get_or entries k (0, None)).0 in
        let parts = and_parts (list_all (λ entry. is_live g entry.0) entries) (is_permitted g (assigned entries)) permitted.plan in
        let live : is_live g slot ≡ true = AllPass-from_list_all (λ entry. is_live g entry.0) entries parts.0 k (0, None) inside in
        let below = of_live g (length farm.problem.least) sound.instance.within (assigned entries) slot g.live live parts.1 in
        let here : assigned entries slot ≡ (get_or entries k (0, None)).1 =
        assigned_at entries rises slot k (0, None) inside (get_or-map (λ (e : ℕ × Option ℕ). e.0) entries k (0, None) 0 inside) in
        (listed_slots farm added entries sound permitted k (0, None) inside, subst (Below (length farm.problem.least)) here below)

-- ---- their lines

-- what may stand after the lines of the workers
pub record IsOpen (s : Stage) : Type 0 where
  pub tasks : before_tasks s ≡ true
  pub set : before_set s ≡ true
  pub complete : is_complete s ≡ true

module _ (p : Settings) (valid : AreSettings p) (added : List ℕ) (there : All (λ m. m < length p.machines) added) (few : length added ≤ 4096) where
  pub tasks_lead : (es : List (ℕ × Option ℕ)) (s : Stage) (k : Kind) (done : List (ℕ × Option ℕ)) (a low : ℕ) → IsOpen s
      → AllByRecursion (λ slot. low ≤ slot) (slots_of es) → Rising (slots_of es) → AllByRecursion (IsListed (slots p + length added) (length p.functions)) es
      → (t : Stage) × (last : ℕ) × IsOpen t × Leads p (at s k added done None a low 0) (flat_map (task_if p added) es) (at t k added (done ++ listed_plan es) None a last 0)
  tasks_lead [] s k done a low free from rises fine =
      (s, low, free, subst (λ ds. Leads p (at s k added done None a low 0) [] (at s k added ds None a low 0)) (sym (append-nil done)) (leads_none p _))
  tasks_lead ((slot, None) ∷ es) s k done a low free from rises fine = tasks_lead es s k done a low free from.1 rises.1 fine.1
  tasks_lead ((slot, Some f) ∷ es) s k done a low free from rises fine =
      let d = at s k added done None a low 0 in
      let e = at stage.Tasks k added (done ++ (slot, Some f) ∷ []) None a (slot + 1) 0 in
      let order : ltb slot low ≡ false = le-ltb slot low from.0 in
      let worker = worker_of p added slot in
      let good = back p valid added there few slot fine.0.0 in
      let name = name_at p.machines worker.0 ++ codes "/" ++ decimal worker.1 in
      let line = worker_line (told_worker p added slot f) in
      let told = work_told (name_at p.machines worker.0) worker.1 (name_at p.functions f) (valid.machines_named worker.0 [] good.machine) good.small (valid.functions_named f [] fine.0.1) in
      let first : Leads p d line e = leads_line p d e line (shared (task name (Some (name_at p.functions f)))) told (rw (free.tasks, good.found, order, function_found p valid f fine.0.1) refl) in
      let rest = tasks_lead es stage.Tasks k (done ++ (slot, Some f) ∷ []) a (slot + 1) (record { tasks = refl; set = refl; complete = refl }) (numbers_above slot (slots_of es) rises.0) rises.1 fine.1 in (
        rest.0,
        rest.1,
        rest.2,
        subst (λ ds. Leads p d (flat_map (task_if p added) ((slot, Some f) ∷ es)) (at rest.0 k added ds None a rest.1 0)) (append_assoc done ((slot, Some f) ∷ []) (listed_plan es))
            (leads_on p d e _ line (flat_map (task_if p added) es) first rest.3),
      )
