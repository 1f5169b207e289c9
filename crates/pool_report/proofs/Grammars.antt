-- A whole text means an answer exactly where it is a report that tells it.
use Rattle.std.proofs.Common.{◌≡◌, ◌≢◌, ℕ, ◌+◌, ◌^◌, ◌<◌, List, [], ◌∷◌, ◌++◌, true, false, Option, Some, None, Ok, ltb, length, map, append_assoc, refl, ap, sym, subst, ◌∙◌}
use Rattle.std.specs.Prelude.{IsTrue, codes}
use Rattle.std.specs.List.{flat_map, slice_split}
use Rattle.std.proofs.lemmas.Bool.{le-ltb}
use Rattle.std.proofs.lemmas.List.{append-nil}
use Rattle.plan_model.specs.declared.answer.Answer.{Answer}
use Rattle.plan_model.specs.declared.answer.Answer.TheVariants.{Planned, NoPlan}
use Rattle.pool_settings.specs.Names.{is_name, name_at, place_of}
use Rattle.pool_settings.specs.Settings.{AreSettings, Settings}
use Rattle.pool_settings.specs.Slots as slots
use Rattle.pool_settings.proofs.SlotSums.{machine_found}
use Rattle.pool_report.specs.Grammar.{AreEntries, AreLeft, AreNeeded, AreTextsReports, IsFunctionOrNone, IsReportOf, IsSet, IsSetOrNone, listed_worker}
use Rattle.pool_report.specs.Lines.{backlog, head, last, no_plan, short}
use Rattle.pool_report.specs.Reading.{is_complete, meaning, meaning_from, place, start}
use Rattle.text_pieces.specs.Lines.{ended, is_line_feed}
use Rattle.pool_report.specs.Report.{Needed, Short, Stranded, backlog_line, needed_line, planned, report, short_if, short_line, short_lines, stranded_line, task_line, worker_line, name_of_worker}
use Rattle.pool_report.specs.Report as report_specs
use Rattle.pool_report.specs.declared.stage.Stage.{Stage}
use Rattle.pool_report.specs.declared.stage.Stage.TheVariants as stage
use Rattle.pool_report.proofs.Found.{function_found}
use Rattle.pool_report.proofs.Walks.{Leads, at, leads_line, leads_none, leads_on}
use Rattle.pool_report.proofs.Whole.{Below, worker_read}
use Rattle.pool_report.proofs.Written.{lines_read}
use Rattle.pool_report.proofs.GrammarsBack.{out, report_back}

-- ---- what is encoded, read

module _ (p : Settings) (valid : AreSettings p) where
  below_of : (o : Option ℕ) → IsFunctionOrNone p o → Below (length p.functions) o
  below_of None there = tt
  below_of (Some f) there = there

  tasks_lead : (more : List (ℕ × Option ℕ)) (k : ℕ) (es : List (ℕ × Option ℕ)) (next : ℕ) → AreEntries p next more
      → (last : ℕ) × Leads p (at stage.Tasks (Some k) es None next 0 0) (flat_map worker_line (map (listed_worker p) more)) (at stage.Tasks (Some k) (es ++ more) None last 0 0)
  tasks_lead [] k es next entries =
      (next, subst (λ (fs : List (ℕ × Option ℕ)). Leads p (at stage.Tasks (Some k) es None next 0 0) [] (at stage.Tasks (Some k) fs None next 0 0)) (sym (append-nil es)) (leads_none p _))
  tasks_lead (e ∷ more) k es next entries =
      let d = at stage.Tasks (Some k) es None next 0 0 in
      let then_on = at stage.Tasks (Some k) (es ++ e ∷ []) None (e.0 + 1) 0 0 in
      let order : ltb e.0 next ≡ false = le-ltb e.0 next entries.0 in
      let machine = slots.machine_of p e.0 in
      let good = worker_read p valid (λ (s : ℕ). e.1) (e.0, machine) (machine_found p e.0 machine valid entries.1 refl) (below_of e.1 entries.2) in
      let first : Leads p d (worker_line (listed_worker p e)) then_on = leads_line p d then_on _ _ (lines_read.workers (listed_worker p e) good.named) (rw (good.slot, order) (good.function d)) in
      let rest = tasks_lead more k (es ++ e ∷ []) (e.0 + 1) entries.3 in (
        rest.0,
        subst (λ (fs : List (ℕ × Option ℕ)). Leads p d (flat_map worker_line (map (listed_worker p) (e ∷ more))) (at stage.Tasks (Some k) fs None rest.0 0 0)) (append_assoc es (e ∷ []) more)
            (leads_on p d then_on _ (worker_line (listed_worker p e)) (flat_map worker_line (map (listed_worker p) more)) first rest.1),
      )

  named_so : (name : List ℕ) (f : ℕ) → f < length p.functions → name ≡ name_at p.functions f → IsTrue (is_name name)
  named_so name f below is = subst (λ (n : List ℕ). IsTrue (is_name n)) (sym is) (valid.functions_named f [] below)

  found_so : (name : List ℕ) (f : ℕ) → f < length p.functions → name ≡ name_at p.functions f → place_of p.functions name ≡ Some f
  found_so name f below is = ap (place_of p.functions) is ∙ function_found p valid f below

  needs_lead : (lines : List Needed) (fs : List ℕ) (b : Option ℕ) (es : List (ℕ × Option ℕ)) (set : List ℕ) (a c : ℕ) → AreNeeded p c lines fs
      → (last : ℕ) × Leads p (at stage.Set b es (Some set) a c 0) (flat_map needed_line lines) (at stage.Set b es (Some (set ++ fs)) a last 0)
  needs_lead [] [] b es set a c there =
      (c, subst (λ (gs : List ℕ). Leads p (at stage.Set b es (Some set) a c 0) [] (at stage.Set b es (Some gs) a c 0)) (sym (append-nil set)) (leads_none p _))
  needs_lead [] (f ∷ fs) b es set a c there = absurd there
  needs_lead (n ∷ lines) [] b es set a c there = absurd there
  needs_lead (n ∷ lines) (f ∷ fs) b es set a c there =
      let d = at stage.Set b es (Some set) a c 0 in
      let then_on = at stage.Set b es (Some (set ++ f ∷ [])) a (f + 1) 0 in
      let order : ltb f c ≡ false = le-ltb f c there.0 in
      let found = found_so n.function f there.1 there.2 in
      let first : Leads p d (needed_line n) then_on = leads_line p d then_on _ _ (lines_read.needs n (named_so n.function f there.1 there.2) there.3) (rw (found, order) refl) in
      let rest = needs_lead lines fs b es (set ++ f ∷ []) a (f + 1) there.4 in (
        rest.0,
        subst (λ (gs : List ℕ). Leads p d (flat_map needed_line (n ∷ lines)) (at stage.Set b es (Some gs) a rest.0 0)) (append_assoc set (f ∷ []) fs)
            (leads_on p d then_on _ (needed_line n) (flat_map needed_line lines) first rest.1),
      )

  left_lead : (left : List Stranded) (s : Stage) (b : Option ℕ) (es : List (ℕ × Option ℕ)) (set : Option (List ℕ)) (a c l : ℕ) → is_complete s ≡ true → AreLeft p l left
      → (t : Stage) × (last : ℕ) × (is_complete t ≡ true) × Leads p (at s b es set a c l) (flat_map stranded_line left) (at t b es set a c last)
  left_lead [] s b es set a c l complete there = (s, l, complete, leads_none p _)
  left_lead (one ∷ left) s b es set a c l complete there =
      let f = there.0 in
      let d = at s b es set a c l in
      let then_on = at stage.Leftovers b es set a c (f + 1) in
      let order : ltb f l ≡ false = le-ltb f l there.1 in
      let found = found_so one.function f there.2 there.3 in
      let first : Leads p d (stranded_line one) then_on = leads_line p d then_on _ _ (lines_read.leftovers one (named_so one.function f there.2 there.3) there.4) (rw (complete, found, order) refl) in
      let rest = left_lead left stage.Leftovers b es set a c (f + 1) refl there.5 in
      (rest.0, rest.1, rest.2, leads_on p d then_on _ (stranded_line one) (flat_map stranded_line left) first rest.3)

  short_lead : (sums : Short) (set : List ℕ) (s : Stage) (b : Option ℕ) (es : List (ℕ × Option ℕ)) (a : ℕ) → IsSet p sums set
      → place p (at s b es None a 0 0) short ≡ Ok (at stage.Set b es (Some []) a 0 0)
      → (c : ℕ) × Leads p (at s b es None a 0 0) (short_lines sums) (at stage.Set b es (Some set) a c 0)
  short_lead sums set s b es a is placed =
      let first = leads_line p (at s b es None a 0 0) (at stage.Set b es (Some []) a 0 0) (short_line sums.need sums.have) short (lines_read.sums sums.need sums.have is.0 is.1) placed in
      let rest = needs_lead sums.functions set b es [] a 0 is.2 in
      (rest.0, leads_on p _ _ _ (short_line sums.need sums.have) (flat_map needed_line sums.functions) first rest.1)

  -- stranded functions and the end, after what has told an answer
  closed : (prefix : List ℕ) (left : List Stranded) (s : Stage) (b : Option ℕ) (es : List (ℕ × Option ℕ)) (set : Option (List ℕ)) (a c : ℕ) → is_complete s ≡ true
      → Leads p start (ended (codes "report 1") ++ prefix) (at s b es set a c 0) → AreLeft p 0 left
      → meaning p (ended (codes "report 1") ++ prefix ++ flat_map stranded_line left ++ ended (codes "end")) ≡ Ok (out p b es set)
  closed prefix left s b es set a c complete on there =
      let rest = left_lead left s b es set a c 0 complete there in
      let d = at rest.0 b es set a c rest.1 in
      let e = at stage.Done b es set a c rest.1 in
      let done : Leads p d (ended (codes "end")) e = leads_line p d e (ended (codes "end")) last lines_read.end (rw rest.2 refl) in
      let text = ended (codes "report 1") ++ prefix ++ flat_map stranded_line left ++ ended (codes "end") in
      let all = leads_on p start d e (ended (codes "report 1") ++ prefix ++ flat_map stranded_line left) (ended (codes "end"))
      (leads_on p start (at s b es set a c 0) d (ended (codes "report 1") ++ prefix) (flat_map stranded_line left) on rest.3) done in
      let read = all 1 [] in
      ap (λ (t : List ℕ). meaning_from p 1 start (slice_split is_line_feed t)) (sym (append-nil text)) ∙ read.1

  headed : Leads p start (ended (codes "report 1")) (at stage.Verdict None [] None 0 0 0)
  headed = leads_line p start (at stage.Verdict None [] None 0 0 0) (ended (codes "report 1")) head lines_read.first refl

  counted : (k : ℕ) (entries : List (ℕ × Option ℕ)) → k < 2 ^ 33 → k ≢ 2 ^ 32 → AreEntries p 0 entries
      → (a : ℕ) × Leads p (at stage.Verdict None [] None 0 0 0) (backlog_line k ++ flat_map worker_line (map (listed_worker p) entries)) (at stage.Tasks (Some k) entries None a 0 0)
  counted k entries small other there =
      let d = at stage.Verdict None [] None 0 0 0 in
      let e = at stage.Tasks (Some k) [] None 0 0 0 in
      let count : Leads p d (backlog_line k) e = leads_line p d e (backlog_line k) (backlog k) (lines_read.counts k small other) refl in
      let rest = tasks_lead entries k [] 0 there in
      (rest.0, leads_on p d e (at stage.Tasks (Some k) entries None rest.0 0 0) (backlog_line k) (flat_map worker_line (map (listed_worker p) entries)) count rest.1)

  -- a plan's lines, with a set or none
  planned_lead : (k : ℕ) (entries : List (ℕ × Option ℕ)) (sums : Option Short) (set : Option (List ℕ)) (left : List Stranded) → k < 2 ^ 33 → k ≢ 2 ^ 32 → AreEntries p 0 entries
      → IsSetOrNone p sums set → AreLeft p 0 left → meaning p (report (planned k (map (listed_worker p) entries) sums) left) ≡ Ok (Planned entries k set)
  planned_lead k entries None None left small other there is rest =
      let lines = backlog_line k ++ flat_map worker_line (map (listed_worker p) entries) in
      let first = counted k entries small other there in
      let d = at stage.Verdict None [] None 0 0 0 in
      let e = at stage.Tasks (Some k) entries None first.0 0 0 in
      closed (lines ++ []) left stage.Tasks (Some k) entries None first.0 0 refl
      (leads_on p start d e (ended (codes "report 1")) (lines ++ []) headed (leads_on p d e e lines [] first.1 (leads_none p e))) rest
  planned_lead k entries (Some sums) (Some set) left small other there is rest =
      let lines = backlog_line k ++ flat_map worker_line (map (listed_worker p) entries) in
      let first = counted k entries small other there in
      let d = at stage.Verdict None [] None 0 0 0 in
      let e = at stage.Tasks (Some k) entries None first.0 0 0 in
      let sized = short_lead sums set stage.Tasks (Some k) entries first.0 is refl in
      let f = at stage.Set (Some k) entries (Some set) first.0 sized.0 0 in
      closed (lines ++ short_lines sums) left stage.Set (Some k) entries (Some set) first.0 sized.0 refl
      (leads_on p start d f (ended (codes "report 1")) (lines ++ short_lines sums) headed (leads_on p d e f lines (short_lines sums) first.1 sized.1)) rest
  planned_lead k entries None (Some set) left small other there is rest = absurd is
  planned_lead k entries (Some sums) None left small other there is rest = absurd is

  none_lead : (sums : Short) (set : List ℕ) (left : List Stranded) → IsSet p sums set → AreLeft p 0 left → meaning p (report (report_specs.no_plan sums) left) ≡ Ok (NoPlan set)
  none_lead sums set left is rest =
      let d = at stage.Verdict None [] None 0 0 0 in
      let e = at stage.Bare None [] None 0 0 0 in
      let bare : Leads p d (ended (codes "noplan")) e = leads_line p d e (ended (codes "noplan")) no_plan lines_read.none refl in
      let sized = short_lead sums set stage.Bare None [] 0 is refl in
      let f = at stage.Set None [] (Some set) 0 sized.0 0 in
      closed (ended (codes "noplan") ++ short_lines sums) left stage.Set None [] (Some set) 0 sized.0 refl
      (leads_on p start d f (ended (codes "report 1")) (ended (codes "noplan") ++ short_lines sums) headed (leads_on p d e f (ended (codes "noplan")) (short_lines sums) bare sized.1)) rest

  report_on : (text : List ℕ) (answer : Answer) → IsReportOf p text answer → meaning p text ≡ Ok answer
  report_on text (Planned entries k set) is = ap (meaning p) is.2 ∙ planned_lead k entries is.0 set is.1 is.3 is.4 is.5 is.6 is.7
  report_on text (NoPlan set) is = ap (meaning p) is.2 ∙ none_lead is.0 set is.1 is.3 is.4

  pub texts_reports : AreTextsReports p
  texts_reports text answer = (report_back p valid answer text, report_on text answer)
