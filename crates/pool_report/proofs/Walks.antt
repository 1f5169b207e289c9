-- The lines of a report, taken one after another.
use Rattle.std.proofs.Common.{◌≡◌, ℕ, ◌+◌, ◌^◌, ◌<◌, ◌≤◌, List, [], ◌∷◌, ◌++◌, true, false, not, Option, Some, None, Ok, eqb, ltb, map, option_map, append_assoc, refl, ap, subst, sym, ◌∙◌, arith}
use Rattle.std.specs.List.{flat_map, slice_split}
use Rattle.std.proofs.lemmas.Bool.{and_parts, le-ltb, not-true}
use Rattle.std.proofs.lemmas.List.{append-nil}
use Rattle.plan_model.specs.Planning.{Assignment, Instance, need}
use Rattle.pool_settings.specs.Names.{is_name, name_at, place_of}
use Rattle.pool_settings.specs.Settings.{Settings}
use Rattle.pool_settings.specs.Slots.{slot_named}
use Rattle.pool_report.specs.Answered.{needed_at, stranded_at, reported_worker}
use Rattle.pool_report.specs.Law.{IsNamed, TellsLine, is_one_line}
use Rattle.pool_report.specs.Lines.{ReportLine}
use Rattle.pool_report.specs.Reading.{Draft, is_complete, meaning_from, place, place_function, place_line, with_entry}
use Rattle.text_pieces.specs.Lines.{is_line_feed}
use Rattle.pool_report.specs.Report.{needed_line, stranded_line, worker_line, name_of_worker}
use Rattle.pool_report.specs.declared.stage.Stage.{Stage}
use Rattle.pool_report.specs.declared.stage.Stage.TheVariants as stage
use Rattle.pool_report.proofs.Steps.{taken_line}
use Rattle.pool_report.proofs.Written.{lines_read}

-- The text leads from one draft to another, whatever stands after it.
abbrev pub Leads : Settings → Draft → List ℕ → Draft → Type 0
Leads p d text more =
    (n : ℕ) (rest : List ℕ) → (m : ℕ) × (meaning_from p n d (slice_split is_line_feed (text ++ rest)) ≡ meaning_from p m more (slice_split is_line_feed rest))

abbrev pub at : Stage → Option ℕ → List (ℕ × Option ℕ) → Option (List ℕ) → ℕ → ℕ → ℕ → Draft
at s backlog entries set a b c = record { stage = s; backlog = backlog; entries = entries; set = set; next_slot = a; next_function = b; next_stranded = c }

pub split_line : (line rest : List ℕ) → is_one_line line ≡ true → slice_split is_line_feed (line ++ 10 ∷ rest) ≡ line ∷ slice_split is_line_feed rest
split_line [] rest one = refl
split_line (x ∷ line) rest one =
    let parts = and_parts (not (eqb x 10)) (is_one_line line) one in
    let other : eqb x 10 ≡ false = not-true (eqb x 10) parts.0 in
    rw (other, split_line line rest parts.1) refl

module _ (p : Settings) where
  pub leads_none : (d : Draft) → Leads p d [] d
  leads_none d n rest = (n, refl)

  pub leads_on : (d e f : Draft) (s t : List ℕ) → Leads p d s e → Leads p e t f → Leads p d (s ++ t) f
  leads_on d e f s t a b n rest =
      let first = a n (t ++ rest) in
      let second = b first.0 rest in
      (second.0, ap (λ u. meaning_from p n d (slice_split is_line_feed u)) (append_assoc s t rest) ∙ first.1 ∙ second.1)

  pub leads_line : (d e : Draft) (text : List ℕ) (told : ReportLine) → TellsLine text told → place p d told ≡ Ok e → Leads p d text e
  leads_line d e text told line placed n rest =
      let shape : text ++ rest ≡ line.0 ++ 10 ∷ rest = ap (λ t. t ++ rest) line.1 ∙ append_assoc line.0 (10 ∷ []) rest in
      let split = split_line line.0 rest line.2 in
      let taken : place_line p d line.0 ≡ Ok e = rw line.3 placed in
      (n + 1, ap (λ u. meaning_from p n d (slice_split is_line_feed u)) shape ∙ ap (meaning_from p n d) split ∙ taken_line p n d line.0 rest e taken)

  -- ---- live workers

  pub record IsRead (plan : Assignment) (worker : ℕ × ℕ) : Type 0 where
    pub named : IsNamed (reported_worker p plan worker)
    pub slot : slot_named p (name_of_worker (reported_worker p plan worker)) ≡ Some worker.0
    pub function : (d : Draft) → place_function p worker.0 (option_map (name_at p.functions) (plan worker.0)) d ≡ Ok (with_entry worker.0 (plan worker.0) d)

  abbrev pub AreRead : Assignment → ℕ → List (ℕ × ℕ) → Type 0
  AreRead plan next [] = Unit {0}
  AreRead plan next (w ∷ ws) = (next ≤ w.0) × IsRead plan w × AreRead plan (w.0 + 1) ws

  pub tasks : (plan : Assignment) (ws : List (ℕ × ℕ)) (backlog : Option ℕ) (entries : List (ℕ × Option ℕ)) (next : ℕ) → AreRead plan next ws
      → (last : ℕ) × Leads p (at stage.Tasks backlog entries None next 0 0) (flat_map worker_line (map (reported_worker p plan) ws)) (at stage.Tasks backlog (entries ++ map (λ w. (w.0, plan w.0)) ws) None last 0 0)
  tasks plan [] backlog entries next read =
      (next, subst (λ es. Leads p (at stage.Tasks backlog entries None next 0 0) [] (at stage.Tasks backlog es None next 0 0)) (sym (append-nil entries)) (leads_none _))
  tasks plan (w ∷ ws) backlog entries next read =
      let d = at stage.Tasks backlog entries None next 0 0 in
      let e = at stage.Tasks backlog (entries ++ (w.0, plan w.0) ∷ []) None (w.0 + 1) 0 0 in
      let order : ltb w.0 next ≡ false = le-ltb w.0 next read.0 in
      let good = read.1 in
      let first : Leads p d (worker_line (reported_worker p plan w)) e = leads_line d e _ _ (lines_read.workers (reported_worker p plan w) good.named) (rw (good.slot, order) (good.function d)) in
      let rest = tasks plan ws backlog (entries ++ (w.0, plan w.0) ∷ []) (w.0 + 1) read.2 in
      (rest.0, subst (λ es. Leads p d (flat_map worker_line (map (reported_worker p plan) (w ∷ ws))) (at stage.Tasks backlog es None rest.0 0 0)) (append_assoc entries ((w.0, plan w.0) ∷ []) (map (λ w. (w.0, plan w.0)) ws)) (leads_on d e _ (worker_line (reported_worker p plan w)) (flat_map worker_line (map (reported_worker p plan) ws)) first rest.1))

  -- ---- functions

  pub record IsKnown (f : ℕ) : Type 0 where
    pub named : is_name (name_at p.functions f) ≡ true
    pub place : place_of p.functions (name_at p.functions f) ≡ Some f

  -- each is known, with a number that a line can hold
  abbrev pub AreKnown : (ℕ → ℕ) → ℕ → List ℕ → Type 0
  AreKnown number next [] = Unit {0}
  AreKnown number next (f ∷ fs) = (next ≤ f) × IsKnown f × (number f < 2 ^ 32) × AreKnown number (f + 1) fs

  pub needs : (i : Instance) (level : ℕ) (fs : List ℕ) (backlog : Option ℕ) (entries : List (ℕ × Option ℕ)) (set : List ℕ) (a next : ℕ) → AreKnown (need i level) next fs
      → (last : ℕ) × Leads p (at stage.Set backlog entries (Some set) a next 0) (flat_map needed_line (map (needed_at p i level) fs)) (at stage.Set backlog entries (Some (set ++ fs)) a last 0)
  needs i level [] backlog entries set a next known =
      (next, subst (λ fs. Leads p (at stage.Set backlog entries (Some set) a next 0) [] (at stage.Set backlog entries (Some fs) a next 0)) (sym (append-nil set)) (leads_none _))
  needs i level (f ∷ fs) backlog entries set a next known =
      let d = at stage.Set backlog entries (Some set) a next 0 in
      let e = at stage.Set backlog entries (Some (set ++ f ∷ [])) a (f + 1) 0 in
      let order : ltb f next ≡ false = le-ltb f next known.0 in
      let good = known.1 in
      let small : need i level f < 2 ^ 32 = known.2 in
      let few : need i level f < 2 ^ 64 = omega (arith, small) in
      let first : Leads p d (needed_line (needed_at p i level f)) e = leads_line d e _ _ (lines_read.needs (needed_at p i level f) good.named few) (rw (good.place, order) refl) in
      let rest = needs i level fs backlog entries (set ++ f ∷ []) a (f + 1) known.3 in
      (rest.0, subst (λ gs. Leads p d (flat_map needed_line (map (needed_at p i level) (f ∷ fs))) (at stage.Set backlog entries (Some gs) a rest.0 0)) (append_assoc set (f ∷ []) fs) (leads_on d e _ (needed_line (needed_at p i level f)) (flat_map needed_line (map (needed_at p i level) fs)) first rest.1))

  pub leftovers : (i : Instance) (number : ℕ → ℕ) (fs : List ℕ) (s : Stage) (backlog : Option ℕ) (entries : List (ℕ × Option ℕ)) (set : Option (List ℕ)) (a b next : ℕ)
      → ((f : ℕ) → (stranded_at p i f).waiting ≡ number f) → is_complete s ≡ true → AreKnown number next fs
      → (t : Stage) × (last : ℕ) × (is_complete t ≡ true) × Leads p (at s backlog entries set a b next) (flat_map stranded_line (map (stranded_at p i) fs)) (at t backlog entries set a b last)
  leftovers i number [] s backlog entries set a b next same complete known = (s, next, complete, leads_none _)
  leftovers i number (f ∷ fs) s backlog entries set a b next same complete known =
      let d = at s backlog entries set a b next in
      let e = at stage.Leftovers backlog entries set a b (f + 1) in
      let order : ltb f next ≡ false = le-ltb f next known.0 in
      let good = known.1 in
      let small : (stranded_at p i f).waiting < 2 ^ 32 = subst (λ n. n < 2 ^ 32) (sym (same f)) known.2 in
      let first : Leads p d (stranded_line (stranded_at p i f)) e = leads_line d e _ _ (lines_read.leftovers (stranded_at p i f) good.named small) (rw (complete, good.place, order) refl) in
      let rest = leftovers i number fs stage.Leftovers backlog entries set a b (f + 1) same refl known.3 in
      (rest.0, rest.1, rest.2, leads_on d e _ (stranded_line (stranded_at p i f)) (flat_map stranded_line (map (stranded_at p i) fs)) first rest.3)
