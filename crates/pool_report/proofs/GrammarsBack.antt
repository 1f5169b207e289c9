-- A text that means an answer is a report that tells it.
use Rattle.std.proofs.Common.{◌≡◌, ℕ, ◌+◌, ◌<◌, ◌≤◌, List, [], ◌∷◌, ◌++◌, Bool, true, false, Option, Some, None, Ok, Err, eqb, ltb, length, map, option_map, append_assoc, refl, ap, sym, subst, ◌∙◌, arith}
use Rattle.std.specs.Prelude.{Result, codes, unwrap_or}
use Rattle.std.specs.Fmt.{decimal}
use Rattle.std.specs.List.{flat_map, slice_split}
use Rattle.std.specs.Option.{option_map_or}
use Rattle.std.proofs.lemmas.Bool.{eqb-true}
use Rattle.std.proofs.lemmas.Bool.Decides.{nat_tests}
use Rattle.std.proofs.lemmas.List.{append-nil}
use Rattle.plan_model.specs.declared.answer.Answer.{Answer}
use Rattle.plan_model.specs.declared.answer.Answer.TheVariants.{Planned, NoPlan}
use Rattle.pool_settings.specs.Names.{name_at, place_of}
use Rattle.pool_settings.specs.Settings.{AreSettings, Settings}
use Rattle.pool_settings.specs.Slots as slots
use Rattle.pool_settings.proofs.OneToOne.{names_paired, slots_paired}
use Rattle.pool_report.specs.Grammar.{AreEntries, AreLeft, AreNeeded, IsFunctionOrNone, IsReportOf, IsSet, IsSetOrNone, listed_worker}
use Rattle.pool_report.specs.Law.{Encodes}
use Rattle.pool_report.specs.Lines.{ReportLine, backlog, head, last, line_of, needed, no_plan, short, stranded, task}
use Rattle.pool_report.specs.Reading.{Draft, is_complete, meaning, meaning_from, place, place_function, start}
use Rattle.text_pieces.specs.Lines.{ended, is_line_feed}
use Rattle.pool_report.specs.Report.{Needed, Short, Stranded, backlog_line, needed_line, short_if, short_line, short_lines, stranded_line, task_line, worker_line, name_of_worker}
use Rattle.pool_report.specs.declared.stage.Misread.{Misread}
use Rattle.pool_report.specs.declared.stage.Misread.TheVariants as misread
use Rattle.pool_report.specs.declared.stage.Stage.{Stage}
use Rattle.pool_report.specs.declared.stage.Stage.TheVariants as stage
use Rattle.pool_report.proofs.Encoded.{lines_encoded}
use Rattle.text_pieces.proofs.Lines.{first_part}
use Rattle.pool_report.proofs.Walks.{at}

not_ok : {A E : Type 0} (e : E) (a : A) → Err e ≡ Ok a → ⊥
not_ok e a h = absurd cc

same_ok : {A E : Type 0} (a b : A) → ◌≡◌ {A = Result A E} (Ok a) (Ok b) → a ≡ b
same_ok a b h = cc

-- ---- a text and its parts

abbrev pub text_of : List (List ℕ) → List ℕ
text_of [] = []
text_of (line ∷ []) = line
text_of (line ∷ next ∷ rest) = line ++ 10 ∷ text_of (next ∷ rest)

onto : (x : ℕ) (h : List ℕ) (t : List (List ℕ)) → text_of ((x ∷ h) ∷ t) ≡ x ∷ text_of (h ∷ t)
onto x h [] = refl
onto x h (next ∷ rest) = refl

joined : (text : List ℕ) → text_of (slice_split is_line_feed text) ≡ text
joined [] = refl
joined (x ∷ xs) = by (is_line_feed x) refl (first_part xs) (joined xs)
  where
    by : (b : Bool) → is_line_feed x ≡ b → ((h : List ℕ) × (t : List (List ℕ)) × (slice_split is_line_feed xs ≡ h ∷ t)) → text_of (slice_split is_line_feed xs) ≡ xs
        → text_of (slice_split is_line_feed (x ∷ xs)) ≡ x ∷ xs
    by true feed parts rest =
        let tail : text_of (parts.0 ∷ parts.1) ≡ xs = rw parts.2 at rest in
        rw (feed, parts.2) (ap (λ (t : List ℕ). 10 ∷ t) tail ∙ ap (λ (b : ℕ). b ∷ xs) (sym (eqb-true x 10 feed)))
    by false other parts rest =
        let tail : text_of (parts.0 ∷ parts.1) ≡ xs = rw parts.2 at rest in
        rw (other, parts.2) (onto x parts.0 parts.1 ∙ ap (λ (t : List ℕ). x ∷ t) tail)

-- ---- what was read, back to what is encoded

module _ (p : Settings) where
  -- one line more was read: what it tells and where it leads
  step_back : (n : ℕ) (d : Draft) (line next : List ℕ) (rest : List (List ℕ)) (answer : Answer) → meaning_from p n d (line ∷ next ∷ rest) ≡ Ok answer
      → (told : ReportLine) × (more : Draft) × Encodes (ended line) told × (place p d told ≡ Ok more) × (meaning_from p (n + 1) more (next ∷ rest) ≡ Ok answer)
  step_back n d line next rest answer e = by (line_of line) refl
    where
      Step : Type 0
      Step = (told : ReportLine) × (more : Draft) × Encodes (ended line) told × (place p d told ≡ Ok more) × (meaning_from p (n + 1) more (next ∷ rest) ≡ Ok answer)

      placed : (told : ReportLine) → line_of line ≡ Some told → (r : Result Draft Misread) → place p d told ≡ r → Step
      placed told is (Ok more) on = (told, more, lines_encoded line told is, on, rw (is, on) at e)
      placed told is (Err misread.Bad) on = absurd (not_ok _ answer (rw (is, on) at e))
      placed told is (Err misread.Unknown) on = absurd (not_ok _ answer (rw (is, on) at e))
      placed told is (Err misread.Memory) on = absurd (not_ok _ answer (rw (is, on) at e))

      by : (o : Option ReportLine) → line_of line ≡ o → Step
      by None none = absurd (not_ok _ answer (rw none at e))
      by (Some told) is = placed told is (place p d told) refl

  abbrev pub out : Option ℕ → List (ℕ × Option ℕ) → Option (List ℕ) → Answer
  out b es set = option_map_or (λ k. Planned es k set) b (NoPlan (unwrap_or set []))

  -- nothing stands after `end`
  done_back : (parts : List (List ℕ)) (n : ℕ) (b : Option ℕ) (es : List (ℕ × Option ℕ)) (set : Option (List ℕ)) (a c l : ℕ) (answer : Answer)
      → meaning_from p n (at stage.Done b es set a c l) parts ≡ Ok answer → (text_of parts ≡ []) × (answer ≡ out b es set)
  done_back [] n b es set a c l answer e = absurd (not_ok _ answer e)
  done_back ([] ∷ []) n b es set a c l answer e = (refl, sym (same_ok _ _ e))
  done_back ((x ∷ line) ∷ []) n b es set a c l answer e =
      let more : eqb (length (x ∷ line)) 0 ≡ false = grind (arith, nat_tests) in
      absurd (not_ok _ answer (rw more at e))
  done_back (line ∷ next ∷ rest) n b es set a c l answer e =
      let s = step_back n (at stage.Done b es set a c l) line next rest answer e in
      absurd (none s.0 s.1 s.3)
    where
      none : (told : ReportLine) (more : Draft) → place p (at stage.Done b es set a c l) told ≡ Ok more → ⊥
      none head more h = not_ok _ more h
      none (backlog k) more h = not_ok _ more h
      none no_plan more h = not_ok _ more h
      none (task worker function) more h = not_ok _ more h
      none short more h = not_ok _ more h
      none (needed name) more h = not_ok _ more h
      none (stranded name) more h = not_ok _ more h
      none last more h = not_ok _ more h

  module _ (valid : AreSettings p) (answer : Answer) where
    function_back : (name : List ℕ) (f : ℕ) → place_of p.functions name ≡ Some f → (f < length p.functions) × (name_at p.functions f ≡ name)
    function_back = (names_paired p.functions valid.functions_rise).named

    -- ---- stranded functions and the end

    abbrev Tail : ℕ → Answer → List ℕ → Type 0
    Tail l told text = (left : List Stranded) × AreLeft p l left × (text ≡ flat_map stranded_line left ++ ended (codes "end")) × (answer ≡ told)

    stranded_placed : (s : Stage) (b : Option ℕ) (es : List (ℕ × Option ℕ)) (set : Option (List ℕ)) (a c l : ℕ) (name : List ℕ) (more : Draft)
        → is_complete s ≡ true → place p (at s b es set a c l) (stranded name) ≡ Ok more
        → (f : ℕ) × (place_of p.functions name ≡ Some f) × (l ≤ f) × (more ≡ at stage.Leftovers b es set a c (f + 1))
    stranded_placed s b es set a c l name more complete e = by (place_of p.functions name) refl
      where
        Out : Type 0
        Out = (f : ℕ) × (place_of p.functions name ≡ Some f) × (l ≤ f) × (more ≡ at stage.Leftovers b es set a c (f + 1))

        order : (f : ℕ) → place_of p.functions name ≡ Some f → (d : Bool) → ltb f l ≡ d → Out
        order f found true low = absurd (not_ok _ more (rw (complete, found, low) at e))
        order f found false from = (f, found, grind (arith, nat_tests), sym (same_ok _ _ (rw (complete, found, from) at e)))

        by : (o : Option ℕ) → place_of p.functions name ≡ o → Out
        by None none = absurd (not_ok _ more (rw (complete, none) at e))
        by (Some f) found = order f found (ltb f l) refl

    last_placed : (s : Stage) (b : Option ℕ) (es : List (ℕ × Option ℕ)) (set : Option (List ℕ)) (a c l : ℕ) (more : Draft)
        → is_complete s ≡ true → place p (at s b es set a c l) last ≡ Ok more → more ≡ at stage.Done b es set a c l
    last_placed s b es set a c l more complete e = sym (same_ok _ _ (rw complete at e))

    -- a line more before what stands after it
    in_prefix : (line prefix text after : List ℕ) → ended line ≡ prefix → text ≡ after → line ++ 10 ∷ text ≡ prefix ++ after
    in_prefix line prefix text after is same = ap (λ (t : List ℕ). line ++ 10 ∷ t) same ∙ sym (append_assoc line (10 ∷ []) after) ∙ ap (λ (t : List ℕ). t ++ after) is

    -- the line is that of a stranded function, or the last
    left_from : (s : Stage) (b : Option ℕ) (es : List (ℕ × Option ℕ)) (set : Option (List ℕ)) (a c l : ℕ) (line text name : List ℕ) (more : Draft) (Goes : Draft → Type 0)
        → is_complete s ≡ true → Encodes (ended line) (stranded name) → place p (at s b es set a c l) (stranded name) ≡ Ok more → Goes more
        → ((f : ℕ) → Goes (at stage.Leftovers b es set a c f) → Tail f (out b es set) text) → Tail l (out b es set) (line ++ 10 ∷ text)
    left_from s b es set a c l line text name more Goes complete encoded placed goes again =
        let at_f = stranded_placed s b es set a c l name more complete placed in
        let f = at_f.0 in
        let known = function_back name f at_f.1 in
        let rest = again (f + 1) (subst Goes at_f.3 goes) in
        let one : Stranded = record { function = name; waiting = encoded.0 } in (
          one ∷ rest.0,
          (f, at_f.2, known.0, sym known.1, encoded.2, rest.1),
          in_prefix line (stranded_line one) text (flat_map stranded_line rest.0 ++ ended (codes "end")) encoded.3 rest.2
              ∙ sym (append_assoc (stranded_line one) (flat_map stranded_line rest.0) (ended (codes "end"))),
          rest.3,
        )

    last_from : (s : Stage) (b : Option ℕ) (es : List (ℕ × Option ℕ)) (set : Option (List ℕ)) (a c l : ℕ) (line : List ℕ) (parts : List (List ℕ)) (n : ℕ) (more : Draft)
        → is_complete s ≡ true → Encodes (ended line) last → place p (at s b es set a c l) last ≡ Ok more → meaning_from p n more parts ≡ Ok answer
        → (m : ℕ) → Tail m (out b es set) (line ++ 10 ∷ text_of parts)
    last_from s b es set a c l line parts n more complete encoded placed goes m =
        let is = last_placed s b es set a c l more complete placed in
        let done = done_back parts n b es set a c l answer (subst (λ (d : Draft). meaning_from p n d parts ≡ Ok answer) is goes) in
        ([], tt, in_prefix line (ended (codes "end")) (text_of parts) [] encoded done.0 ∙ append-nil (ended (codes "end")), done.1)

    left_back : (parts : List (List ℕ)) (n : ℕ) (b : Option ℕ) (es : List (ℕ × Option ℕ)) (set : Option (List ℕ)) (a c l : ℕ)
        → meaning_from p n (at stage.Leftovers b es set a c l) parts ≡ Ok answer → Tail l (out b es set) (text_of parts)
    left_back [] n b es set a c l e = absurd (not_ok _ answer e)
    left_back (line ∷ []) n b es set a c l e = absurd (not_ok _ answer e)
    left_back (line ∷ next ∷ rest) n b es set a c l e =
        let s = step_back n (at stage.Leftovers b es set a c l) line next rest answer e in
        case s.0 s.1 s.2 s.3 s.4 (λ f h. left_back (next ∷ rest) (n + 1) b es set a c f h)
      where
        case : (told : ReportLine) (more : Draft) → Encodes (ended line) told → place p (at stage.Leftovers b es set a c l) told ≡ Ok more
            → meaning_from p (n + 1) more (next ∷ rest) ≡ Ok answer
            → ((f : ℕ) → meaning_from p (n + 1) (at stage.Leftovers b es set a c f) (next ∷ rest) ≡ Ok answer → Tail f (out b es set) (text_of (next ∷ rest)))
            → Tail l (out b es set) (line ++ 10 ∷ text_of (next ∷ rest))
        case head more encoded h goes again = absurd (not_ok _ more h)
        case (backlog k) more encoded h goes again = absurd (not_ok _ more h)
        case no_plan more encoded h goes again = absurd (not_ok _ more h)
        case (task worker function) more encoded h goes again = absurd (not_ok _ more h)
        case short more encoded h goes again = absurd (not_ok _ more h)
        case (needed name) more encoded h goes again = absurd (not_ok _ more h)
        case (stranded name) more encoded h goes again =
            left_from stage.Leftovers b es set a c l line (text_of (next ∷ rest)) name more (λ d. meaning_from p (n + 1) d (next ∷ rest) ≡ Ok answer) refl encoded h goes again
        case last more encoded h goes again = last_from stage.Leftovers b es set a c l line (next ∷ rest) (n + 1) more refl encoded h goes l

    -- ---- the set

    -- lines of functions of a set, and the lines after them
    abbrev SetTail : ℕ → Option ℕ → List (ℕ × Option ℕ) → List ℕ → List ℕ → Type 0
    SetTail c b es set text =
        (lines : List Needed) × (more : List ℕ) × (left : List Stranded) × AreNeeded p c lines more × AreLeft p 0 left
        × (text ≡ flat_map needed_line lines ++ (flat_map stranded_line left ++ ended (codes "end"))) × (answer ≡ out b es (Some (set ++ more)))

    needed_placed : (b : Option ℕ) (es : List (ℕ × Option ℕ)) (set : List ℕ) (a c : ℕ) (name : List ℕ) (more : Draft)
        → place p (at stage.Set b es (Some set) a c 0) (needed name) ≡ Ok more
        → (f : ℕ) × (place_of p.functions name ≡ Some f) × (c ≤ f) × (more ≡ at stage.Set b es (Some (set ++ f ∷ [])) a (f + 1) 0)
    needed_placed b es set a c name more e = by (place_of p.functions name) refl
      where
        Out : Type 0
        Out = (f : ℕ) × (place_of p.functions name ≡ Some f) × (c ≤ f) × (more ≡ at stage.Set b es (Some (set ++ f ∷ [])) a (f + 1) 0)

        order : (f : ℕ) → place_of p.functions name ≡ Some f → (d : Bool) → ltb f c ≡ d → Out
        order f found true low = absurd (not_ok _ more (rw (found, low) at e))
        order f found false from = (f, found, grind (arith, nat_tests), sym (same_ok _ _ (rw (found, from) at e)))

        by : (o : Option ℕ) → place_of p.functions name ≡ o → Out
        by None none = absurd (not_ok _ more (rw none at e))
        by (Some f) found = order f found (ltb f c) refl

    -- the lines after a set end it
    set_ends : (c : ℕ) (b : Option ℕ) (es : List (ℕ × Option ℕ)) (set text : List ℕ) → Tail 0 (out b es (Some set)) text → SetTail c b es set text
    set_ends c b es set text tail = ([], [], tail.0, tt, tail.1, tail.2, tail.3 ∙ ap (λ (fs : List ℕ). out b es (Some fs)) (sym (append-nil set)))

    set_back : (parts : List (List ℕ)) (n : ℕ) (b : Option ℕ) (es : List (ℕ × Option ℕ)) (set : List ℕ) (a c : ℕ)
        → meaning_from p n (at stage.Set b es (Some set) a c 0) parts ≡ Ok answer → SetTail c b es set (text_of parts)
    set_back [] n b es set a c e = absurd (not_ok _ answer e)
    set_back (line ∷ []) n b es set a c e = absurd (not_ok _ answer e)
    set_back (line ∷ next ∷ rest) n b es set a c e =
        let s = step_back n (at stage.Set b es (Some set) a c 0) line next rest answer e in
        case s.0 s.1 s.2 s.3 s.4 (λ f h. set_back (next ∷ rest) (n + 1) b es (set ++ f ∷ []) a (f + 1) h)
      where
        Goes : Draft → Type 0
        Goes d = meaning_from p (n + 1) d (next ∷ rest) ≡ Ok answer

        in_set : (name : List ℕ) (more : Draft) (encoded : Encodes (ended line) (needed name)) → place p (at stage.Set b es (Some set) a c 0) (needed name) ≡ Ok more → Goes more
            → ((f : ℕ) → Goes (at stage.Set b es (Some (set ++ f ∷ [])) a (f + 1) 0) → SetTail (f + 1) b es (set ++ f ∷ []) (text_of (next ∷ rest)))
            → SetTail c b es set (line ++ 10 ∷ text_of (next ∷ rest))
        in_set name more encoded h goes again =
            let at_f = needed_placed b es set a c name more h in
            let f = at_f.0 in
            let known = function_back name f at_f.1 in
            let tail = again f (subst Goes at_f.3 goes) in
            let one : Needed = record { function = name; need = encoded.0 } in (
              one ∷ tail.0,
              f ∷ tail.1,
              tail.2,
              (at_f.2, known.0, sym known.1, encoded.2, tail.3),
              tail.4,
              in_prefix line (needed_line one) (text_of (next ∷ rest)) (flat_map needed_line tail.0 ++ (flat_map stranded_line tail.2 ++ ended (codes "end"))) encoded.3 tail.5
                  ∙ sym (append_assoc (needed_line one) (flat_map needed_line tail.0) (flat_map stranded_line tail.2 ++ ended (codes "end"))),
              tail.6 ∙ ap (λ (fs : List ℕ). out b es (Some fs)) (append_assoc set (f ∷ []) tail.1),
            )

        case : (told : ReportLine) (more : Draft) → Encodes (ended line) told → place p (at stage.Set b es (Some set) a c 0) told ≡ Ok more → Goes more
            → ((f : ℕ) → Goes (at stage.Set b es (Some (set ++ f ∷ [])) a (f + 1) 0) → SetTail (f + 1) b es (set ++ f ∷ []) (text_of (next ∷ rest)))
            → SetTail c b es set (line ++ 10 ∷ text_of (next ∷ rest))
        case head more encoded h goes again = absurd (not_ok _ more h)
        case (backlog k) more encoded h goes again = absurd (not_ok _ more h)
        case no_plan more encoded h goes again = absurd (not_ok _ more h)
        case (task worker function) more encoded h goes again = absurd (not_ok _ more h)
        case short more encoded h goes again = absurd (not_ok _ more h)
        case (needed name) more encoded h goes again = in_set name more encoded h goes again
        case (stranded name) more encoded h goes again =
            set_ends c b es set (line ++ 10 ∷ text_of (next ∷ rest)) (left_from stage.Set b es (Some set) a c 0 line (text_of (next ∷ rest)) name more Goes refl encoded h goes
            (λ f g. left_back (next ∷ rest) (n + 1) b es (Some set) a c f g))
        case last more encoded h goes again =
            set_ends c b es set (line ++ 10 ∷ text_of (next ∷ rest)) (last_from stage.Set b es (Some set) a c 0 line (next ∷ rest) (n + 1) more refl encoded h goes 0)

    -- the line `short`, and the set after it
    abbrev ShortTail : Option ℕ → List (ℕ × Option ℕ) → List ℕ → Type 0
    ShortTail b es text =
        (sums : Short) × (set : List ℕ) × (left : List Stranded) × IsSet p sums set × AreLeft p 0 left
        × (text ≡ short_lines sums ++ (flat_map stranded_line left ++ ended (codes "end"))) × (answer ≡ out b es (Some set))

    short_from : (parts : List (List ℕ)) (n : ℕ) (b : Option ℕ) (es : List (ℕ × Option ℕ)) (a : ℕ) (line : List ℕ) → Encodes (ended line) short
        → meaning_from p n (at stage.Set b es (Some []) a 0 0) parts ≡ Ok answer → ShortTail b es (line ++ 10 ∷ text_of parts)
    short_from parts n b es a line encoded e =
        let tail = set_back parts n b es [] a 0 e in
        let sums : Short = record { need = encoded.0; have = encoded.1; functions = tail.0 } in
        let after = flat_map stranded_line tail.2 ++ ended (codes "end") in (
          sums,
          tail.1,
          tail.2,
          (encoded.2, encoded.3, tail.3),
          tail.4,
          in_prefix line (short_line encoded.0 encoded.1) (text_of parts) (flat_map needed_line tail.0 ++ after) encoded.4 tail.5
              ∙ sym (append_assoc (short_line encoded.0 encoded.1) (flat_map needed_line tail.0) after),
          tail.6,
        )

    -- ---- workers

    -- lines of workers, with a set after them or none
    abbrev TasksTail : ℕ → ℕ → List (ℕ × Option ℕ) → List ℕ → Type 0
    TasksTail k next es text =
        (more : List (ℕ × Option ℕ)) × (sums : Option Short) × (set : Option (List ℕ)) × (left : List Stranded)
        × AreEntries p next more × IsSetOrNone p sums set × AreLeft p 0 left
        × (text ≡ flat_map worker_line (map (listed_worker p) more) ++ (short_if sums ++ (flat_map stranded_line left ++ ended (codes "end"))))
        × (answer ≡ Planned (es ++ more) k set)

    -- what a line of a worker tells of its function
    abbrev Named : Option (List ℕ) → Option ℕ → Type 0
    Named name o = IsFunctionOrNone p o × (option_map (name_at p.functions) o ≡ name)

    task_placed : (k : ℕ) (es : List (ℕ × Option ℕ)) (a : ℕ) (worker : List ℕ) (function : Option (List ℕ)) (more : Draft)
        → place p (at stage.Tasks (Some k) es None a 0 0) (task worker function) ≡ Ok more
        → (slot : ℕ) × (o : Option ℕ) × (slots.slot_named p worker ≡ Some slot) × (a ≤ slot) × Named function o
        × (more ≡ at stage.Tasks (Some k) (es ++ (slot, o) ∷ []) None (slot + 1) 0 0)
    task_placed k es a worker function more e = by (slots.slot_named p worker) refl
      where
        Out : Type 0
        Out = (slot : ℕ) × (o : Option ℕ) × (slots.slot_named p worker ≡ Some slot) × (a ≤ slot) × Named function o
            × (more ≡ at stage.Tasks (Some k) (es ++ (slot, o) ∷ []) None (slot + 1) 0 0)

        d : Draft
        d = at stage.Tasks (Some k) es None a 0 0

        known : (slot : ℕ) → slots.slot_named p worker ≡ Some slot → a ≤ slot → (name : List ℕ) → function ≡ Some name
            → place_function p slot (Some name) d ≡ Ok more → (q : Option ℕ) → place_of p.functions name ≡ q → Out
        known slot found from name is placed None none = absurd (not_ok _ more (rw none at placed))
        known slot found from name is placed (Some f) at_f =
            let there = function_back name f at_f in
            (slot, Some f, found, from, (there.0, ap (λ (n : List ℕ). Some n) there.1 ∙ sym is), sym (same_ok _ _ (rw at_f at placed)))

        named : (slot : ℕ) → slots.slot_named p worker ≡ Some slot → a ≤ slot → (o : Option (List ℕ)) → function ≡ o → place_function p slot o d ≡ Ok more → Out
        named slot found from None is placed = (slot, None, found, from, (tt, sym is), sym (same_ok _ _ placed))
        named slot found from (Some name) is placed = known slot found from name is placed (place_of p.functions name) refl

        order : (slot : ℕ) → slots.slot_named p worker ≡ Some slot → (b : Bool) → ltb slot a ≡ b → Out
        order slot found true low = absurd (not_ok _ more (rw (found, low) at e))
        order slot found false from = named slot found (grind (arith, nat_tests)) function refl (rw (found, from) at e)

        by : (o : Option ℕ) → slots.slot_named p worker ≡ o → Out
        by None none = absurd (not_ok _ more (rw none at e))
        by (Some slot) found = order slot found (ltb slot a) refl

    -- the line of a worker, by its slot
    line_at : (worker : List ℕ) (function : Option (List ℕ)) (slot : ℕ) (o : Option ℕ) → slots.slot_named p worker ≡ Some slot → Named function o
        → task_line worker function ≡ worker_line (listed_worker p (slot, o))
    line_at worker function slot o found named =
        let own = (slots_paired p valid).named worker slot found in
        let machine = name_at p.machines (slots.machine_of p slot) in
        let number = slots.worker_number p slot in
        let encoded : worker ≡ name_of_worker (listed_worker p (slot, o)) = sym own.1 ∙ sym (append_assoc machine (codes "/") (decimal number)) in
        ap (λ (w : List ℕ). task_line w function) encoded ∙ ap (λ (f : Option (List ℕ)). task_line (name_of_worker (listed_worker p (slot, o))) f) (sym named.1)

    tasks_end : (k next : ℕ) (es : List (ℕ × Option ℕ)) (text : List ℕ) → Tail 0 (out (Some k) es None) text → TasksTail k next es text
    tasks_end k next es text tail =
        ([], None, None, tail.0, tt, tt, tail.1, tail.2, tail.3 ∙ ap (λ (more : List (ℕ × Option ℕ)). Planned more k None) (sym (append-nil es)))

    tasks_short : (k next : ℕ) (es : List (ℕ × Option ℕ)) (text : List ℕ) → ShortTail (Some k) es text → TasksTail k next es text
    tasks_short k next es text tail = (
      [],
      Some tail.0,
      Some tail.1,
      tail.2,
      tt,
      tail.3,
      tail.4,
      tail.5,
      tail.6 ∙ ap (λ (more : List (ℕ × Option ℕ)). Planned more k (Some tail.1)) (sym (append-nil es)),
    )

    tasks_back : (parts : List (List ℕ)) (n k : ℕ) (es : List (ℕ × Option ℕ)) (a : ℕ)
        → meaning_from p n (at stage.Tasks (Some k) es None a 0 0) parts ≡ Ok answer → TasksTail k a es (text_of parts)
    tasks_back [] n k es a e = absurd (not_ok _ answer e)
    tasks_back (line ∷ []) n k es a e = absurd (not_ok _ answer e)
    tasks_back (line ∷ next ∷ rest) n k es a e =
        let s = step_back n (at stage.Tasks (Some k) es None a 0 0) line next rest answer e in
        case s.0 s.1 s.2 s.3 s.4 (λ slot o h. tasks_back (next ∷ rest) (n + 1) k (es ++ (slot, o) ∷ []) (slot + 1) h)
      where
        Goes : Draft → Type 0
        Goes d = meaning_from p (n + 1) d (next ∷ rest) ≡ Ok answer

        Again : Type 0
        Again = (slot : ℕ) (o : Option ℕ) → Goes (at stage.Tasks (Some k) (es ++ (slot, o) ∷ []) None (slot + 1) 0 0)
            → TasksTail k (slot + 1) (es ++ (slot, o) ∷ []) (text_of (next ∷ rest))

        of_worker : (worker : List ℕ) (function : Option (List ℕ)) (more : Draft) (encoded : Encodes (ended line) (task worker function))
            → place p (at stage.Tasks (Some k) es None a 0 0) (task worker function) ≡ Ok more → Goes more → Again
            → TasksTail k a es (line ++ 10 ∷ text_of (next ∷ rest))
        of_worker worker function more encoded h goes again =
            let there = task_placed k es a worker function more h in
            let slot = there.0 in
            let o = there.1 in
            let tail = again slot o (subst Goes there.5 goes) in
            let below = ((slots_paired p valid).named worker slot there.2).0 in
            let after = short_if tail.1 ++ (flat_map stranded_line tail.3 ++ ended (codes "end")) in
            let lines = flat_map worker_line (map (listed_worker p) tail.0) in (
              (slot, o) ∷ tail.0,
              tail.1,
              tail.2,
              tail.3,
              (there.3, below, there.4.0, tail.4),
              tail.5,
              tail.6,
              in_prefix line (worker_line (listed_worker p (slot, o))) (text_of (next ∷ rest)) (lines ++ after) (encoded.2 ∙ line_at worker function slot o there.2 there.4) tail.7
                  ∙ sym (append_assoc (worker_line (listed_worker p (slot, o))) lines after),
              tail.8 ∙ ap (λ (more : List (ℕ × Option ℕ)). Planned more k tail.2) (append_assoc es ((slot, o) ∷ []) tail.0),
            )

        case : (told : ReportLine) (more : Draft) → Encodes (ended line) told → place p (at stage.Tasks (Some k) es None a 0 0) told ≡ Ok more → Goes more → Again
            → TasksTail k a es (line ++ 10 ∷ text_of (next ∷ rest))
        case head more encoded h goes again = absurd (not_ok _ more h)
        case (backlog j) more encoded h goes again = absurd (not_ok _ more h)
        case no_plan more encoded h goes again = absurd (not_ok _ more h)
        case (task worker function) more encoded h goes again = of_worker worker function more encoded h goes again
        case short more encoded h goes again =
            tasks_short k a es (line ++ 10 ∷ text_of (next ∷ rest)) (short_from (next ∷ rest) (n + 1) (Some k) es a line encoded (subst Goes (sym (same_ok _ _ h)) goes))
        case (needed name) more encoded h goes again = absurd (not_ok _ more h)
        case (stranded name) more encoded h goes again =
            tasks_end k a es (line ++ 10 ∷ text_of (next ∷ rest)) (left_from stage.Tasks (Some k) es None a 0 0 line (text_of (next ∷ rest)) name more Goes refl encoded h goes
            (λ f g. left_back (next ∷ rest) (n + 1) (Some k) es None a 0 f g))
        case last more encoded h goes again =
            tasks_end k a es (line ++ 10 ∷ text_of (next ∷ rest)) (last_from stage.Tasks (Some k) es None a 0 0 line (next ∷ rest) (n + 1) more refl encoded h goes 0)

    -- ---- the first lines

    bare_back : (parts : List (List ℕ)) (n : ℕ) → meaning_from p n (at stage.Bare None [] None 0 0 0) parts ≡ Ok answer → ShortTail None [] (text_of parts)
    bare_back [] n e = absurd (not_ok _ answer e)
    bare_back (line ∷ []) n e = absurd (not_ok _ answer e)
    bare_back (line ∷ next ∷ rest) n e =
        let s = step_back n (at stage.Bare None [] None 0 0 0) line next rest answer e in
        case s.0 s.1 s.2 s.3 s.4
      where
        Goes : Draft → Type 0
        Goes d = meaning_from p (n + 1) d (next ∷ rest) ≡ Ok answer

        case : (told : ReportLine) (more : Draft) → Encodes (ended line) told → place p (at stage.Bare None [] None 0 0 0) told ≡ Ok more → Goes more
            → ShortTail None [] (line ++ 10 ∷ text_of (next ∷ rest))
        case head more encoded h goes = absurd (not_ok _ more h)
        case (backlog j) more encoded h goes = absurd (not_ok _ more h)
        case no_plan more encoded h goes = absurd (not_ok _ more h)
        case (task worker function) more encoded h goes = absurd (not_ok _ more h)
        case short more encoded h goes = short_from (next ∷ rest) (n + 1) None [] 0 line encoded (subst Goes (sym (same_ok _ _ h)) goes)
        case (needed name) more encoded h goes = absurd (not_ok _ more h)
        case (stranded name) more encoded h goes = absurd (not_ok _ more h)
        case last more encoded h goes = absurd (not_ok _ more h)

    regroup : (a b w s l e : List ℕ) → a ++ (b ++ (w ++ (s ++ (l ++ e)))) ≡ ((a ++ ((b ++ w) ++ s)) ++ l) ++ e
    regroup a b w s l e = sym (
        append_assoc (a ++ ((b ++ w) ++ s)) l e
        ∙ append_assoc a ((b ++ w) ++ s) (l ++ e)
        ∙ ap (λ (t : List ℕ). a ++ t) (append_assoc (b ++ w) s (l ++ e) ∙ append_assoc b w (s ++ (l ++ e)))
        )

    regroup_none : (a b s l e : List ℕ) → a ++ (b ++ (s ++ (l ++ e))) ≡ ((a ++ (b ++ s)) ++ l) ++ e
    regroup_none a b s l e = sym (
        append_assoc (a ++ (b ++ s)) l e
        ∙ append_assoc a (b ++ s) (l ++ e)
        ∙ ap (λ (t : List ℕ). a ++ t) (append_assoc b s (l ++ e))
        )

    planned_whole : (k : ℕ) (line text whole : List ℕ) → Encodes (ended line) (backlog k) → TasksTail k 0 [] text
        → whole ≡ ended (codes "report 1") ++ (line ++ 10 ∷ text) → IsReportOf p whole answer
    planned_whole k line text whole encoded tail is =
        let lines = flat_map worker_line (map (listed_worker p) tail.0) in
        let rest = flat_map stranded_line tail.3 in
        let same = is ∙ ap (λ (t : List ℕ). ended (codes "report 1") ++ t) (in_prefix line (backlog_line k) text (lines ++ (short_if tail.1 ++ (rest ++ ended (codes "end")))) encoded.2 tail.7)
        ∙ regroup (ended (codes "report 1")) (backlog_line k) lines (short_if tail.1) rest (ended (codes "end")) in
        subst (IsReportOf p whole) (sym tail.8) (tail.1, tail.3, same, encoded.0, encoded.1, tail.4, tail.5, tail.6)

    none_whole : (line text whole : List ℕ) → Encodes (ended line) no_plan → ShortTail None [] text
        → whole ≡ ended (codes "report 1") ++ (line ++ 10 ∷ text) → IsReportOf p whole answer
    none_whole line text whole encoded tail is =
        let rest = flat_map stranded_line tail.2 in
        let same = is ∙ ap (λ (t : List ℕ). ended (codes "report 1") ++ t) (in_prefix line (ended (codes "noplan")) text (short_lines tail.0 ++ (rest ++ ended (codes "end"))) encoded tail.5)
        ∙ regroup_none (ended (codes "report 1")) (ended (codes "noplan")) (short_lines tail.0) rest (ended (codes "end")) in
        subst (IsReportOf p whole) (sym tail.6) (tail.0, tail.2, same, tail.3, tail.4)

    verdict_back : (parts : List (List ℕ)) (n : ℕ) → meaning_from p n (at stage.Verdict None [] None 0 0 0) parts ≡ Ok answer
        → (whole : List ℕ) → whole ≡ ended (codes "report 1") ++ text_of parts → IsReportOf p whole answer
    verdict_back [] n e whole is = absurd (not_ok _ answer e)
    verdict_back (line ∷ []) n e whole is = absurd (not_ok _ answer e)
    verdict_back (line ∷ next ∷ rest) n e whole is =
        let s = step_back n (at stage.Verdict None [] None 0 0 0) line next rest answer e in
        case s.0 s.1 s.2 s.3 s.4
      where
        Goes : Draft → Type 0
        Goes d = meaning_from p (n + 1) d (next ∷ rest) ≡ Ok answer

        case : (told : ReportLine) (more : Draft) → Encodes (ended line) told → place p (at stage.Verdict None [] None 0 0 0) told ≡ Ok more → Goes more → IsReportOf p whole answer
        case head more encoded h goes = absurd (not_ok _ more h)
        case (backlog k) more encoded h goes =
            planned_whole k line (text_of (next ∷ rest)) whole encoded (tasks_back (next ∷ rest) (n + 1) k [] 0 (subst Goes (sym (same_ok _ _ h)) goes)) is
        case no_plan more encoded h goes =
            none_whole line (text_of (next ∷ rest)) whole encoded (bare_back (next ∷ rest) (n + 1) (subst Goes (sym (same_ok _ _ h)) goes)) is
        case (task worker function) more encoded h goes = absurd (not_ok _ more h)
        case short more encoded h goes = absurd (not_ok _ more h)
        case (needed name) more encoded h goes = absurd (not_ok _ more h)
        case (stranded name) more encoded h goes = absurd (not_ok _ more h)
        case last more encoded h goes = absurd (not_ok _ more h)

    start_back : (parts : List (List ℕ)) (n : ℕ) → meaning_from p n start parts ≡ Ok answer → IsReportOf p (text_of parts) answer
    start_back [] n e = absurd (not_ok _ answer e)
    start_back (line ∷ []) n e = absurd (not_ok _ answer e)
    start_back (line ∷ next ∷ rest) n e =
        let s = step_back n start line next rest answer e in
        case s.0 s.1 s.2 s.3 s.4
      where
        Goes : Draft → Type 0
        Goes d = meaning_from p (n + 1) d (next ∷ rest) ≡ Ok answer

        case : (told : ReportLine) (more : Draft) → Encodes (ended line) told → place p start told ≡ Ok more → Goes more → IsReportOf p (line ++ 10 ∷ text_of (next ∷ rest)) answer
        case head more encoded h goes =
            verdict_back (next ∷ rest) (n + 1) (subst Goes (sym (same_ok _ _ h)) goes) (line ++ 10 ∷ text_of (next ∷ rest))
            (in_prefix line (ended (codes "report 1")) (text_of (next ∷ rest)) (text_of (next ∷ rest)) encoded refl)
        case (backlog k) more encoded h goes = absurd (not_ok _ more h)
        case no_plan more encoded h goes = absurd (not_ok _ more h)
        case (task worker function) more encoded h goes = absurd (not_ok _ more h)
        case short more encoded h goes = absurd (not_ok _ more h)
        case (needed name) more encoded h goes = absurd (not_ok _ more h)
        case (stranded name) more encoded h goes = absurd (not_ok _ more h)
        case last more encoded h goes = absurd (not_ok _ more h)

    pub report_back : (text : List ℕ) → meaning p text ≡ Ok answer → IsReportOf p text answer
    report_back text e = subst (λ (t : List ℕ). IsReportOf p t answer) (joined text) (start_back (slice_split is_line_feed text) 1 e)
