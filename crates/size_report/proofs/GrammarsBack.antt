-- A text that means a size is one that the grammar gives.
use Rattle.std.proofs.Common.{◌≡◌, ℕ, ◌+◌, ◌<◌, ◌≤◌, List, [], ◌∷◌, ◌++◌, ◌&&◌, Bool, true, false, not, ◌^◌, Option, Some, None, Ok, Err, ltb, leb, length, replicate, append_assoc, refl, ap, sym, subst, ◌∙◌, arith}
use Rattle.std.specs.Prelude.{codes}
use Rattle.std.specs.Fmt.{decimal}
use Rattle.std.specs.List.{flat_map, slice_split}
use Rattle.std.specs.Option.{option_map_or}
use Rattle.std.proofs.lemmas.Bool.{and_parts, leb-true, ltb-true, ltb-false, not-true}
use Rattle.std.proofs.lemmas.List.{append-nil, length-append, length-replicate}
use Rattle.std.proofs.lemmas.List.Splits.{join_with_byte-slice_split}
use Rattle.plan_sizing.specs.declared.size.Obstacle.{Obstacle}
use Rattle.plan_sizing.specs.declared.size.Obstacle.TheVariants.{AboveMost, NoMachine}
use Rattle.plan_sizing.specs.declared.size.Size.{Size}
use Rattle.plan_sizing.specs.declared.size.Size.TheVariants.{Enough, Never, TooMany}
use Rattle.pool_report.specs.Grammar.{IsSetOrNone}
use Rattle.pool_report.specs.Law.{Encodes}
use Rattle.pool_report.specs.Lines.{backlog, head, last, needed, no_plan, short, stranded, task}
use Rattle.pool_report.specs.Report.{Short, short_if, short_lines, task_line, worker_line}
use Rattle.pool_report.specs.declared.stage.Misread.TheVariants as misread
use Rattle.pool_settings.specs.Names.{name_at, place_of}
use Rattle.pool_settings.specs.Settings.{AreSettings, Settings}
use Rattle.pool_settings.specs.Slots.{slots}
use Rattle.pool_settings.proofs.OneToOne.{names_paired}
use Rattle.size_report.specs.Grammar.{AreAdded, AreWorkers, IsAround, IsLevelOrNone, IsObstacle, IsTextOf, machine_line, machines_added}
use Rattle.size_report.specs.Grown.{grown_slot_named, told_worker, worker_of}
use Rattle.size_report.specs.Lines.{SizeLine, above_most, add, first, level, no_machine, on, shared, too_many}
use Rattle.size_report.specs.Reading.{Draft, meaning_from, place, size_meaning, start}
use Rattle.size_report.specs.Text.{above_most_line, add_line, level_line, no_machine_line, obstacle_line, on_line, task_if, too_many_line}
use Rattle.size_report.specs.declared.stage.Kind.TheVariants as kind
use Rattle.size_report.specs.declared.stage.Stage.TheVariants as stage
use Rattle.size_report.proofs.LinesBack.{IsLineOf}
use Rattle.size_report.proofs.NamedBack.{name_back}
use Rattle.size_report.proofs.Walks.{asked, at}
use Rattle.text_pieces.specs.Lines.{ended, is_line_feed}
use Rattle.size_report.proofs.SetsBack.{End, ShortTail, ahead, barred_back, beyond_back, end_from, end_line, function_back, in_prefix, not_ok, same_ok, short_from, step_back, text_of}

module _ (p : Settings) (valid : AreSettings p) (size : Size) where
  -- ---- workers

  -- lines of workers, with a set after them or none
  abbrev TasksTail : List ℕ → ℕ → List (ℕ × Option ℕ) → List ℕ → Type 0
  TasksTail ms next es text =
      (more : List (ℕ × Option ℕ)) × (sums : Option Short) × (set : Option (List ℕ)) × AreWorkers p (slots p + length ms) next more × IsSetOrNone p sums set
      × (text ≡ flat_map (task_if p ms) more ++ (short_if sums ++ end_line)) × (size ≡ Enough ms (es ++ more) set)

  tasks_end : (ms : List ℕ) (next : ℕ) (es : List (ℕ × Option ℕ)) (text : List ℕ) → End p valid size (Enough ms es None) text → TasksTail ms next es text
  tasks_end ms next es text end = ([], None, None, tt, tt, end.0, end.1 ∙ ap (λ (more : List (ℕ × Option ℕ)). Enough ms more None) (sym (append-nil es)))

  tasks_short : (ms : List ℕ) (next : ℕ) (es : List (ℕ × Option ℕ)) (text : List ℕ) → ShortTail p valid size (λ set. Enough ms es (Some set)) text → TasksTail ms next es text
  tasks_short ms next es text tail = ([], Some tail.0, Some tail.1, tt, tail.2, tail.3, tail.4 ∙ ap (λ (more : List (ℕ × Option ℕ)). Enough ms more (Some tail.1)) (sym (append-nil es)))

  -- the line of a worker was taken: its slot and its function
  abbrev Taken : List ℕ → List (ℕ × Option ℕ) → ℕ → ℕ → List ℕ → List ℕ → Draft → Type 0
  Taken ms es a low worker name more =
      (slot : ℕ) × (f : ℕ) × (grown_slot_named p ms worker ≡ Some slot) × (low ≤ slot) × (place_of p.functions name ≡ Some f)
      × (more ≡ at stage.Tasks kind.Enough ms (es ++ (slot, Some f) ∷ []) None a (slot + 1) 0)

  found_task : (ms : List ℕ) (es : List (ℕ × Option ℕ)) (a low : ℕ) (worker name : List ℕ) (more : Draft)
      → place p (at stage.Tasks kind.Enough ms es None a low 0) (shared (task worker (Some name))) ≡ Ok more → Taken ms es a low worker name more
  found_task ms es a low worker name more e = by (grown_slot_named p ms worker) refl
    where
      named : (slot : ℕ) → grown_slot_named p ms worker ≡ Some slot → ltb slot low ≡ false → (o : Option ℕ) → place_of p.functions name ≡ o → Taken ms es a low worker name more
      named slot found from None none = absurd (not_ok _ more (rw (found, from, none) at e))
      named slot found from (Some f) there = (slot, f, found, ltb-false slot low from, there, sym (same_ok _ _ (rw (found, from, there) at e)))

      order : (slot : ℕ) → grown_slot_named p ms worker ≡ Some slot → (d : Bool) → ltb slot low ≡ d → Taken ms es a low worker name more
      order slot found true before = absurd (not_ok _ more (rw (found, before) at e))
      order slot found false from = named slot found from (place_of p.functions name) refl

      by : (o : Option ℕ) → grown_slot_named p ms worker ≡ o → Taken ms es a low worker name more
      by None none = absurd (not_ok _ more (rw none at e))
      by (Some slot) found = order slot found (ltb slot low) refl

  -- a worker's line before those of others
  task_from : (ms : List ℕ) (es : List (ℕ × Option ℕ)) (a low : ℕ) (worker name : List ℕ) (more : Draft) (line text : List ℕ) (Goes : Draft → Type 0)
      → Encodes (ended line) (task worker (Some name)) → place p (at stage.Tasks kind.Enough ms es None a low 0) (shared (task worker (Some name))) ≡ Ok more → Goes more
      → ((slot f : ℕ) → Goes (at stage.Tasks kind.Enough ms (es ++ (slot, Some f) ∷ []) None a (slot + 1) 0) → TasksTail ms (slot + 1) (es ++ (slot, Some f) ∷ []) text)
      → TasksTail ms low es (line ++ 10 ∷ text)
  task_from ms es a low worker name more line text Goes encoded h goes again =
      let there = found_task ms es a low worker name more h in
      let slot = there.0 in
      let f = there.1 in
      let tail = again slot f (subst Goes there.5 goes) in
      let own = name_back p valid ms worker slot there.2 in
      let known = function_back p valid size name f there.4 in
      let one = worker_line (told_worker p ms slot f) in
      let spelled : ended line ≡ one = encoded.2 ∙ ap (λ (w : List ℕ). task_line w (Some name)) own.1
      ∙ ap (λ (g : List ℕ). task_line (name_at p.machines (worker_of p ms slot).0 ++ codes "/" ++ decimal (worker_of p ms slot).1) (Some g)) (sym known.1) in
      let after = short_if tail.1 ++ end_line in (
        (slot, Some f) ∷ tail.0,
        tail.1,
        tail.2,
        (there.3, own.0, known.0, tail.3),
        tail.4,
        ahead line one text (flat_map (task_if p ms) tail.0) after spelled tail.5,
        tail.6 ∙ ap (λ (more : List (ℕ × Option ℕ)). Enough ms more tail.2) (append_assoc es ((slot, Some f) ∷ []) tail.0),
      )

  tasks_back : (parts : List (List ℕ)) (n : ℕ) (ms : List ℕ) (es : List (ℕ × Option ℕ)) (a low : ℕ)
      → meaning_from p n (at stage.Tasks kind.Enough ms es None a low 0) parts ≡ Ok size → TasksTail ms low es (text_of parts)
  tasks_back [] n ms es a low e = absurd (not_ok _ size e)
  tasks_back (line ∷ []) n ms es a low e = absurd (not_ok _ size e)
  tasks_back (line ∷ next ∷ rest) n ms es a low e =
      let s = step_back p n (at stage.Tasks kind.Enough ms es None a low 0) line next rest size e in
      case s.0 s.1 s.2 s.3 s.4 (λ slot f h. tasks_back (next ∷ rest) (n + 1) ms (es ++ (slot, Some f) ∷ []) a (slot + 1) h)
    where
      Goes : Draft → Type 0
      Goes d = meaning_from p (n + 1) d (next ∷ rest) ≡ Ok size

      Again : Type 0
      Again = (slot f : ℕ) → Goes (at stage.Tasks kind.Enough ms (es ++ (slot, Some f) ∷ []) None a (slot + 1) 0) → TasksTail ms (slot + 1) (es ++ (slot, Some f) ∷ []) (text_of (next ∷ rest))

      case : (told : SizeLine) (more : Draft) → IsLineOf (ended line) told → place p (at stage.Tasks kind.Enough ms es None a low 0) told ≡ Ok more → Goes more → Again
          → TasksTail ms low es (line ++ 10 ∷ text_of (next ∷ rest))
      case first more is h goes again = absurd (not_ok _ more h)
      case level more is h goes again = absurd (not_ok _ more h)
      case add more is h goes again = absurd (not_ok _ more h)
      case (on machine many) more is h goes again = absurd (not_ok _ more h)
      case (above_most name need most) more is h goes again = absurd (not_ok _ more h)
      case (no_machine name need) more is h goes again = absurd (not_ok _ more h)
      case (too_many many) more is h goes again = absurd (not_ok _ more h)
      case (shared head) more is h goes again = absurd (not_ok _ more h)
      case (shared (backlog k)) more is h goes again = absurd (not_ok _ more h)
      case (shared no_plan) more is h goes again = absurd (not_ok _ more h)
      case (shared (task worker None)) more is h goes again = absurd (not_ok _ more h)
      case (shared (task worker (Some f))) more is h goes again = task_from ms es a low worker f more line (text_of (next ∷ rest)) Goes is h goes again
      case (shared short) more is h goes again =
          tasks_short ms low es (line ++ 10 ∷ text_of (next ∷ rest)) (short_from p valid size (next ∷ rest) (n + 1) kind.Enough ms es a low line is (subst Goes (sym (same_ok _ _ h)) goes))
      case (shared (needed name)) more is h goes again = absurd (not_ok _ more h)
      case (shared (stranded name)) more is h goes again = absurd (not_ok _ more h)
      case (shared last) more is h goes again =
          tasks_end ms low es (line ++ 10 ∷ text_of (next ∷ rest)) (end_from p valid size kind.Enough ms es None a low 0 (n + 1) line (next ∷ rest) is (subst Goes (sym (same_ok _ _ h)) goes))

  -- ---- machines

  -- the line of a machine was taken: its place, and room for its workers
  abbrev IsTaken : List ℕ → ℕ → List ℕ → ℕ → Draft → Type 0
  IsTaken ms a name many more =
      (m : ℕ) × (place_of p.machines name ≡ Some m) × (a ≤ m) × (0 < many) × (length ms + many ≤ 4096)
      × (more ≡ at stage.Added kind.Enough (ms ++ replicate many m) [] None (m + 1) 0 0)

  found_machine : (ms : List ℕ) (a : ℕ) (name : List ℕ) (many : ℕ) (more : Draft)
      → place p (at stage.Added kind.Enough ms [] None a 0 0) (on name many) ≡ Ok more → IsTaken ms a name many more
  found_machine ms a name many more e = by (place_of p.machines name) refl
    where
      tested : (m : ℕ) → place_of p.machines name ≡ Some m → (d : Bool) → (not (ltb m a) && (ltb 0 many && leb (length ms + many) 4096)) ≡ d → IsTaken ms a name many more
      tested m found false other = absurd (not_ok _ more (rw (found, other) at e))
      tested m found true holds =
          let one = and_parts (not (ltb m a)) (ltb 0 many && leb (length ms + many) 4096) holds in
          let two = and_parts (ltb 0 many) (leb (length ms + many) 4096) one.1 in
          (m, found, ltb-false m a (not-true (ltb m a) one.0), ltb-true 0 many two.0, leb-true (length ms + many) 4096 two.1, sym (same_ok _ _ (rw (found, holds) at e)))

      by : (o : Option ℕ) → place_of p.machines name ≡ o → IsTaken ms a name many more
      by None none = absurd (not_ok _ more (rw none at e))
      by (Some m) found = tested m found (not (ltb m a) && (ltb 0 many && leb (length ms + many) 4096)) refl

  -- lines of machines that get workers, and the lines of workers after them
  abbrev AddedTail : List ℕ → ℕ → List ℕ → Type 0
  AddedTail ms next text =
      (machines : List (ℕ × ℕ)) × (after : List ℕ) × TasksTail (ms ++ machines_added machines) 0 [] after × AreAdded p next machines
      × (length (ms ++ machines_added machines) ≤ 4096) × (text ≡ flat_map (machine_line p) machines ++ after)

  -- no further machine gets workers
  all_added : (ms : List ℕ) (next : ℕ) (text : List ℕ) → length ms ≤ 4096 → TasksTail ms 0 [] text → AddedTail ms next text
  all_added ms next text few tail =
      let same : ms ≡ ms ++ [] = sym (append-nil ms) in
      ([], text, subst (λ (ns : List ℕ). TasksTail ns 0 [] text) same tail, tt, subst (λ (ns : List ℕ). length ns ≤ 4096) same few, refl)

  -- a machine's line before those of others
  on_from : (ms : List ℕ) (a : ℕ) (name : List ℕ) (many : ℕ) (more : Draft) (line text : List ℕ) (Goes : Draft → Type 0)
      → ended line ≡ on_line name many → place p (at stage.Added kind.Enough ms [] None a 0 0) (on name many) ≡ Ok more → Goes more
      → ((m : ℕ) → length (ms ++ replicate many m) ≤ 4096 → Goes (at stage.Added kind.Enough (ms ++ replicate many m) [] None (m + 1) 0 0) → AddedTail (ms ++ replicate many m) (m + 1) text)
      → AddedTail ms a (line ++ 10 ∷ text)
  on_from ms a name many more line text Goes is h goes again =
      let there = found_machine ms a name many more h in
      let m = there.0 in
      let held = (names_paired p.machines valid.machines_rise).named name m there.1 in
      let room : length (ms ++ replicate many m) ≤ 4096 = omega (arith, there.4, length-append ms (replicate many m), length-replicate many m) in
      let tail = again m room (subst Goes there.5 goes) in
      let one = on_line (name_at p.machines m) many in
      let spelled : ended line ≡ one = is ∙ ap (λ (n : List ℕ). on_line n many) (sym held.1) in
      let all : (ms ++ replicate many m) ++ machines_added tail.0 ≡ ms ++ machines_added ((m, many) ∷ tail.0) = append_assoc ms (replicate many m) (machines_added tail.0) in (
        (m, many) ∷ tail.0,
        tail.1,
        subst (λ (ns : List ℕ). TasksTail ns 0 [] tail.1) all tail.2,
        (there.2, held.0, there.3, tail.3),
        subst (λ (ns : List ℕ). length ns ≤ 4096) all tail.4,
        ahead line one text (flat_map (machine_line p) tail.0) tail.1 spelled tail.5,
      )

  added_back : (parts : List (List ℕ)) (n : ℕ) (ms : List ℕ) (a : ℕ) → length ms ≤ 4096 → meaning_from p n (at stage.Added kind.Enough ms [] None a 0 0) parts ≡ Ok size → AddedTail ms a (text_of parts)
  added_back [] n ms a few e = absurd (not_ok _ size e)
  added_back (line ∷ []) n ms a few e = absurd (not_ok _ size e)
  added_back (line ∷ next ∷ rest) n ms a few e =
      let s = step_back p n (at stage.Added kind.Enough ms [] None a 0 0) line next rest size e in
      case s.0 s.1 s.2 s.3 s.4 (λ many m room h. added_back (next ∷ rest) (n + 1) (ms ++ replicate many m) (m + 1) room h)
    where
      Goes : Draft → Type 0
      Goes d = meaning_from p (n + 1) d (next ∷ rest) ≡ Ok size

      Again : Type 0
      Again = (many m : ℕ) → length (ms ++ replicate many m) ≤ 4096 → Goes (at stage.Added kind.Enough (ms ++ replicate many m) [] None (m + 1) 0 0) → AddedTail (ms ++ replicate many m) (m + 1) (text_of (next ∷ rest))

      case : (told : SizeLine) (more : Draft) → IsLineOf (ended line) told → place p (at stage.Added kind.Enough ms [] None a 0 0) told ≡ Ok more → Goes more → Again
          → AddedTail ms a (line ++ 10 ∷ text_of (next ∷ rest))
      case first more is h goes again = absurd (not_ok _ more h)
      case level more is h goes again = absurd (not_ok _ more h)
      case add more is h goes again = absurd (not_ok _ more h)
      case (on machine many) more is h goes again = on_from ms a machine many more line (text_of (next ∷ rest)) Goes is h goes (again many)
      case (above_most name need most) more is h goes again = absurd (not_ok _ more h)
      case (no_machine name need) more is h goes again = absurd (not_ok _ more h)
      case (too_many many) more is h goes again = absurd (not_ok _ more h)
      case (shared head) more is h goes again = absurd (not_ok _ more h)
      case (shared (backlog k)) more is h goes again = absurd (not_ok _ more h)
      case (shared no_plan) more is h goes again = absurd (not_ok _ more h)
      case (shared (task worker None)) more is h goes again = absurd (not_ok _ more h)
      case (shared (task worker (Some f))) more is h goes again =
          all_added ms a (line ++ 10 ∷ text_of (next ∷ rest)) few
          (task_from ms [] a 0 worker f more line (text_of (next ∷ rest)) Goes is h goes (λ slot g goes. tasks_back (next ∷ rest) (n + 1) ms ((slot, Some g) ∷ []) a (slot + 1) goes))
      case (shared short) more is h goes again =
          all_added ms a (line ++ 10 ∷ text_of (next ∷ rest)) few
          (tasks_short ms 0 [] (line ++ 10 ∷ text_of (next ∷ rest)) (short_from p valid size (next ∷ rest) (n + 1) kind.Enough ms [] a 0 line is (subst Goes (sym (same_ok _ _ h)) goes)))
      case (shared (needed name)) more is h goes again = absurd (not_ok _ more h)
      case (shared (stranded name)) more is h goes again = absurd (not_ok _ more h)
      case (shared last) more is h goes again =
          all_added ms a (line ++ 10 ∷ text_of (next ∷ rest)) few
          (tasks_end ms 0 [] (line ++ 10 ∷ text_of (next ∷ rest)) (end_from p valid size kind.Enough ms [] None a 0 0 (n + 1) line (next ∷ rest) is (subst Goes (sym (same_ok _ _ h)) goes)))

  -- ---- the first lines

  -- the lines of an answer, with the end after them
  abbrev Answered : List ℕ → Type 0
  Answered text = (lines : List ℕ) × (text ≡ lines ++ end_line) × ((whole : List ℕ) → IsAround lines whole → IsTextOf p whole size)

  obstacle_placed : (name : List ℕ) (o : ℕ → Obstacle) (more : Draft)
      → option_map_or (λ f. Ok (at stage.Barred (kind.Never (o f)) [] [] None 0 0 0)) (place_of p.functions name) (Err misread.Unknown) ≡ Ok more
      → (f : ℕ) × (place_of p.functions name ≡ Some f) × (more ≡ at stage.Barred (kind.Never (o f)) [] [] None 0 0 0)
  obstacle_placed name o more e = by (place_of p.functions name) refl
    where
      by : (q : Option ℕ) → place_of p.functions name ≡ q → (f : ℕ) × (place_of p.functions name ≡ Some f) × (more ≡ at stage.Barred (kind.Never (o f)) [] [] None 0 0 0)
      by None none = absurd (not_ok _ more (rw none at e))
      by (Some f) found = (f, found, sym (same_ok _ _ (rw found at e)))

  -- the line of an obstacle, and the end
  barred_from : (line text : List ℕ) (o : Obstacle) → ended line ≡ obstacle_line p o → IsObstacle p o → End p valid size (Never o) text → Answered (line ++ 10 ∷ text)
  barred_from line text o is fits end =
      (obstacle_line p o, in_prefix line (obstacle_line p o) text end_line is end.0, λ whole around. subst (IsTextOf p whole) (sym end.1) (around, fits))

  beyond_from : (line text : List ℕ) (many : ℕ) → many < 2 ^ 64 → ended line ≡ too_many_line many → ShortTail p valid size (TooMany many) text → Answered (line ++ 10 ∷ text)
  beyond_from line text many small is tail = (
    too_many_line many ++ short_lines tail.0,
    ahead line (too_many_line many) text (short_lines tail.0) end_line is tail.3,
    λ whole around. subst (IsTextOf p whole) (sym tail.4) (tail.0, tail.2, around, small),
  )

  regroup : (a b w s e : List ℕ) → a ++ (b ++ (w ++ (s ++ e))) ≡ (((a ++ b) ++ w) ++ s) ++ e
  regroup a b w s e = sym (append_assoc ((a ++ b) ++ w) s e ∙ append_assoc (a ++ b) w (s ++ e) ∙ append_assoc a b (w ++ (s ++ e)))

  addition_from : (line text : List ℕ) (many : ℕ) → many < 2 ^ 32 → ended line ≡ add_line many → AddedTail [] 0 text → Answered (line ++ 10 ∷ text)
  addition_from line text many small is tail =
      let ons = flat_map (machine_line p) tail.0 in
      let added = machines_added tail.0 in
      let works = flat_map (task_if p added) tail.2.0 in
      let sets = short_if tail.2.1 in (
        add_line many ++ ons ++ works ++ sets,
        in_prefix line (add_line many) text (ons ++ (works ++ (sets ++ end_line))) is (tail.5 ∙ ap (λ (t : List ℕ). ons ++ t) tail.2.5) ∙ regroup (add_line many) ons works sets end_line,
        λ whole around. subst (IsTextOf p whole) (sym tail.2.6) (many, tail.0, tail.2.1, around, small, tail.3, refl, tail.4, tail.2.3, tail.2.4),
      )

  verdict_back : (parts : List (List ℕ)) (n : ℕ) → meaning_from p n asked parts ≡ Ok size → Answered (text_of parts)
  verdict_back [] n e = absurd (not_ok _ size e)
  verdict_back (line ∷ []) n e = absurd (not_ok _ size e)
  verdict_back (line ∷ next ∷ rest) n e =
      let s = step_back p n asked line next rest size e in
      case s.0 s.1 s.2 s.3 s.4
    where
      Goes : Draft → Type 0
      Goes d = meaning_from p (n + 1) d (next ∷ rest) ≡ Ok size

      barred : (o : Obstacle) → Goes (at stage.Barred (kind.Never o) [] [] None 0 0 0) → End p valid size (Never o) (text_of (next ∷ rest))
      barred o goes = barred_back p valid size (next ∷ rest) (n + 1) o goes

      case : (told : SizeLine) (more : Draft) → IsLineOf (ended line) told → place p asked told ≡ Ok more → Goes more → Answered (line ++ 10 ∷ text_of (next ∷ rest))
      case first more is h goes = absurd (not_ok _ more h)
      case level more is h goes = absurd (not_ok _ more h)
      case add more is h goes =
          addition_from line (text_of (next ∷ rest)) is.0 is.1 is.2 (added_back (next ∷ rest) (n + 1) [] 0 (omega arith) (subst Goes (sym (same_ok _ _ h)) goes))
      case (on machine many) more is h goes = absurd (not_ok _ more h)
      case (above_most name need most) more is h goes =
          let there = obstacle_placed name (λ f. AboveMost f need most) more h in
          let f = there.0 in
          let known = function_back p valid size name f there.1 in
          barred_from line (text_of (next ∷ rest)) (AboveMost f need most) (is.2 ∙ ap (λ (t : List ℕ). above_most_line t need most) (sym known.1)) (known.0, is.0, is.1)
          (barred (AboveMost f need most) (subst Goes there.2 goes))
      case (no_machine name need) more is h goes =
          let there = obstacle_placed name (λ f. NoMachine f need) more h in
          let f = there.0 in
          let known = function_back p valid size name f there.1 in
          barred_from line (text_of (next ∷ rest)) (NoMachine f need) (is.1 ∙ ap (λ (t : List ℕ). no_machine_line t need) (sym known.1)) (known.0, is.0)
          (barred (NoMachine f need) (subst Goes there.2 goes))
      case (too_many many) more is h goes =
          beyond_from line (text_of (next ∷ rest)) many is.0 is.1 (beyond_back p valid size (next ∷ rest) (n + 1) many (subst Goes (sym (same_ok _ _ h)) goes))
      case (shared head) more is h goes = absurd (not_ok _ more h)
      case (shared (backlog k)) more is h goes = absurd (not_ok _ more h)
      case (shared no_plan) more is h goes = absurd (not_ok _ more h)
      case (shared (task worker None)) more is h goes = absurd (not_ok _ more h)
      case (shared (task worker (Some f))) more is h goes = absurd (not_ok _ more h)
      case (shared short) more is h goes = absurd (not_ok _ more h)
      case (shared (needed name)) more is h goes = absurd (not_ok _ more h)
      case (shared (stranded name)) more is h goes = absurd (not_ok _ more h)
      case (shared last) more is h goes = absurd (not_ok _ more h)

  level_back : (parts : List (List ℕ)) (n : ℕ) → meaning_from p n (at stage.Level kind.Enough [] [] None 0 0 0) parts ≡ Ok size
      → (asked_for : Option ℕ) × IsLevelOrNone asked_for × (rest : List ℕ) × Answered rest × (text_of parts ≡ level_line asked_for ++ rest)
  level_back [] n e = absurd (not_ok _ size e)
  level_back (line ∷ []) n e = absurd (not_ok _ size e)
  level_back (line ∷ next ∷ rest) n e =
      let s = step_back p n (at stage.Level kind.Enough [] [] None 0 0 0) line next rest size e in
      case s.0 s.1 s.2 s.3 s.4
    where
      Goes : Draft → Type 0
      Goes d = meaning_from p (n + 1) d (next ∷ rest) ≡ Ok size

      case : (told : SizeLine) (more : Draft) → IsLineOf (ended line) told → place p (at stage.Level kind.Enough [] [] None 0 0 0) told ≡ Ok more → Goes more
          → (asked_for : Option ℕ) × IsLevelOrNone asked_for × (after : List ℕ) × Answered after × (line ++ 10 ∷ text_of (next ∷ rest) ≡ level_line asked_for ++ after)
      case first more is h goes = absurd (not_ok _ more h)
      case level more is h goes =
          let text = text_of (next ∷ rest) in
          (is.0, is.1, text, verdict_back (next ∷ rest) (n + 1) (subst Goes (sym (same_ok _ _ h)) goes), in_prefix line (level_line is.0) text text is.2 refl)
      case add more is h goes = absurd (not_ok _ more h)
      case (on machine many) more is h goes = absurd (not_ok _ more h)
      case (above_most name need most) more is h goes = absurd (not_ok _ more h)
      case (no_machine name need) more is h goes = absurd (not_ok _ more h)
      case (too_many many) more is h goes = absurd (not_ok _ more h)
      case (shared head) more is h goes = absurd (not_ok _ more h)
      case (shared (backlog k)) more is h goes = absurd (not_ok _ more h)
      case (shared no_plan) more is h goes = absurd (not_ok _ more h)
      case (shared (task worker None)) more is h goes = absurd (not_ok _ more h)
      case (shared (task worker (Some f))) more is h goes = absurd (not_ok _ more h)
      case (shared short) more is h goes = absurd (not_ok _ more h)
      case (shared (needed name)) more is h goes = absurd (not_ok _ more h)
      case (shared (stranded name)) more is h goes = absurd (not_ok _ more h)
      case (shared last) more is h goes = absurd (not_ok _ more h)

  start_back : (parts : List (List ℕ)) (n : ℕ) → meaning_from p n start parts ≡ Ok size → IsTextOf p (text_of parts) size
  start_back [] n e = absurd (not_ok _ size e)
  start_back (line ∷ []) n e = absurd (not_ok _ size e)
  start_back (line ∷ next ∷ rest) n e =
      let s = step_back p n start line next rest size e in
      case s.0 s.1 s.2 s.3 s.4
    where
      Goes : Draft → Type 0
      Goes d = meaning_from p (n + 1) d (next ∷ rest) ≡ Ok size

      case : (told : SizeLine) (more : Draft) → IsLineOf (ended line) told → place p start told ≡ Ok more → Goes more → IsTextOf p (line ++ 10 ∷ text_of (next ∷ rest)) size
      case first more is h goes =
          let opening = ended (codes "size 1") in
          let text = text_of (next ∷ rest) in
          let tail = level_back (next ∷ rest) (n + 1) (subst Goes (sym (same_ok _ _ h)) goes) in
          let lines = tail.3.0 in
          let shape : text ≡ level_line tail.0 ++ (lines ++ end_line) = tail.4 ∙ ap (λ (t : List ℕ). level_line tail.0 ++ t) tail.3.1 in
          let whole : line ++ 10 ∷ text ≡ ((opening ++ level_line tail.0) ++ lines) ++ end_line =
          in_prefix line opening text (level_line tail.0 ++ (lines ++ end_line)) is shape
          ∙ sym (append_assoc (opening ++ level_line tail.0) lines end_line ∙ append_assoc opening (level_line tail.0) (lines ++ end_line)) in
          tail.3.2 (line ++ 10 ∷ text) (tail.0, tail.1, whole)
      case level more is h goes = absurd (not_ok _ more h)
      case add more is h goes = absurd (not_ok _ more h)
      case (on machine many) more is h goes = absurd (not_ok _ more h)
      case (above_most name need most) more is h goes = absurd (not_ok _ more h)
      case (no_machine name need) more is h goes = absurd (not_ok _ more h)
      case (too_many many) more is h goes = absurd (not_ok _ more h)
      case (shared head) more is h goes = absurd (not_ok _ more h)
      case (shared (backlog k)) more is h goes = absurd (not_ok _ more h)
      case (shared no_plan) more is h goes = absurd (not_ok _ more h)
      case (shared (task worker None)) more is h goes = absurd (not_ok _ more h)
      case (shared (task worker (Some f))) more is h goes = absurd (not_ok _ more h)
      case (shared short) more is h goes = absurd (not_ok _ more h)
      case (shared (needed name)) more is h goes = absurd (not_ok _ more h)
      case (shared (stranded name)) more is h goes = absurd (not_ok _ more h)
      case (shared last) more is h goes = absurd (not_ok _ more h)

  pub text_back : (text : List ℕ) → size_meaning p text ≡ Ok size → IsTextOf p text size
  text_back text e = subst (λ (t : List ℕ). IsTextOf p t size) (join_with_byte-slice_split 10 text) (start_back (slice_split is_line_feed text) 1 e)
