-- What is left of a text that means a size, from a set or the end on, is as the grammar says.
use Rattle.std.proofs.Common.{◌≡◌, ℕ, ◌+◌, ◌<◌, ◌≤◌, List, [], ◌∷◌, ◌++◌, Bool, true, false, Option, Some, None, Ok, Err, eqb, ltb, length, append_assoc, refl, ap, sym, subst, ◌∙◌, arith}
use Rattle.std.specs.Prelude.{Result, codes}
use Rattle.std.specs.List.{flat_map, join_with_byte}
use Rattle.std.proofs.lemmas.Bool.{ltb-false}
use Rattle.std.proofs.lemmas.Bool.Decides.{nat_tests}
use Rattle.std.proofs.lemmas.List.{append-nil}
use Rattle.plan_sizing.specs.declared.size.Obstacle.{Obstacle}
use Rattle.plan_sizing.specs.declared.size.Size.{Size}
use Rattle.plan_sizing.specs.declared.size.Size.TheVariants.{Never, TooMany}
use Rattle.pool_report.specs.Grammar.{AreNeeded, IsSet}
use Rattle.pool_report.specs.Law.{Encodes}
use Rattle.pool_report.specs.Lines.{backlog, head, last, needed, no_plan, short, stranded, task}
use Rattle.pool_report.specs.Report.{Needed, Short, needed_line, short_line, short_lines}
use Rattle.pool_report.specs.declared.stage.Misread.{Misread}
use Rattle.pool_report.specs.declared.stage.Misread.TheVariants as misread
use Rattle.pool_settings.specs.Names.{name_at, place_of}
use Rattle.pool_settings.specs.Settings.{AreSettings, Settings}
use Rattle.pool_settings.proofs.OneToOne.{names_paired}
use Rattle.size_report.specs.Lines.{SizeLine, above_most, add, first, level, no_machine, on, shared, size_line_of, too_many}
use Rattle.size_report.specs.Reading.{Draft, meaning_from, place, size_with}
use Rattle.size_report.specs.declared.stage.Kind.{Kind}
use Rattle.size_report.specs.declared.stage.Kind.TheVariants as kind
use Rattle.size_report.specs.declared.stage.Stage.TheVariants as stage
use Rattle.size_report.proofs.LinesBack.{IsLineOf, line_back}
use Rattle.size_report.proofs.Walks.{at}
use Rattle.text_pieces.specs.Lines.{ended}

pub not_ok : {A E : Type 0} (e : E) (a : A) → Err e ≡ Ok a → ⊥
not_ok e a h = absurd cc

pub same_ok : {A E : Type 0} (a b : A) → ◌≡◌ {A = Result A E} (Ok a) (Ok b) → a ≡ b
same_ok a b h = cc

-- the text of these parts
abbrev pub text_of : List (List ℕ) → List ℕ
text_of parts = join_with_byte 10 parts

-- the last line
abbrev pub end_line : List ℕ
end_line = ended (codes "end")

-- a line more before what stands after it
pub in_prefix : (line prefix text after : List ℕ) → ended line ≡ prefix → text ≡ after → line ++ 10 ∷ text ≡ prefix ++ after
in_prefix line prefix text after is same = ap (λ (t : List ℕ). line ++ 10 ∷ t) same ∙ sym (append_assoc line (10 ∷ []) after) ∙ ap (λ (t : List ℕ). t ++ after) is

-- and lines after it, before what stands after them
pub ahead : (line prefix text lines after : List ℕ) → ended line ≡ prefix → text ≡ lines ++ after → line ++ 10 ∷ text ≡ (prefix ++ lines) ++ after
ahead line prefix text lines after is same = in_prefix line prefix text (lines ++ after) is same ∙ sym (append_assoc prefix lines after)

module _ (p : Settings) where
  -- one line more was read: what it says and where it leads
  pub step_back : (n : ℕ) (d : Draft) (line next : List ℕ) (rest : List (List ℕ)) (size : Size) → meaning_from p n d (line ∷ next ∷ rest) ≡ Ok size
      → (told : SizeLine) × (more : Draft) × IsLineOf (ended line) told × (place p d told ≡ Ok more) × (meaning_from p (n + 1) more (next ∷ rest) ≡ Ok size)
  step_back n d line next rest size e = by (size_line_of line) refl
    where
      Step : Type 0
      Step = (told : SizeLine) × (more : Draft) × IsLineOf (ended line) told × (place p d told ≡ Ok more) × (meaning_from p (n + 1) more (next ∷ rest) ≡ Ok size)

      placed : (told : SizeLine) → size_line_of line ≡ Some told → (r : Result Draft Misread) → place p d told ≡ r → Step
      placed told is (Ok more) led = (told, more, line_back line told is, led, rw (is, led) at e)
      placed told is (Err misread.Bad) led = absurd (not_ok _ size (rw (is, led) at e))
      placed told is (Err misread.Unknown) led = absurd (not_ok _ size (rw (is, led) at e))
      placed told is (Err misread.Memory) led = absurd (not_ok _ size (rw (is, led) at e))

      by : (o : Option SizeLine) → size_line_of line ≡ o → Step
      by None none = absurd (not_ok _ size (rw none at e))
      by (Some told) is = placed told is (place p d told) refl

  module _ (valid : AreSettings p) (size : Size) where
    pub function_back : (name : List ℕ) (f : ℕ) → place_of p.functions name ≡ Some f → (f < length p.functions) × (name_at p.functions f ≡ name)
    function_back = (names_paired p.functions valid.functions_rise).named

    -- ---- the end

    -- nothing stands after `end`
    done_back : (parts : List (List ℕ)) (n : ℕ) (k : Kind) (ms : List ℕ) (es : List (ℕ × Option ℕ)) (set : Option (List ℕ)) (a b c : ℕ)
        → meaning_from p n (at stage.Done k ms es set a b c) parts ≡ Ok size → (text_of parts ≡ []) × (size ≡ size_with k (at stage.Done k ms es set a b c))
    done_back [] n k ms es set a b c e = absurd (not_ok _ size e)
    done_back ([] ∷ []) n k ms es set a b c e = (refl, sym (same_ok _ _ e))
    done_back ((x ∷ line) ∷ []) n k ms es set a b c e =
        let more : eqb (length (x ∷ line)) 0 ≡ false = grind (arith, nat_tests) in
        absurd (not_ok _ size (rw more at e))
    done_back (line ∷ next ∷ rest) n k ms es set a b c e =
        let s = step_back n (at stage.Done k ms es set a b c) line next rest size e in
        absurd (none s.0 s.1 s.3)
      where
        none : (told : SizeLine) (more : Draft) → place p (at stage.Done k ms es set a b c) told ≡ Ok more → ⊥
        none first more h = absurd (not_ok _ more h)
        none level more h = absurd (not_ok _ more h)
        none add more h = absurd (not_ok _ more h)
        none (on machine many) more h = absurd (not_ok _ more h)
        none (above_most name need most) more h = absurd (not_ok _ more h)
        none (no_machine name need) more h = absurd (not_ok _ more h)
        none (too_many many) more h = absurd (not_ok _ more h)
        none (shared head) more h = absurd (not_ok _ more h)
        none (shared (backlog k)) more h = absurd (not_ok _ more h)
        none (shared no_plan) more h = absurd (not_ok _ more h)
        none (shared (task worker None)) more h = absurd (not_ok _ more h)
        none (shared (task worker (Some f))) more h = absurd (not_ok _ more h)
        none (shared short) more h = absurd (not_ok _ more h)
        none (shared (needed name)) more h = absurd (not_ok _ more h)
        none (shared (stranded name)) more h = absurd (not_ok _ more h)
        none (shared last) more h = absurd (not_ok _ more h)

    -- the last line, and the size that was given before it
    abbrev pub End : Size → List ℕ → Type 0
    End given text = (text ≡ end_line) × (size ≡ given)

    pub end_from : (k : Kind) (ms : List ℕ) (es : List (ℕ × Option ℕ)) (set : Option (List ℕ)) (a b c n : ℕ) (line : List ℕ) (parts : List (List ℕ))
        → ended line ≡ end_line → meaning_from p n (at stage.Done k ms es set a b c) parts ≡ Ok size
        → End (size_with k (at stage.Done k ms es set a b c)) (line ++ 10 ∷ text_of parts)
    end_from k ms es set a b c n line parts is goes =
        let done = done_back parts n k ms es set a b c goes in
        (in_prefix line end_line (text_of parts) [] is done.0 ∙ append-nil end_line, done.1)

    -- ---- a function that shows why no addition serves

    pub barred_back : (parts : List (List ℕ)) (n : ℕ) (o : Obstacle) → meaning_from p n (at stage.Barred (kind.Never o) [] [] None 0 0 0) parts ≡ Ok size → End (Never o) (text_of parts)
    barred_back [] n o e = absurd (not_ok _ size e)
    barred_back (line ∷ []) n o e = absurd (not_ok _ size e)
    barred_back (line ∷ next ∷ rest) n o e =
        let d = at stage.Barred (kind.Never o) [] [] None 0 0 0 in
        let s = step_back n d line next rest size e in
        case s.0 s.1 s.2 s.3 s.4
      where
        case : (told : SizeLine) (more : Draft) → IsLineOf (ended line) told → place p (at stage.Barred (kind.Never o) [] [] None 0 0 0) told ≡ Ok more
            → meaning_from p (n + 1) more (next ∷ rest) ≡ Ok size → End (Never o) (line ++ 10 ∷ text_of (next ∷ rest))
        case first more is h goes = absurd (not_ok _ more h)
        case level more is h goes = absurd (not_ok _ more h)
        case add more is h goes = absurd (not_ok _ more h)
        case (on machine many) more is h goes = absurd (not_ok _ more h)
        case (above_most name need most) more is h goes = absurd (not_ok _ more h)
        case (no_machine name need) more is h goes = absurd (not_ok _ more h)
        case (too_many many) more is h goes = absurd (not_ok _ more h)
        case (shared head) more is h goes = absurd (not_ok _ more h)
        case (shared (backlog k)) more is h goes = absurd (not_ok _ more h)
        case (shared no_plan) more is h goes = absurd (not_ok _ more h)
        case (shared (task worker None)) more is h goes = absurd (not_ok _ more h)
        case (shared (task worker (Some f))) more is h goes = absurd (not_ok _ more h)
        case (shared short) more is h goes = absurd (not_ok _ more h)
        case (shared (needed name)) more is h goes = absurd (not_ok _ more h)
        case (shared (stranded name)) more is h goes = absurd (not_ok _ more h)
        case (shared last) more is h goes =
            end_from (kind.Never o) [] [] None 0 0 0 (n + 1) line (next ∷ rest) is (subst (λ (d : Draft). meaning_from p (n + 1) d (next ∷ rest) ≡ Ok size) (sym (same_ok _ _ h)) goes)

    -- ---- the set

    needed_placed : (k : Kind) (ms : List ℕ) (es : List (ℕ × Option ℕ)) (set : List ℕ) (a b c : ℕ) (name : List ℕ) (more : Draft)
        → place p (at stage.Set k ms es (Some set) a b c) (shared (needed name)) ≡ Ok more
        → (f : ℕ) × (place_of p.functions name ≡ Some f) × (c ≤ f) × (more ≡ at stage.Set k ms es (Some (set ++ f ∷ [])) a b (f + 1))
    needed_placed k ms es set a b c name more e = by (place_of p.functions name) refl
      where
        Out : Type 0
        Out = (f : ℕ) × (place_of p.functions name ≡ Some f) × (c ≤ f) × (more ≡ at stage.Set k ms es (Some (set ++ f ∷ [])) a b (f + 1))

        order : (f : ℕ) → place_of p.functions name ≡ Some f → (d : Bool) → ltb f c ≡ d → Out
        order f found true low = absurd (not_ok _ more (rw (found, low) at e))
        order f found false from = (f, found, ltb-false f c from, sym (same_ok _ _ (rw (found, from) at e)))

        by : (o : Option ℕ) → place_of p.functions name ≡ o → Out
        by None none = absurd (not_ok _ more (rw none at e))
        by (Some f) found = order f found (ltb f c) refl

    -- lines of functions of a set, and the end after them
    abbrev SetTail : (List ℕ → Size) → ℕ → List ℕ → List ℕ → Type 0
    SetTail given c set text =
        (lines : List Needed) × (more : List ℕ) × AreNeeded p c lines more × (text ≡ flat_map needed_line lines ++ end_line) × (size ≡ given (set ++ more))

    -- the size that a set completes
    abbrev pub given_by : Kind → List ℕ → List (ℕ × Option ℕ) → List ℕ → Size
    given_by k ms es set = size_with k (at stage.Done k ms es (Some set) 0 0 0)

    same_given : (k : Kind) (ms : List ℕ) (es : List (ℕ × Option ℕ)) (set : List ℕ) (a b c : ℕ) → size_with k (at stage.Done k ms es (Some set) a b c) ≡ given_by k ms es set
    same_given kind.Enough ms es set a b c = refl
    same_given (kind.Never o) ms es set a b c = refl
    same_given (kind.TooMany many) ms es set a b c = refl

    set_back : (parts : List (List ℕ)) (n : ℕ) (k : Kind) (ms : List ℕ) (es : List (ℕ × Option ℕ)) (set : List ℕ) (a b c : ℕ)
        → meaning_from p n (at stage.Set k ms es (Some set) a b c) parts ≡ Ok size → SetTail (given_by k ms es) c set (text_of parts)
    set_back [] n k ms es set a b c e = absurd (not_ok _ size e)
    set_back (line ∷ []) n k ms es set a b c e = absurd (not_ok _ size e)
    set_back (line ∷ next ∷ rest) n k ms es set a b c e =
        let s = step_back n (at stage.Set k ms es (Some set) a b c) line next rest size e in
        case s.0 s.1 s.2 s.3 s.4 (λ f h. set_back (next ∷ rest) (n + 1) k ms es (set ++ f ∷ []) a b (f + 1) h)
      where
        Goes : Draft → Type 0
        Goes d = meaning_from p (n + 1) d (next ∷ rest) ≡ Ok size

        Again : Type 0
        Again = (f : ℕ) → Goes (at stage.Set k ms es (Some (set ++ f ∷ [])) a b (f + 1)) → SetTail (given_by k ms es) (f + 1) (set ++ f ∷ []) (text_of (next ∷ rest))

        in_set : (name : List ℕ) (more : Draft) (encoded : Encodes (ended line) (needed name)) → place p (at stage.Set k ms es (Some set) a b c) (shared (needed name)) ≡ Ok more → Goes more → Again
            → SetTail (given_by k ms es) c set (line ++ 10 ∷ text_of (next ∷ rest))
        in_set name more encoded h goes again =
            let at_f = needed_placed k ms es set a b c name more h in
            let f = at_f.0 in
            let known = function_back name f at_f.1 in
            let tail = again f (subst Goes at_f.3 goes) in
            let one : Needed = record { function = name; need = encoded.0 } in (
              one ∷ tail.0,
              f ∷ tail.1,
              (at_f.2, known.0, sym known.1, encoded.2, tail.2),
              ahead line (needed_line one) (text_of (next ∷ rest)) (flat_map needed_line tail.0) end_line encoded.3 tail.3,
              tail.4 ∙ ap (given_by k ms es) (append_assoc set (f ∷ []) tail.1),
            )

        set_ends : ended line ≡ end_line → Goes (at stage.Done k ms es (Some set) a b c) → SetTail (given_by k ms es) c set (line ++ 10 ∷ text_of (next ∷ rest))
        set_ends is goes =
            let end = end_from k ms es (Some set) a b c (n + 1) line (next ∷ rest) is goes in
            ([], [], tt, end.0, end.1 ∙ same_given k ms es set a b c ∙ ap (given_by k ms es) (sym (append-nil set)))

        case : (told : SizeLine) (more : Draft) → IsLineOf (ended line) told → place p (at stage.Set k ms es (Some set) a b c) told ≡ Ok more → Goes more → Again
            → SetTail (given_by k ms es) c set (line ++ 10 ∷ text_of (next ∷ rest))
        case first more is h goes again = absurd (not_ok _ more h)
        case level more is h goes again = absurd (not_ok _ more h)
        case add more is h goes again = absurd (not_ok _ more h)
        case (on machine many) more is h goes again = absurd (not_ok _ more h)
        case (above_most name need most) more is h goes again = absurd (not_ok _ more h)
        case (no_machine name need) more is h goes again = absurd (not_ok _ more h)
        case (too_many many) more is h goes again = absurd (not_ok _ more h)
        case (shared head) more is h goes again = absurd (not_ok _ more h)
        case (shared (backlog k)) more is h goes again = absurd (not_ok _ more h)
        case (shared no_plan) more is h goes again = absurd (not_ok _ more h)
        case (shared (task worker None)) more is h goes again = absurd (not_ok _ more h)
        case (shared (task worker (Some f))) more is h goes again = absurd (not_ok _ more h)
        case (shared short) more is h goes again = absurd (not_ok _ more h)
        case (shared (needed name)) more is h goes again = in_set name more is h goes again
        case (shared (stranded name)) more is h goes again = absurd (not_ok _ more h)
        case (shared last) more is h goes again = set_ends is (subst Goes (sym (same_ok _ _ h)) goes)

    -- the line `short`, and the set after it
    abbrev pub ShortTail : (List ℕ → Size) → List ℕ → Type 0
    ShortTail given text = (sums : Short) × (set : List ℕ) × IsSet p sums set × (text ≡ short_lines sums ++ end_line) × (size ≡ given set)

    pub short_from : (parts : List (List ℕ)) (n : ℕ) (k : Kind) (ms : List ℕ) (es : List (ℕ × Option ℕ)) (a b : ℕ) (line : List ℕ) → Encodes (ended line) short
        → meaning_from p n (at stage.Set k ms es (Some []) a b 0) parts ≡ Ok size → ShortTail (given_by k ms es) (line ++ 10 ∷ text_of parts)
    short_from parts n k ms es a b line encoded e =
        let tail = set_back parts n k ms es [] a b 0 e in
        let sums : Short = record { need = encoded.0; have = encoded.1; functions = tail.0 } in (
          sums,
          tail.1,
          (encoded.2, encoded.3, tail.2),
          ahead line (short_line encoded.0 encoded.1) (text_of parts) (flat_map needed_line tail.0) end_line encoded.4 tail.3,
          tail.4,
        )

    pub beyond_back : (parts : List (List ℕ)) (n many : ℕ) → meaning_from p n (at stage.Beyond (kind.TooMany many) [] [] None 0 0 0) parts ≡ Ok size → ShortTail (TooMany many) (text_of parts)
    beyond_back [] n many e = absurd (not_ok _ size e)
    beyond_back (line ∷ []) n many e = absurd (not_ok _ size e)
    beyond_back (line ∷ next ∷ rest) n many_all e =
        let s = step_back n (at stage.Beyond (kind.TooMany many_all) [] [] None 0 0 0) line next rest size e in
        case s.0 s.1 s.2 s.3 s.4
      where
        Goes : Draft → Type 0
        Goes d = meaning_from p (n + 1) d (next ∷ rest) ≡ Ok size

        case : (told : SizeLine) (more : Draft) → IsLineOf (ended line) told → place p (at stage.Beyond (kind.TooMany many_all) [] [] None 0 0 0) told ≡ Ok more → Goes more
            → ShortTail (TooMany many_all) (line ++ 10 ∷ text_of (next ∷ rest))
        case first more is h goes = absurd (not_ok _ more h)
        case level more is h goes = absurd (not_ok _ more h)
        case add more is h goes = absurd (not_ok _ more h)
        case (on machine many) more is h goes = absurd (not_ok _ more h)
        case (above_most name need most) more is h goes = absurd (not_ok _ more h)
        case (no_machine name need) more is h goes = absurd (not_ok _ more h)
        case (too_many many) more is h goes = absurd (not_ok _ more h)
        case (shared head) more is h goes = absurd (not_ok _ more h)
        case (shared (backlog k)) more is h goes = absurd (not_ok _ more h)
        case (shared no_plan) more is h goes = absurd (not_ok _ more h)
        case (shared (task worker None)) more is h goes = absurd (not_ok _ more h)
        case (shared (task worker (Some f))) more is h goes = absurd (not_ok _ more h)
        case (shared short) more is h goes = short_from (next ∷ rest) (n + 1) (kind.TooMany many_all) [] [] 0 0 line is (subst Goes (sym (same_ok _ _ h)) goes)
        case (shared (needed name)) more is h goes = absurd (not_ok _ more h)
        case (shared (stranded name)) more is h goes = absurd (not_ok _ more h)
        case (shared last) more is h goes = absurd (not_ok _ more h)
