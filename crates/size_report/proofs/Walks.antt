-- The lines of the text of a size, taken one after another.
use Rattle.std.proofs.Common.{◌≡◌, ℕ, ◌+◌, ◌^◌, ◌<◌, List, [], ◌∷◌, ◌++◌, true, Option, None, IfSome, Ok, append_assoc, refl, ap, sym, ◌∙◌}
use Rattle.std.specs.Prelude.{codes}
use Rattle.std.specs.List.{slice_split}
use Rattle.std.proofs.lemmas.List.{append-nil}
use Rattle.pool_settings.specs.Settings.{Settings}
use Rattle.pool_report.specs.Lines.{last}
use Rattle.pool_report.proofs.Walks.{split_line}
use Rattle.size_report.specs.Lines.{SizeLine, first, level, shared}
use Rattle.size_report.specs.Reading.{Draft, is_complete, meaning_from, place, place_line, size_meaning, size_with, start}
use Rattle.size_report.specs.Text.{level_line}
use Rattle.size_report.specs.declared.stage.Kind.{Kind}
use Rattle.size_report.specs.declared.stage.Kind.TheVariants as kind
use Rattle.size_report.specs.declared.stage.Stage.{Stage}
use Rattle.size_report.specs.declared.stage.Stage.TheVariants as stage
use Rattle.size_report.proofs.Encoded.{Tells, end_told, head_told, level_told}
use Rattle.size_report.proofs.Steps.{taken_line}
use Rattle.text_pieces.specs.Lines.{ended, is_line_feed}

-- The text leads from one draft to another, whatever stands after it.
abbrev pub Leads : Settings → Draft → List ℕ → Draft → Type 0
Leads p d text more =
    (n : ℕ) (rest : List ℕ) → (m : ℕ) × (meaning_from p n d (slice_split is_line_feed (text ++ rest)) ≡ meaning_from p m more (slice_split is_line_feed rest))

abbrev pub at : Stage → Kind → List ℕ → List (ℕ × Option ℕ) → Option (List ℕ) → ℕ → ℕ → ℕ → Draft
at s k machines entries set a b c = record { stage = s; kind = k; machines = machines; entries = entries; set = set; next_machine = a; next_slot = b; next_function = c }

-- what is told where the lines of the answer begin
abbrev pub asked : Draft
asked = at stage.Verdict kind.Enough [] [] None 0 0 0

module _ (p : Settings) where
  pub leads_none : (d : Draft) → Leads p d [] d
  leads_none d n rest = (n, refl)

  pub leads_on : (d e f : Draft) (s t : List ℕ) → Leads p d s e → Leads p e t f → Leads p d (s ++ t) f
  leads_on d e f s t a b n rest =
      let first = a n (t ++ rest) in
      let second = b first.0 rest in
      (second.0, ap (λ u. meaning_from p n d (slice_split is_line_feed u)) (append_assoc s t rest) ∙ first.1 ∙ second.1)

  pub leads_line : (d e : Draft) (text : List ℕ) (told : SizeLine) → Tells text told → place p d told ≡ Ok e → Leads p d text e
  leads_line d e text told line placed n rest =
      let shape : text ++ rest ≡ line.0 ++ 10 ∷ rest = ap (λ t. t ++ rest) line.1 ∙ append_assoc line.0 (10 ∷ []) rest in
      let split = split_line line.0 rest line.2 in
      let taken : place_line p d line.0 ≡ Ok e = rw line.3 placed in
      (n + 1, ap (λ u. meaning_from p n d (slice_split is_line_feed u)) shape ∙ ap (meaning_from p n d) split ∙ taken_line p n d line.0 rest e taken)

  -- the lines of an answer, with those before them and the end
  pub closed : (level_asked : Option ℕ) → IfSome level_asked (λ n. 0 < n) → IfSome level_asked (λ n. n < 2 ^ 32)
      → (answer : List ℕ) (s : Stage) (k : Kind) (ms : List ℕ) (es : List (ℕ × Option ℕ)) (set : Option (List ℕ)) (a b c : ℕ) → is_complete s ≡ true → Leads p asked answer (at s k ms es set a b c)
      → size_meaning p (ended (codes "size 1") ++ level_line level_asked ++ answer ++ ended (codes "end")) ≡ Ok (size_with k (at stage.Done k ms es set a b c))
  closed level_asked some small answer s k ms es set a b c complete on =
      let one = at stage.Level kind.Enough [] [] None 0 0 0 in
      let d = at s k ms es set a b c in
      let e = at stage.Done k ms es set a b c in
      let head : Leads p start (ended (codes "size 1")) one = leads_line start one (ended (codes "size 1")) first head_told refl in
      let second : Leads p one (level_line level_asked) asked = leads_line one asked (level_line level_asked) level (level_told level_asked some small) refl in
      let done : Leads p d (ended (codes "end")) e = leads_line d e (ended (codes "end")) (shared last) end_told (rw complete refl) in
      let prefix = ended (codes "size 1") ++ level_line level_asked in
      let all = leads_on start d e (prefix ++ answer) (ended (codes "end")) (leads_on start asked d prefix answer (leads_on start one asked (ended (codes "size 1")) (level_line level_asked) head second) on) done in
      let text = prefix ++ answer ++ ended (codes "end") in
      let read = all 1 [] in
      ap (λ t. meaning_from p 1 start (slice_split is_line_feed t)) (sym (append-nil text)) ∙ read.1
