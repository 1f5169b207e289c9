-- Names and evidence that are copied.
use Rattle.std.proofs.Common.{◌≡◌, ◌∙◌, ℕ, List, [], ◌∷◌, Global, map, refl, sym, subst, ap₂, string_bytes}
use Rattle.std.specs.Prelude.{String}
use Rattle.std.specs.List.{AllZip}
use Rattle.farm_page.specs.declared.view.Evidence.{Evidence}
use Rattle.farm_notes.specs.Evidence.{IsOfAShownAnswer, IsReadAs, IsSameEvidence}

pub names_alike : (ss ts : List (String Global)) → AllZip (λ s t. string_bytes t ≡ string_bytes s) ss ts → map string_bytes ts ≡ map string_bytes ss
names_alike [] [] same = refl
names_alike [] (t ∷ ts) same = absurd same
names_alike (s ∷ ss) [] same = absurd same
names_alike (s ∷ ss) (t ∷ ts) same = ap₂ (λ (name : List ℕ) (names : List (List ℕ)). name ∷ names) same.0 (names_alike ss ts same.1)

-- the same evidence is of the same answer
pub of_the_same : (old new : Evidence) → IsSameEvidence old new → IsOfAShownAnswer old → IsOfAShownAnswer new
of_the_same old new same of = record {
  settings = of.settings;
  certified = of.certified;
  input = of.input;
  shown = of.shown;
  is_its = record {
    report = same.report ∙ of.is_its.report;
    status = subst (λ (text : List ℕ). IsReadAs of.settings of.certified.input.waiting text) (sym same.status) of.is_its.status;
    lost = same.lost ∙ of.is_its.lost;
  };
}
