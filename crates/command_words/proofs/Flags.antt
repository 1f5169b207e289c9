-- What `get_one` reads of a flag.
use Rattle.std.proofs.Common.{◌≡◌, ◌∙◌, ℕ, Bool, true, false, List, Option, Some, None, unwrap_or, codes, ap, refl, sym}
use Rattle.std.specs.Prelude.{Result, Ok, Err}
use Rattle.std.specs.Str.{bytes_eq}
use Rattle.std.specs.Str.Parse.{ParsesBool}
use Rattle.std.specs.Option.{option_map_or}
use Rattle.std.proofs.lemmas.Slice.Eq.{bytes_eq-Decides}
use Rattle.clap.specs.Matches.{ReadsOne, one_text}
use Rattle.clap.specs.Walk.{Text, rows_of}
use Rattle.clap.specs.declared.parser.matches.Found.{Found}
use Rattle.clap.proofs.WalkLemmas.{one_text-rows}
use Rattle.command_words.specs.Words.{is_set}

-- another text is not `true`
other_text : (t : Text) (b : Bool) → bytes_eq t (codes "true") ≡ b → (t ≡ codes "true" → ⊥) → false ≡ bytes_eq t (codes "true")
other_text t true is other = absurd (other ((bytes_eq-Decides t (codes "true")).0 is))
other_text t false is other = sym is

module _ {E : Type 0} (G : List ℕ → Result Bool E → Type 0) (only : (t : List ℕ) (x : Result Bool E) → G t x → ParsesBool t x) where
  flag_read : (t : Text) (r : Option Bool) → ReadsOne G t r → unwrap_or r false ≡ bytes_eq t (codes "true")
  flag_read t (Some true) read = rw (only t (Ok true) read) refl
  flag_read t (Some false) read = rw (only t (Ok false) read) refl
  flag_read t None read = other_text t (bytes_eq t (codes "true")) refl (only t (Err read.0) read.1).0

  -- it is there if its text is `true`
  flag_of : (o : Option Text) (r : Option Bool) → (o ≡ None → r ≡ None) → ((t : Text) → o ≡ Some t → ReadsOne G t r)
      → unwrap_or r false ≡ option_map_or (λ t. bytes_eq t (codes "true")) o false
  flag_of None r none read = rw (none refl) refl
  flag_of (Some t) r none read = flag_read t r (read t refl)

  pub flag_given : (f : Found) (name : Text) (r : Option Bool) → (one_text f name ≡ None → r ≡ None)
      → ((t : Text) → one_text f name ≡ Some t → ReadsOne G t r) → unwrap_or r false ≡ is_set name (rows_of f)
  flag_given f name r none read =
      flag_of (one_text f name) r none read ∙ ap (λ o. option_map_or (λ t. bytes_eq t (codes "true")) o false) (one_text-rows f name)
