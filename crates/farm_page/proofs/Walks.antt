-- A text that is written for one element of a list after another.
use Rattle.std.proofs.Common.{◌≡◌, ℕ, ◌+◌, ◌<◌, List, ◌++◌, drop, get_or, length, ap, append_assoc, sym, ◌∙◌}
use Rattle.std.specs.List.{flat_map}
use Rattle.std.proofs.lemmas.List.{drop_more}

-- one element more is written: what is written, and what is left to write, stay the same
pub flat_map_step : {T : Type 0} (f : T → List ℕ) (items : List T) (i : ℕ) (x : T) (old new whole : List ℕ)
    → i < length items → x ≡ get_or items i x → new ≡ old ++ f x
    → old ++ flat_map f (drop i items) ≡ whole → new ++ flat_map f (drop (i + 1) items) ≡ whole
flat_map_step f items i x old new whole inside is added before =
    let rest = flat_map f (drop (i + 1) items) in
    ap (λ t. t ++ rest) added ∙ append_assoc old (f x) rest
    ∙ ap (λ t. old ++ t) (sym (ap (λ xs. flat_map f xs) (drop_more items i x inside) ∙ ap (λ y. f y ++ rest) (sym is)))
    ∙ before

-- two texts after each other
pub after : {T : Type 0} (old between new a b : List T) → between ≡ old ++ a → new ≡ between ++ b → new ≡ old ++ (a ++ b)
after old between new a b first second = second ∙ ap (λ t. t ++ b) first ∙ append_assoc old a b

-- a text after one that is known
pub after_known : (between new a b : List ℕ) → between ≡ a → new ≡ between ++ b → new ≡ a ++ b
after_known between new a b known added = added ∙ ap (λ t. t ++ b) known
