-- What calls tell, one after the other.
use Rattle.std.proofs.Common.{◌≡◌, List, [], ◌∷◌, ◌++◌, refl, ap, sym, ◌∙◌, append_assoc, Option, Some, None}
use Rattle.std.specs.List.{flat_map}
use Rattle.std.proofs.lemmas.List.{append-nil}
use Rattle.pool_supervisor.specs.Dials.{DialCall, then_called}

pub called_none : (before : Option (List DialCall)) → then_called before [] ≡ before
called_none None = refl
called_none (Some calls) = ap Some (append-nil calls)

pub called_twice : (before : Option (List DialCall)) (xs ys : List DialCall) → then_called (then_called before xs) ys ≡ then_called before (xs ++ ys)
called_twice None xs ys = refl
called_twice (Some calls) xs ys = ap Some (append_assoc calls xs ys)

-- some calls, and then more
pub called_both : (before between now : Option (List DialCall)) (xs ys : List DialCall) → between ≡ then_called before xs → now ≡ then_called between ys → now ≡ then_called before (xs ++ ys)
called_both before between now xs ys first then = then ∙ (ap (λ o. then_called o ys) first ∙ called_twice before xs ys)

pub flat_map_both : {A B : Type 0} (f : A → List B) (xs ys : List A) → flat_map f (xs ++ ys) ≡ flat_map f xs ++ flat_map f ys
flat_map_both f [] ys = refl
flat_map_both f (x ∷ xs) ys = ap (λ l. f x ++ l) (flat_map_both f xs ys) ∙ sym (append_assoc (f x) (flat_map f xs) (flat_map f ys))
