-- The entries of the map beside the lines that they stand for.
use Rattle.std.proofs.Common.{◌≡◌, ℕ, List, [], ◌∷◌, Bool, true, false, Some, cond, Vec, Global, refl, ap}
use Rattle.std.specs.Prelude.{vec_len}
use Rattle.std.specs.List.{AllZip}
use Rattle.std.specs.Str.{bytes_eq}
use Rattle.std.specs.Map.{lookup}
use Rattle.indexmap.specs.IndexMap.{insert_entry}
use Rattle.gear_status.specs.declared.load.Counts.{Counts}
use Rattle.gear_status.specs.Status.{counts_of, put}
use Rattle.gear_status.specs.Entries.{line_view, lines_view}

abbrev pub Held : Type 0
Held = Vec ℕ Global × Counts

-- two names have the same bytes
abbrev pub same_name : Vec ℕ Global → Vec ℕ Global → Bool
same_name x y = bytes_eq x.items y.items

pub put_view : (es : List Held) (k : Vec ℕ Global) (v : Counts) → lines_view (insert_entry same_name es k v) ≡ put (lines_view es) (k.items, v)
put_view [] k v = refl
put_view (e ∷ es) k v = by (bytes_eq k.items e.0.items) refl (put_view es k v)
  where
    by : (b : Bool) → bytes_eq k.items e.0.items ≡ b
        → lines_view (insert_entry same_name es k v) ≡ put (lines_view es) (k.items, v)
        → lines_view (insert_entry same_name (e ∷ es) k v) ≡ put (lines_view (e ∷ es)) (k.items, v)
    by true same rest = rw same
    by false other rest = rw other (ap (λ t. line_view e ∷ t) rest)

pub counts_view : (es : List Held) (name : List ℕ) → counts_of (lines_view es) name ≡ lookup (λ k. bytes_eq name k.items) es
counts_view [] name = refl
counts_view (e ∷ es) name = ap (cond (bytes_eq name e.0.items) (Some e.1)) (counts_view es name)

-- bytes that are copies are the same
same_bytes : (xs ys : List ℕ) → AllZip (λ x y. y ≡ x) xs ys → ys ≡ xs
same_bytes [] [] h = refl
same_bytes [] (y ∷ ys) h = absurd h
same_bytes (x ∷ xs) [] h = absurd h
same_bytes (x ∷ xs) (y ∷ ys) h = rw h.0 (ap (λ t. x ∷ t) (same_bytes xs ys h.1))

-- entries that are clones are the same lines
pub lines_view-clone : (es fs : List Held) → AllZip (λ e f. (AllZip (λ x y. y ≡ x) e.0.items f.0.items × (vec_len f.0 ≡ vec_len e.0)) × (f.1 ≡ e.1)) es fs → lines_view fs ≡ lines_view es
lines_view-clone [] [] h = refl
lines_view-clone [] (f ∷ fs) h = absurd h
lines_view-clone (e ∷ es) [] h = absurd h
lines_view-clone (e ∷ es) (f ∷ fs) h =
    rw (same_bytes e.0.items f.0.items h.0.0.0, h.0.1) (ap (λ t. line_view e ∷ t) (lines_view-clone es fs h.1))
