-- What the getters of a parse's matches read, as rows.
use Rattle.std.proofs.Common.{◌≡◌, ℕ, List, [], ◌∷◌, Bool, true, false, Option, Some, None, option_map, option_and_then, find, slice_get, map, refl, ap, ◌∙◌, Bor}
use Rattle.std.specs.Str.{bytes_eq}
use Rattle.clap.specs.Facts.{Entry}
use Rattle.clap.specs.Matches.{first_value, matched_of, raw_values}
use Rattle.clap.specs.Walk.{all_of, first_of, row_of, rows_of, texts}
use Rattle.clap.specs.declared.parser.matches.Found.{Found}

-- the row of an id is that of its entry
row_found : (id : List ℕ) (es : List Entry) → find (λ r. bytes_eq r.id id) (map row_of es) ≡ option_map row_of (find (λ e. bytes_eq e.0.now id) es)
row_found id [] = refl
row_found id (e ∷ es) = by (bytes_eq e.0.now id) refl (row_found id es)
  where
    by : (b : Bool) → bytes_eq e.0.now id ≡ b
        → find (λ r. bytes_eq r.id id) (map row_of es) ≡ option_map row_of (find (λ x. bytes_eq x.0.now id) es)
        → find (λ r. bytes_eq r.id id) (map row_of (e ∷ es)) ≡ option_map row_of (find (λ x. bytes_eq x.0.now id) (e ∷ es))
    by true same rest = rw same
    by false other rest = rw other rest

text_at : (vs : List (Bor (List ℕ))) → slice_get (texts vs) 0 ≡ option_map (λ s. s.now) (slice_get vs 0)
text_at [] = refl
text_at (v ∷ vs) = refl

first_at : (o : Option Entry) → option_and_then (λ r. slice_get r.values 0) (option_map row_of o) ≡ option_and_then (λ a. option_map (λ s. s.now) (slice_get a.vals.items 0)) (option_map (λ e. e.1) o)
first_at None = refl
first_at (Some e) = text_at e.1.vals.items

-- `get_str`
pub first_of_rows : (f : Found) (id : List ℕ) → first_of id (rows_of f) ≡ first_value f id
first_of_rows f id = ap (option_and_then (λ r. slice_get r.values 0)) (row_found id f.entries.items) ∙ first_at (find (λ e. bytes_eq e.0.now id) f.entries.items)

all_at : (o : Option Entry) → option_map (λ r. r.values) (option_map row_of o) ≡ option_map raw_values (option_map (λ e. e.1) o)
all_at None = refl
all_at (Some e) = refl

-- `get_strs`
pub all_of_rows : (f : Found) (id : List ℕ) → all_of id (rows_of f) ≡ option_map raw_values (matched_of f id)
all_of_rows f id = ap (option_map (λ r. r.values)) (row_found id f.entries.items) ∙ all_at (find (λ e. bytes_eq e.0.now id) f.entries.items)
