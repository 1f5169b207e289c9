-- A text cut at its line feeds.
use Rattle.std.proofs.Common.{◌≡◌, ◌∙◌, ℕ, ◌<◌, Bor, List, [], ◌∷◌, Bool, true, false, IfSome, MatchOption, None, Option, Some, length, option_map, ap, refl, sym}
use Rattle.std.specs.List.{slice_split}
use Rattle.std.specs.Option.{option_map_or}
use Rattle.text_pieces.specs.Cuts.{cut_first}
use Rattle.text_pieces.specs.Lines.{is_line_feed}
use Rattle.text_pieces.proofs.Cutting.{split_by_first}

-- the parts of a text by what is cut off it
abbrev parts_in : List ℕ → Option (List ℕ × List ℕ) → List (List ℕ)
parts_in text cut = option_map_or (λ parts. parts.0 ∷ slice_split is_line_feed parts.1) cut (text ∷ [])

-- what is cut off a text at its first line feed is its first line
pub line_cut : (text : List ℕ) (cut : Option (Bor (List ℕ) × Bor (List ℕ)))
    → option_map {U = List ℕ × List ℕ} (λ p. (p.0.now, p.1.now)) cut ≡ cut_first 10 text → IfSome cut (λ p. length p.1.now < length text)
    → MatchOption cut (slice_split is_line_feed text ≡ text ∷ [])
    (λ p. (slice_split is_line_feed text ≡ p.0.now ∷ slice_split is_line_feed p.1.now) × (length p.1.now < length text))
line_cut text None is shorter = split_by_first 10 text ∙ ap (parts_in text) (sym is)
line_cut text (Some p) is shorter = (split_by_first 10 text ∙ ap (parts_in text) (sym is), shorter)

-- a text has a first part
pub first_part : (ys : List ℕ) → (head : List ℕ) × (tail : List (List ℕ)) × (slice_split is_line_feed ys ≡ head ∷ tail)
first_part [] = ([], [], refl)
first_part (y ∷ ys) = by (is_line_feed y) refl (first_part ys)
  where
    by : (b : Bool) → is_line_feed y ≡ b → ((head : List ℕ) × (tail : List (List ℕ)) × (slice_split is_line_feed ys ≡ head ∷ tail))
        → (head : List ℕ) × (tail : List (List ℕ)) × (slice_split is_line_feed (y ∷ ys) ≡ head ∷ tail)
    by true feed rest = ([], slice_split is_line_feed ys, rw feed)
    by false other rest = (y ∷ rest.0, rest.1, rw (other, rest.2))
