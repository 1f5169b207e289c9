-- One line more of a text.
use Rattle.std.proofs.Common.{◌≡◌, ℕ, ◌+◌, List, ◌∷◌, Ok, Err}
use Rattle.std.specs.List.{slice_split}
use Rattle.size_report.specs.Reading.{Draft, meaning_from, place_line}
use Rattle.text_pieces.specs.Lines.{is_line_feed}
use Rattle.pool_settings.specs.Settings.{Settings}
use Rattle.pool_report.specs.declared.stage.Misread.TheVariants as misread
use Rattle.pool_report.specs.declared.error.ReadError.TheVariants as error
use Rattle.text_pieces.proofs.Lines.{first_part}

module _ (p : Settings) (n : ℕ) (d : Draft) (line tail : List ℕ) where
  pub bad_line : place_line p d line ≡ Err misread.Bad → meaning_from p n d (line ∷ slice_split is_line_feed tail) ≡ Err (error.BadLine n)
  bad_line e = let next = first_part tail in rw (next.2, e)

  pub unknown_name : place_line p d line ≡ Err misread.Unknown → meaning_from p n d (line ∷ slice_split is_line_feed tail) ≡ Err (error.UnknownName n)
  unknown_name e = let next = first_part tail in rw (next.2, e)

  pub taken_line : (more : Draft) → place_line p d line ≡ Ok more
      → meaning_from p n d (line ∷ slice_split is_line_feed tail) ≡ meaning_from p (n + 1) more (slice_split is_line_feed tail)
  taken_line more e = let next = first_part tail in rw (next.2, e)
