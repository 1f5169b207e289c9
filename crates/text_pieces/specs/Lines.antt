-- Texts in lines, each ended by a line feed.
use Rattle.std.specs.Prelude.{ℕ, ◌==◌, List, [], ◌∷◌, ◌++◌, Bool}

abbrev pub is_line_feed : ℕ → Bool
is_line_feed b = b == 10

-- the line and its line feed
abbrev pub ended : List ℕ → List ℕ
ended line = line ++ 10 ∷ []
