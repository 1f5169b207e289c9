-- What the two holders of the rounds of a run know, as views of one cell.
use Rattle.std.specs.Prelude.{◌≡◌, ℕ, List, [], ◌∷◌, ◌++◌, true, false, None}
use mathlib.Core.Option.{some}
use lib.ListN.{get_elem?}
use Rattle.pool_core.specs.declared.answer.Ran.{Ran}
use Rattle.agreed_rounds.specs.declared.known.View.{View}

-- what no round came to
abbrev pub no_round : Ran
no_round = record { number = 0; backlog = None; moved = 0 }

-- who keeps these rounds and tells them
abbrev pub alone : List Ran → View
alone rounds = record { keeps = true; kept = rounds; tells = true; told = rounds }

-- who keeps these rounds
abbrev pub keeper : List Ran → View
keeper rounds = record { keeps = true; kept = rounds; tells = false; told = [] }

-- who tells these rounds
abbrev pub teller : List Ran → View
teller rounds = record { keeps = false; kept = []; tells = true; told = rounds }

-- who knows nothing of them
abbrev pub nobody : View
nobody = record { keeps = false; kept = []; tells = false; told = [] }

-- what is left to the keeper if another tells
abbrev pub without_telling : View → View
without_telling view = record { keeps = view.keeps; kept = view.kept; tells = false; told = [] }

-- what is left to the teller if another keeps
abbrev pub without_keeping : View → View
without_keeping view = record { keeps = false; kept = []; tells = view.tells; told = view.told }

-- what the first one keeps, and what the second one tells
abbrev pub both : View → View → View
both first second = record { keeps = first.keeps; kept = first.kept; tells = second.tells; told = second.told }

-- One at most keeps rounds, one at most tells rounds, and these are the same.
abbrev pub Agree : List ℕ → List View → Type 0
Agree words views =
    (keeps tells : ℕ) × (rounds : List Ran)
    × ((by : ℕ) (v : View) → get_elem? views by ≡ some v
    → (v.keeps ≡ true → (by ≡ keeps) × (v.kept ≡ rounds)) × (v.tells ≡ true → (by ≡ tells) × (v.told ≡ rounds)))

-- who keeps and tells finds that both are the same
abbrev pub Finds : View → List ℕ → List ℕ → View → Type 0
Finds v before after w = (w ≡ v) × (v.keeps ≡ true → v.tells ≡ true → v.kept ≡ v.told)

-- one round more is kept and told
abbrev pub with_round : Ran → View → View
with_round ran v = record { keeps = v.keeps; kept = v.kept ++ ran ∷ []; tells = v.tells; told = v.told ++ ran ∷ [] }

abbrev pub Adds : Ran → View → List ℕ → List ℕ → View → Type 0
Adds ran v before after w = w ≡ with_round ran v
