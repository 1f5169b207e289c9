-- What a check of the code answers, as a check of entries does.
use Rattle.std.specs.Prelude.{◌≡◌, ℕ, List, Option, option_map}
use Rattle.std.specs.Borrow.{Bor}
use Rattle.toml.specs.View.{view}
use Rattle.toml.specs.declared.value.Value.{Value}
use Rattle.file_keys.specs.Tree.{Entry}
use Rattle.service_settings.specs.Place.{place_view}
use Rattle.service_settings.specs.declared.place.ServicesPlace.{ServicesPlace}

-- a place that is lent, apart from where its texts lie
abbrev pub shown : Option (ServicesPlace (Bor (List ℕ))) → Option (ServicesPlace (List ℕ))
shown found = option_map (place_view (λ t. t.now)) found

-- each answer of a check of the code is that of a check of entries
abbrev pub AnswersAs : (Bor (List ℕ) → Bor Value → Option (ServicesPlace (Bor (List ℕ))) → Type 0)
    → (Entry → Option (ServicesPlace (List ℕ))) → Type 0
AnswersAs answers find = (key : Bor (List ℕ)) (value : Bor Value) (found : Option (ServicesPlace (Bor (List ℕ))))
    → answers key value found → shown found ≡ find (key.now, view value.now)
