-- Headers as pairs of a name and a value.
use Rattle.std.specs.Prelude.{ℕ, List, map, string_bytes}
use Rattle.farm_page.specs.declared.headers.Header.{Header}

abbrev pub pairs : List Header → List (List ℕ × List ℕ)
pairs headers = map (λ header. (header.name.now, string_bytes header.value)) headers
