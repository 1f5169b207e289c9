-- The range of a number of workers.
use Rattle.std.proofs.Common.{◌≡◌, ℕ, ◌≤◌, true, Option, Some, None, is_some, refl}
use Rattle.std.specs.Prelude.{unwrap_or, option_and_then}
use Rattle.toml.specs.Data.{Data}
use Rattle.file_keys.specs.Tree.{number_between}
use Rattle.file_keys.proofs.Ranges.{IsFrom, number_range}

-- a number that is there, or a default up to high, is up to high
pub count_few : (high default : ℕ) → default ≤ high → (o : Option Data) → unwrap_or (option_and_then (number_between 0 high) o) default ≤ high
count_few high default few None = few
count_few high default few (Some value) = by (number_between 0 high value) (number_range 0 high value)
  where
    by : (o : Option ℕ) → (is_some o ≡ true → IsFrom 0 high (unwrap_or o 0)) → unwrap_or o default ≤ high
    by None h = few
    by (Some n) h = (h refl).1
