-- What a sink has of a report that was to be written.
use Rattle.std.specs.Prelude.{◌≡◌, ℕ, List, Result, Ok, Err}
use Rattle.byte_io.specs.Sides.{HasPrefix, HasText, Output}
use Rattle.pool_report.specs.declared.error.WriteError.{WriteError}
use Rattle.pool_report.specs.declared.error.WriteError.TheVariants as error

-- all of it, a prefix of it, or nothing
abbrev pub WroteText : {T : Type 0} → Output → List ℕ → Output → Result T WriteError → Type 0
WroteText old text new (Ok done) = HasText old text new
WroteText old text new (Err (error.WriteFault count)) = HasPrefix old text count new
WroteText old text new (Err error.Memory) = new ≡ old
