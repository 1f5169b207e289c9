-- What the text of a size is read as.
use Rattle.std.specs.Prelude.{◌≡◌, ℕ, List, Option, Ok, filter, is_some}
use Rattle.plan_sizing.specs.Shown.{Shown}
use Rattle.plan_sizing.specs.Sizing.{Farm}
use Rattle.plan_sizing.specs.declared.size.Size.{Size}
use Rattle.plan_sizing.specs.declared.size.Size.TheVariants.{Enough, Never, TooMany}
use Rattle.pool_settings.specs.Settings.{Settings}
use Rattle.size_report.specs.Reading.{size_meaning}
use Rattle.size_report.specs.Text.{size_text}

-- the plan that a text lists: the workers that have a function
abbrev pub listed_plan : List (ℕ × Option ℕ) → List (ℕ × Option ℕ)
listed_plan entries = filter (λ entry. is_some entry.1) entries

-- the size that its text means: the same, with its plan listed for the workers that have a function
abbrev pub retold : Size → Size
retold (Enough added entries short) = Enough added (listed_plan entries) short
retold (Never obstacle) = Never obstacle
retold (TooMany many set) = TooMany many set

-- The text is read as this size with its plan so listed, which is shown too and has the same text.
pub record IsReadBack (settings : Settings) (farm : Farm) (size : Size) : Type 0 where
  pub same : size_meaning settings (size_text settings farm size) ≡ Ok (retold size)
  pub shown : Shown farm (retold size)
  pub text : size_text settings farm (retold size) ≡ size_text settings farm size
