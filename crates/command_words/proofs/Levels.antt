-- The level of a command about sizes, and what is wrong with its words.
use Rattle.std.proofs.Common.{◌≡◌, ℕ, List, [], Option, Some, None, refl, inl, inr}
use Rattle.clap.specs.Simple.{App, matches_of}
use Rattle.clap.specs.Walk.{Text, first_of}
use Rattle.clap.specs.Words.{HasKind, fault_of, kind_of}
use Rattle.clap.specs.declared.error.Error.{Error}
use Rattle.clap.specs.declared.error.kind.ErrorKind.TheVariants.{ValueValidation}
use Rattle.command_words.specs.Words.{backlog, level_faults, level_in, level_of}

-- the level is that of its word
pub level_told : (app : App) (words : List Text) (t : Text) → first_of backlog (matches_of app words) ≡ Some t
    → level_in (matches_of app words) ≡ level_of t
level_told app words t first = rw first refl

-- nothing is wrong where `clap` finds nothing, and there is a level
pub level_right : (app : App) (words : List Text) (level : Option ℕ) → fault_of app words ≡ [] → level_in (matches_of app words) ≡ Some level
    → level_faults app words ≡ []
level_right app words level none is = rw (none, is) refl

-- where there is none, that is wrong
pub level_wrong : (app : App) (words : List Text) (error : Error) → fault_of app words ≡ [] → level_in (matches_of app words) ≡ None
    → kind_of error ≡ ValueValidation → HasKind (level_faults app words) error
level_wrong app words error none is kind = rw (none, is) (inr (inl kind))
