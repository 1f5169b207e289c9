-- What an attempt came to.
use Rattle.std.specs.Prelude.{Bool, true, false}
use Rattle.farm_page.specs.declared.view.Outcome.{Outcome}
use Rattle.farm_page.specs.declared.view.Outcome.TheVariants.{Backlog, NoPlan, NoRound, Unreadable, Unserved}

abbrev pub has_plan : Outcome → Bool
has_plan (Backlog jobs) = true
has_plan (Unserved jobs) = true
has_plan NoPlan = false
has_plan (Unreadable why line) = false
has_plan (NoRound why) = false
