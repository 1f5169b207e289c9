-- What is wrong with a size, and why no addition serves, as a line gives it: a number and a name. The flaws' numbers rise in the order in
-- which `check_size` looks; 7 is left out for a text that is not the one of its size.
use Rattle.std.specs.Prelude.{codes}
use Rattle.refusal.specs.Label.{Label, label}
use Rattle.plan_sizing.specs.declared.size.Flaw.{Flaw}
use Rattle.plan_sizing.specs.declared.size.Flaw.TheVariants as flaw
use Rattle.plan_sizing.specs.declared.size.Obstacle.{Obstacle}
use Rattle.plan_sizing.specs.declared.size.Obstacle.TheVariants as obstacle

abbrev pub flaw_label : Flaw → Label
flaw_label flaw.WrongLimit = label 1 (codes "WrongLimit")
flaw_label flaw.NotPermitted = label 2 (codes "NotPermitted")
flaw_label flaw.BelowNeed = label 3 (codes "BelowNeed")
flaw_label flaw.AboveMost = label 4 (codes "AboveMost")
flaw_label flaw.NotShort = label 5 (codes "NotShort")
flaw_label flaw.SetMissing = label 6 (codes "SetMissing")
flaw_label flaw.WrongObstacle = label 8 (codes "WrongObstacle")

abbrev pub obstacle_label : Obstacle → Label
obstacle_label (obstacle.AboveMost function need most) = label 1 (codes "AboveMost")
obstacle_label (obstacle.NoMachine function need) = label 2 (codes "NoMachine")
