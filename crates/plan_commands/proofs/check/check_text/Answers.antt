use Rattle.std.proofs.Common.{inr, refl}
use Rattle.plan_commands.proofs.check.check_text.Goals as goal

pub returns-in-Err : goal.returns-in-Err
returns-in-Err g c = let told = c.in-Err.ensures in record {
  checks = (told.0, told.1, (told.2.0, told.2.1, inr (c.in-Err.fault, told.2.2, (refl, c.refused.ensures))));
}
