use Rattle.std.proofs.Common.{inr, refl}
use Rattle.size_command.proofs.check.check_size_text.Goals as goal

pub returns-in-Err : goal.returns-in-Err
returns-in-Err g c = let told = c.in-Err.ensures in record {
  checks = (told.0, told.1, (told.2.0, told.2.1, inr (c.in-Err.fault, told.2.2, (refl, c.refused.ensures))));
}
