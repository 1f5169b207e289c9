use Rattle.std.proofs.Common.{inr, refl}
use Rattle.serve_command.proofs.farm_jobs.settle.Goals as goal

pub returns-in-Some-given_up : goal.returns-in-Some-given_up
returns-in-Some-given_up g c = inr (c.in-Some-given_up.reply, c.in-Some-given_up.ensures, refl)
