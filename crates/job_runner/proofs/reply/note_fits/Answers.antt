use Rattle.std.proofs.Common.{arith}
use Rattle.job_runner.proofs.Replies.{progress_fits}
use Rattle.job_runner.proofs.reply.note_fits.Goals as goal

pub returns-in-Progress : goal.returns-in-Progress
returns-in-Progress c = rw c.in-Progress.is (progress_fits c.args.handle.now _ _ c.requires (omega arith) (omega arith))
