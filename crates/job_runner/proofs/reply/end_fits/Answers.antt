use Rattle.job_runner.proofs.Replies.{fail_fits}
use Rattle.job_runner.proofs.reply.end_fits.Goals as goal

pub returns-in-Fail : goal.returns-in-Fail
returns-in-Fail c = rw c.in-Fail.is (fail_fits c.args.handle.now c.requires)
