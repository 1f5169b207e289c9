use Rattle.std.proofs.Common.{sym, subst, arith}
use Rattle.unserved_jobs.specs.Unserved.{IsTable}
use Rattle.unserved_jobs.proofs.Tables.{table_without}
use Rattle.unserved_jobs.proofs.table.UnservedJobs.forget.Goals as goal

pub invariant_of-self : goal.invariant_of-self
invariant_of-self c =
    (subst IsTable (sym c.take_out.ensures.others) (table_without c.args.job.now c.self.inside.jobs.items c.self.invariant.0), omega (arith, c.self.invariant.1, c.take_out.ensures.capacity))
