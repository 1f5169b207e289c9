use Rattle.std.proofs.Common.{◌≡◌, ◌∙◌, ap, sym, subst, length}
use Rattle.std.specs.Prelude.{map}
use Rattle.unserved_jobs.specs.declared.job.UnservedJob.{UnservedJob}
use Rattle.unserved_jobs.specs.Unserved.{IsTable, given_back}
use Rattle.unserved_jobs.proofs.Tables.{table_given_back, written_back}
use Rattle.unserved_jobs.proofs.table.UnservedJobs.give_back.Goals as goal

pub invariant_of-self : goal.invariant_of-self
invariant_of-self c =
    let jobs = c.self.inside.jobs.items in
    let long : c.self.inside.jobs.len ≡ length jobs = sym c.deref_mut.ensures.len ∙ ap (length {A = UnservedJob}) c.deref_mut.ensures.value in
    let new = c.give_back_in.ensures ∙ ap (map (given_back c.args.worker)) c.deref_mut.ensures.value in
    (subst IsTable (sym (written_back (given_back c.args.worker) jobs c.give_back_in.new.jobs c.self.inside.jobs.len long new)) (table_given_back c.args.worker jobs c.self.invariant.0), c.self.invariant.1)
