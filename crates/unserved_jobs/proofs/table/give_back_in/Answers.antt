use Rattle.std.proofs.Common.{ap, sym, ◌∙◌, set, arith}
use Rattle.std.proofs.lemmas.List.Edits.{map_over_more}
use Rattle.unserved_jobs.specs.declared.job.UnservedJob.{UnservedJob}
use Rattle.unserved_jobs.specs.Unserved.{given_back}
use Rattle.unserved_jobs.proofs.table.give_back_in.Goals as goal

pub loop-left-preserved : goal.loop-left-preserved
loop-left-preserved c =
    let changed = c.give_back.ensures ∙ ap (given_back c.args.worker.now) (sym c.left-item.is) in
    ap (λ (left : UnservedJob). set c.loop-left.jobs c.loop-left.left-index left) changed
    ∙ map_over_more (given_back c.args.worker.now) c.args.jobs.now c.loop-left.jobs c.loop-left.left-index c.left-item.result (omega arith) c.loop-left.invariant c.left-item.is
