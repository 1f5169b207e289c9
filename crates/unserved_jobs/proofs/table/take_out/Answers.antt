use Rattle.unserved_jobs.proofs.Tables.{known_none, known_some, place_of_known}
use Rattle.unserved_jobs.proofs.table.take_out.Goals as goal

pub returns-in_err-place-clause-known : goal.returns-in_err-place-clause-known
returns-in_err-place-clause-known c =
    let nothing = known_none c.args.job.now c.args.jobs.now.items _ _ c.deref.ensures.value c.place_of.ensures c.in_err-place.was in
    cc nothing

pub returns-clause-known : goal.returns-clause-known
returns-clause-known c =
    let at = place_of_known c.args.job.now c.args.jobs.now.items _ _ c.in_ok-place.place c.deref.ensures.value c.place_of.ensures c.in_ok-place.was in
    let found = known_some c.args.job.now c.args.jobs.now.items c.in_ok-place.place c.remove.result at c.remove.ensures.value in
    cc found
