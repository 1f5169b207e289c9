use Rattle.std.proofs.Common.{◌≡◌, List, ◌∷◌, [], ◌++◌, ◌∙◌, ap, sym, subst, arith}
use Rattle.unserved_jobs.specs.declared.job.UnservedJob.{UnservedJob}
use Rattle.unserved_jobs.specs.Unserved.{IsTable, held_count, left_now, without, with_room, after_left}
use Rattle.unserved_jobs.proofs.Tables.{table_without, table-after_left, held-after_left}
use Rattle.unserved_jobs.proofs.table.UnservedJobs.note.Goals as goal

pub make_room-requires : goal.make_room-requires
make_room-requires c = subst IsTable (sym c.take_out-before.ensures.others) (table_without c.args.job.now c.self.inside.jobs.items c.self.invariant.0)

pub invariant_of-self : goal.invariant_of-self
invariant_of-self c =
    let rest = ap (λ (jobs : List UnservedJob). jobs ++ c.left_now-left.result ∷ []) (c.make_room.ensures.jobs ∙ ap with_room c.take_out-before.ensures.others) in
    let newest = ap (λ (left : UnservedJob). with_room (without c.args.job.now c.self.inside.jobs.items) ++ left ∷ []) (c.left_now-left.ensures ∙ ap (left_now c.args.job.now c.args.now_ms) c.take_out-before.ensures.known) in
    let jobs : c.push_reserved.new.self.items ≡ after_left c.args.job.now c.args.now_ms c.self.inside.jobs.items = c.push_reserved.ensures.items ∙ (rest ∙ newest) in (
      subst IsTable (sym jobs) (table-after_left c.args.job.now c.args.now_ms c.self.inside.jobs.items c.self.invariant.0),
      omega (arith, c.self.invariant.1, c.take_out-before.ensures.capacity, c.make_room.ensures.capacity, c.push_reserved.ensures.capacity),
    )

pub returns-clause-held : goal.returns-clause-held
returns-clause-held c =
    let rest = ap (λ (jobs : List UnservedJob). jobs ++ c.left_now-left.result ∷ []) (c.make_room.ensures.jobs ∙ ap with_room c.take_out-before.ensures.others) in
    let newest = ap (λ (left : UnservedJob). with_room (without c.args.job.now c.self.inside.jobs.items) ++ left ∷ []) (c.left_now-left.ensures ∙ ap (left_now c.args.job.now c.args.now_ms) c.take_out-before.ensures.known) in
    let jobs : c.push_reserved.new.self.items ≡ after_left c.args.job.now c.args.now_ms c.self.inside.jobs.items = c.push_reserved.ensures.items ∙ (rest ∙ newest) in
    ap held_count jobs ∙ (held-after_left c.args.job.now c.args.now_ms c.self.inside.jobs.items ∙ ap held_count c.self.view_is)
