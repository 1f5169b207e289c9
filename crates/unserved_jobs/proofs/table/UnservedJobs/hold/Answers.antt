use Rattle.std.proofs.Common.{◌<◌, ◌∙◌, ap, sym, refl, arith}
use Rattle.unserved_jobs.specs.Unserved.{held_count, is_held, next_hold_ms, once_held}
use Rattle.unserved_jobs.proofs.Tables.{known_none, known_same, known_some, place_of_known, next_unknown, next_taken, next_first, next_again, once_held_is, table_set}
use Rattle.unserved_jobs.proofs.table.UnservedJobs.hold.Goals as goal

pub returns-in_err-place-clause-time : goal.returns-in_err-place-clause-time
returns-in_err-place-clause-time c =
    let nothing = known_none c.args.job.now c.self.inside.jobs.items _ _ c.deref-2.ensures.value c.place_of.ensures c.in_err-place.was in
    let none = next_unknown c.args.job.now c.self.inside.jobs.items nothing in
    cc none

pub returns-then-is_held-clause-time : goal.returns-then-is_held-clause-time
returns-then-is_held-clause-time c =
    let at = place_of_known c.args.job.now c.self.inside.jobs.items _ _ c.in_ok-place.place c.deref-2.ensures.value c.place_of.ensures c.in_ok-place.was in
    let found = known_some c.args.job.now c.self.inside.jobs.items c.in_ok-place.place c.index.result.now at c.index.ensures in
    let none = next_taken c.args.job.now c.self.inside.jobs.items c.index.result.now found (sym c.is_held.ensures ∙ c.if-is_held.true) in
    sym none ∙ ap (next_hold_ms c.args.job.now) c.self.view_is

pub returns-in_err-milliseconds-clause-time : goal.returns-in_err-milliseconds-clause-time
returns-in_err-milliseconds-clause-time c =
    let at = place_of_known c.args.job.now c.self.inside.jobs.items _ _ c.in_ok-place.place c.deref-2.ensures.value c.place_of.ensures c.in_ok-place.was in
    let found = known_some c.args.job.now c.self.inside.jobs.items c.in_ok-place.place c.index-2.result.now at c.index-2.ensures in
    let none = next_first c.args.job.now c.self.inside.jobs.items c.index-2.result.now found (sym c.hold_ms.ensures ∙ c.in_err-milliseconds.was) in
    cc none

pub invariant_of-self : goal.invariant_of-self
invariant_of-self c =
    let at = place_of_known c.args.job.now c.self.inside.jobs.items _ _ c.in_ok-place.place c.deref-2.ensures.value c.place_of.ensures c.in_ok-place.was in
    let few : held_count c.self.inside.jobs.items < 64 = omega (arith, c.if-held_in-ge-MOST_HELD.false, c.held_in.ensures ∙ ap held_count c.deref.ensures.value) in
    (table_set c.self.inside.jobs.items c.in_ok-place.place c.index_mut.result.now _ at.1 c.index_mut.ensures.value refl few c.self.invariant.0, c.self.invariant.1)

pub returns-clause-time : goal.returns-clause-time
returns-clause-time c =
    let at = place_of_known c.args.job.now c.self.inside.jobs.items _ _ c.in_ok-place.place c.deref-2.ensures.value c.place_of.ensures c.in_ok-place.was in
    let found = known_some c.args.job.now c.self.inside.jobs.items c.in_ok-place.place c.index.result.now at c.index.ensures in
    let again = known_some c.args.job.now c.self.inside.jobs.items c.in_ok-place.place c.index-2.result.now at c.index-2.ensures in
    let same = known_same c.args.job.now c.self.inside.jobs.items c.index-2.result.now c.index.result.now again found in
    let free = ap is_held same ∙ (sym c.is_held.ensures ∙ c.if-is_held.false) in
    let few : held_count c.self.inside.jobs.items < 64 = omega (arith, c.if-held_in-ge-MOST_HELD.false, c.held_in.ensures ∙ ap held_count c.deref.ensures.value) in
    let next = next_again c.args.job.now c.self.inside.jobs.items c.index-2.result.now c.in_ok-milliseconds.milliseconds few again free (sym c.hold_ms.ensures ∙ c.in_ok-milliseconds.was) in
    sym next ∙ ap (next_hold_ms c.args.job.now) c.self.view_is

pub returns-clause-held : goal.returns-clause-held
returns-clause-held c =
    let at = place_of_known c.args.job.now c.self.inside.jobs.items _ _ c.in_ok-place.place c.deref-2.ensures.value c.place_of.ensures c.in_ok-place.was in
    let found = known_some c.args.job.now c.self.inside.jobs.items c.in_ok-place.place c.index_mut.result.now at c.index_mut.ensures.value in
    once_held_is c.args.worker c.args.job.now c.self.inside.jobs.items c.in_ok-place.place c.index_mut.result.now at found ∙ ap (once_held c.args.worker c.args.job.now) c.self.view_is
