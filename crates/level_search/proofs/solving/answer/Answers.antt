use Rattle.std.proofs.Common.{ℕ, length, ap, sym, ◌∙◌, subst, arith}
use Rattle.std.proofs.lemmas.List.{length-map}
use Rattle.level_search.specs.declared.bisect.Found.{Found}
use Rattle.level_search.specs.declared.bisect.Found.TheVariants.{Level}
use Rattle.round_arena.specs.Round.{IsConsistent}
use Rattle.level_search.specs.Found.{IsFound}
use Rattle.round_arena.proofs.Lists.{order-size}
use Rattle.level_search.proofs.Answering.{shown-settled}
use Rattle.level_search.proofs.Keeping.{Tells-now, plan_of-same}
use Rattle.level_search.proofs.Spreading.{IsFull-plan}
use Rattle.level_search.proofs.solving.answer.Goals as goal

pub settle-requires-clause-staff : goal.settle-requires-clause-staff
settle-requires-clause-staff c =
    omega (arith, c.requires.sound.slots, ap length c.requires.slots, length-map c.args.input.now.live (λ worker. worker.0), c.facts.ensures.limits.workers)

pub settle-requires-clause-met : goal.settle-requires-clause-met
settle-requires-clause-met c =
    let found : IsFound c.args.input.now c.args.tables.now (Level c.in-Level.level c.in-Level.set) = subst (λ (z : Found). IsFound c.args.input.now c.args.tables.now z) c.in-Level.is c.requires.found in
    found.0

pub copy_plan-requires : goal.copy_plan-requires
copy_plan-requires c =
    let i = c.args.input.now in
    let u = c.settle.new.tables in
    let sound : IsConsistent (length i.least) u = c.settle.ensures.settled.sound in
    record { sound = subst (λ (n : ℕ). IsConsistent n u) (sym (order-size (length i.least) u.order.now sound.order)) sound }

pub returns-in_ok-short-in-Level-clause-kept : goal.returns-in_ok-short-in-Level-clause-kept
returns-in_ok-short-in-Level-clause-kept c kept serves full =
    let i = c.args.input.now in
    let t = c.args.tables.now in
    let u = c.settle.new.tables in
    c.in_ok-plan-in-Level.ensures
    ∙ plan_of-same t u c.settle.ensures.same (c.settle.ensures.kept kept (IsFull-plan i t (Tells-now i t c.requires.sound c.requires.fits c.requires.slots) full))

pub returns-in_ok-short-in-Level-clause-shown : goal.returns-in_ok-short-in-Level-clause-shown
returns-in_ok-short-in-Level-clause-shown c =
    let i = c.args.input.now in
    let t = c.args.tables.now in
    let u = c.settle.new.tables in
    let found : IsFound i t (Level c.in-Level.level c.in-Level.set) = subst (λ (z : Found). IsFound i t z) c.in-Level.is c.requires.found in
    shown-settled i t u c.in-Level.level c.in-Level.set.now c.in_ok-plan-in-Level.plan c.in_ok-short-in-Level.short c.facts.ensures c.requires.slots c.settle.ensures.settled c.settle.ensures.same found.1
    c.in_ok-plan-in-Level.ensures c.in_ok-short-in-Level.ensures
