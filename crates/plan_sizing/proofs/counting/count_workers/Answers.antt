use Rattle.std.proofs.Common.{rules, ◌<◌, length, ap, ◌∙◌, arith}
use Rattle.std.proofs.lemmas.List.{get_or_default, take_all, get_or-replicate}
use Rattle.std.proofs.lemmas.List.Elements.{All-from_get_or}
use Rattle.plan_model.proofs.Counting.{tally, tally-more, tally-le}
use Rattle.plan_sizing.specs.Sizing.{grown}
use Rattle.plan_sizing.proofs.counting.count_workers.Goals as goal

pub loop-place-init : goal.loop-place-init
loop-place-init c = record { many = search rules; each = λ f below. get_or-replicate 1024 f 0 0 below }

pub count_one-requires : goal.count_one-requires
count_one-requires c = All-from_get_or (λ count. count < 8192) c.loop-place.counts 0 (λ f below.
    let live = (grown c.args.farm.now c.args.added.now).live in
    let some : c.loop-place.place < length live = omega (arith, c.loop-place-test.true, c.workers-place-end.ensures.all) in
    omega (arith, c.loop-place.invariant.each f (omega (arith, below, c.loop-place.invariant.many)), tally-le c.args.plan.now f live c.loop-place.place (omega (arith, some)), c.loop-place-test.true, c.workers-place-end.ensures.few))

pub loop-place-preserved : goal.loop-place-preserved
loop-place-preserved c =
    let live = (grown c.args.farm.now c.args.added.now).live in
    let some : c.loop-place.place < length live = omega (arith, c.loop-place-test.true, c.workers-place-end.ensures.all) in
    record {
      many = c.count_one.ensures.many ∙ c.loop-place.invariant.many;
      each = λ f below.
          let one = c.count_one.ensures.each f (omega (arith, below, c.loop-place.invariant.many)) in
          omega (arith, one, c.loop-place.invariant.each f below, tally-more c.args.plan.now f live c.loop-place.place c.worker_at-worker.result c.function_of.result some (c.worker_at-worker.ensures ∙ get_or_default live c.loop-place.place (0, 0) c.worker_at-worker.result some) c.function_of.ensures);
    }

pub returns : goal.returns
returns c =
    let live = (grown c.args.farm.now c.args.added.now).live in
    record {
      many = c.loop-place.invariant.many;
      each = λ f below. c.loop-place.invariant.each f below ∙ ap (tally c.args.plan.now f) (take_all c.loop-place.place live (omega (arith, c.loop-place-test.false, c.workers-place-end.ensures.all)));
    }
