use Rattle.std.proofs.Common.{rules, ◌<◌, length, ap, ◌∙◌, arith}
use Rattle.std.proofs.lemmas.List.{take_all, get_or-replicate}
use Rattle.std.proofs.lemmas.List.Elements.{All-from_get_or}
use Rattle.plan_model.proofs.Counting.{tally, tally-more, tally-le}
use Rattle.plan_model.proofs.checker.count_workers.Goals as goal

pub loop-slot-init : goal.loop-slot-init
loop-slot-init c = (search rules, λ f below. get_or-replicate 1024 f 0 0 below)

pub count_one-requires : goal.count_one-requires
count_one-requires c = All-from_get_or (λ count. count < 4096) c.loop-slot.counts 0 (λ f below.
    let live = c.live-slot-items in
    omega (arith, c.loop-slot.invariant.1 f (omega (arith, below, c.loop-slot.invariant.0)), tally-le c.args.plan.now f live.result.now c.loop-slot.slot-index (omega (arith, c.loop-slot-test.true)), c.loop-slot-test.true, ap length live.ensures.all, live.ensures.valid.limits.workers))

pub loop-slot-preserved : goal.loop-slot-preserved
loop-slot-preserved c =
    let many = c.count_one.ensures.many ∙ c.loop-slot.invariant.0 in (
      many,
      λ f below.
          let one = c.count_one.ensures.each f (omega (arith, below, c.loop-slot.invariant.0)) in
          omega (arith, one, c.loop-slot.invariant.1 f below, tally-more c.args.plan.now f c.live-slot-items.result.now c.loop-slot.slot-index c.loop-slot-item.result c.function_of.result c.loop-slot-test.true c.loop-slot-item.is c.function_of.ensures),
    )

pub returns : goal.returns
returns c =
    let items = c.live-slot-items.result.now in
    record {
      many = c.loop-slot.invariant.0;
      each = λ f below. c.loop-slot.invariant.1 f below ∙ ap (tally c.args.plan.now f) (take_all c.loop-slot.slot-index items (omega arith) ∙ c.live-slot-items.ensures.all);
    }
