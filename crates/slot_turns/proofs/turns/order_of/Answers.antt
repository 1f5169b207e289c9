use Rattle.std.proofs.Common.{map, ap, ◌∙◌, arith}
use Rattle.std.proofs.lemmas.Result.{IfOk-weaker}
use Rattle.slot_turns.proofs.Order.{each_slot_once, in_turn, numbered-more}
use Rattle.slot_turns.proofs.turns.order_of.Goals as goal

pub loop-number-preserved : goal.loop-number-preserved
loop-number-preserved c =
    numbered-more c.args.settings.now c.loop-number.numbered.items c.push.new.self.items c.loop-number.number c.new-slot.result c.worker_number.result c.loop-number.invariant c.new-slot.ensures c.worker_number.ensures.all c.in_ok-push.ensures.items

pub returns-clause-each_once : goal.returns-clause-each_once
returns-clause-each_once c =
    IfOk-weaker c.slots_of.result _ _
    (λ order is. each_slot_once c.args.settings.now c.loop-number.number c.loop-number.numbered.items c.sort.new.self.items order.items c.loop-number.invariant
    (omega (arith, c.loop-number-test.false, c.loop-number.auto.number-end, c.slots-number-end.ensures.all)) c.in_ok-sort.ensures.permutation (is ∙ ap (map (λ e. e.1)) c.deref.ensures.value))
    c.slots_of.ensures

pub returns-clause-in_turn : goal.returns-clause-in_turn
returns-clause-in_turn c =
    IfOk-weaker c.slots_of.result _ _
    (λ order is. in_turn c.args.settings.now c.loop-number.number c.loop-number.numbered.items c.sort.new.self.items order.items c.slots-number-end.ensures.valid c.loop-number.invariant
    (omega (arith, c.loop-number-test.false, c.loop-number.auto.number-end, c.slots-number-end.ensures.all)) c.in_ok-sort.ensures.permutation c.in_ok-sort.ensures.sorted (is ∙ ap (map (λ e. e.1)) c.deref.ensures.value))
    c.slots_of.ensures
