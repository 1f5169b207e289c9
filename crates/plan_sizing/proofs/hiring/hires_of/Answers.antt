use Rattle.std.proofs.Common.{rules, ℕ, get_or, subst}
use Rattle.std.proofs.lemmas.List.Sorted.{IsNonDecreasingBy-from_sort_by_key}
use Rattle.plan_sizing.specs.Hiring.{Adds}
use Rattle.plan_sizing.proofs.Placed.{hires_all, hires_next, in_order}
use Rattle.plan_sizing.proofs.hiring.hires_of.Goals as goal

pub loop-number-preserved : goal.loop-number-preserved
loop-number-preserved c =
    let i = c.args.input.now in
    let lacks = c.args.lacks.now in
    hires_next i lacks c.loop-number.number c.loop-number.hires.items c.add_for.new.hires.items c.loop-number.invariant c.loop-number-test.true
    (subst (λ (f : ℕ). Adds i lacks f (get_or lacks f 0) c.loop-number.hires.items c.add_for.new.hires.items) c.new.ensures c.in_ok-add_for.ensures)

pub returns-clause-hires : goal.returns-clause-hires
returns-clause-hires c =
    hires_all c.args.input.now c.args.lacks.now c.loop-number.number c.loop-number.hires.items c.sort_by_key.new.self.items c.loop-number.invariant c.loop-number-test.false c.in_ok-sort_by_key.ensures.permutation

pub returns-clause-order : goal.returns-clause-order
returns-clause-order c =
    in_order c.sort_by_key.new.self.items (IsNonDecreasingBy-from_sort_by_key (λ (hire : ℕ × ℕ). hire.0) c.sort_by_key.new.self.items c.in_ok-sort_by_key.ensures.sorted (λ a r f' called. search rules))
