use Rattle.std.proofs.Common.{rules, leb}
use Rattle.std.proofs.lemmas.Fn.{always_returns_same}
use Rattle.plan_sizing.proofs.Falling.{fall_never}
use Rattle.plan_sizing.proofs.size.machines_rise.Goals as goal

pub returns : goal.returns
returns c = fall_never c.args.machines.now c.is_sorted_by.result
    (c.is_sorted_by.ensures.cases (λ x y. leb x y) (always_returns_same _ _ _ (λ a r f' called. search rules)))
