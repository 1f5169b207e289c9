use Rattle.std.proofs.Common.{rules, ltb}
use Rattle.std.proofs.lemmas.Fn.{always_returns_same}
use Rattle.plan_model.proofs.Rising.{rise_exactly}
use Rattle.plan_model.proofs.ids.slots_rise.Goals as goal

pub returns : goal.returns
returns g c = rise_exactly (λ entry. entry.0) c.args.entries.now c.is_sorted_by.result
    (c.is_sorted_by.ensures.cases (λ x y. ltb x.0 y.0) (always_returns_same _ _ _ (λ a r f' called. search rules)))
