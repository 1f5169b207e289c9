use Rattle.std.proofs.Common.{false, length, arith, inl, inr}
use Rattle.std.proofs.lemmas.Bool.{cases_lt}
use Rattle.std.proofs.lemmas.List.{get_or_past}
use Rattle.augment.proofs.search.clear_passed.Goals as goal

pub returns-clause-none : goal.returns-clause-none
returns-clause-none c m = elim (cases_lt m (length c.loop-p.passed)) [
  | inl here ↦ c.loop-p.invariant.none m (omega (arith, c.loop-p-test.false))
  | inr past ↦ get_or_past c.loop-p.passed m false past
]
