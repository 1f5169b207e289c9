use Rattle.augment.specs.Most.{IsPassedByUpTo}
use Rattle.augment.proofs.most.is_passed.Given as goal

abbrev pub invariant-loop-k : goal.invariant-loop-k
invariant-loop-k l = IsPassedByUpTo l.tables.pairs l.tables.owner.now l.short l.m l.k
