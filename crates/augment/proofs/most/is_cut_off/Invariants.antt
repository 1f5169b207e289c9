use Rattle.augment.proofs.CutOff.{ArePassedByUpTo}
use Rattle.augment.proofs.most.is_cut_off.Given as goal

abbrev pub invariant-loop-k : goal.invariant-loop-k
invariant-loop-k l = ArePassedByUpTo l.tables.pairs l.tables.owner.now l.short l.f l.k
