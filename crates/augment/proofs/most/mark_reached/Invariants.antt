use Rattle.augment.proofs.CutOff.{MarksUpTo}
use Rattle.augment.proofs.most.mark_reached.Given as goal

abbrev pub invariant-loop-f : goal.invariant-loop-f
invariant-loop-f l = MarksUpTo l.fn.short l.short l.tree.place.now l.f
