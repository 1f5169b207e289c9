use Rattle.augment.proofs.CutOff.{IsGoing}
use Rattle.augment.proofs.most.serve_each.Given as goal

abbrev pub invariant-loop-k : goal.invariant-loop-k
invariant-loop-k l = IsGoing l.fn.tables l.need l.tables l.tree l.short l.k
