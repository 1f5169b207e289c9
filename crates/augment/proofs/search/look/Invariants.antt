use Rattle.std.proofs.Common.{◌≡◌, ◌+◌, length, slice_index}
use Rattle.augment.specs.Tree.{IsTree, Extends, IsPassedUpTo}
use Rattle.augment.proofs.search.look.Given as goal

abbrev pub invariant-loop-k : goal.invariant-loop-k
invariant-loop-k l = record {
  tree : IsTree l.tables.pairs l.tables.owner.now l.tables.count.now l.need l.tree;
  extends : Extends l.initial.tree l.tree;
  looks : l.looks + slice_index l.tables.pairs.workers.first.now l.m ≡ l.initial.looks + l.k;
  passed : IsPassedUpTo l.tables.pairs l.tables.owner.now (length l.need) l.tree l.m l.k;
}
