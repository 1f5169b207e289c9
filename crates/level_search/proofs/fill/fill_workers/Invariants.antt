use Rattle.std.proofs.Common.{◌≡◌, ◌+◌, slice_index}
use Rattle.level_search.specs.Filled.{IsFilled, AreBusyUpTo}
use Rattle.level_search.proofs.fill.fill_workers.Given as goal

abbrev pub invariant-loop-k : goal.invariant-loop-k
invariant-loop-k l = record {
  filled : IsFilled l.functions l.fn.tables.pairs l.fn.tables.most.now l.fn.tables.owner.now l.owner l.count;
  busy : AreBusyUpTo l.fn.tables.pairs l.fn.tables.most.now l.owner l.functions l.f l.m l.k;
  looks : l.looks + slice_index l.fn.tables.pairs.workers.first.now l.m ≡ l.fn.tables.looks + l.k;
}
