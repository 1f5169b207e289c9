use Rattle.std.proofs.Common.{◌≡◌, ◌+◌, slice_index}
use Rattle.augment.proofs.idle.idle_of.Given as goal

abbrev pub invariant-loop-k : goal.invariant-loop-k
invariant-loop-k l = l.looks + slice_index l.tables.pairs.workers.first.now l.m ≡ l.initial.looks + l.k
