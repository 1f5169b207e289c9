use Rattle.std.proofs.Common.{◌-◌, length, slice_index}
use Rattle.round_arena.specs.Plan.{IsGraph}
use Rattle.round_arena.specs.Round.{SamePairs}
use Rattle.augment.proofs.Gains.{IsServing}
use Rattle.augment.proofs.serving.serve_all.Given as goal

abbrev pub invariant-loop-k : goal.invariant-loop-k
invariant-loop-k l = record {
  same : SamePairs l.fn.tables l.tables;
  graph : IsGraph (length l.need) (length l.tables.owner.now) l.tables.pairs;
  serving : IsServing l.tables.pairs l.fn.tables.order.now l.need l.fn.tables.owner.now l.tables.owner.now l.tables.count.now l.tree l.fn.looks l.looks l.k;
}

abbrev pub invariant-loop-tables : goal.invariant-loop-tables
invariant-loop-tables l = record {
  same : SamePairs l.fn.tables l.tables;
  graph : IsGraph (length l.need) (length l.tables.owner.now) l.tables.pairs;
  serving : IsServing l.tables.pairs l.fn.tables.order.now l.need l.fn.tables.owner.now l.tables.owner.now l.tables.count.now l.tree l.fn.looks l.looks l.k;
}

abbrev pub decreases-loop-tables : goal.decreases-loop-tables
decreases-loop-tables l = slice_index l.need l.f - slice_index l.tables.count.now l.f
