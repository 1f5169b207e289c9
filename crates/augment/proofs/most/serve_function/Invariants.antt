use Rattle.std.proofs.Common.{◌-◌, ◌<◌, ◌≤◌, ℕ, length, slice_index}
use Rattle.round_arena.specs.Plan.{IsGraph, count_on}
use Rattle.round_arena.specs.Round.{SamePairs}
use Rattle.augment.specs.Most.{AreWithinNeeds}
use Rattle.augment.specs.Searching.{IsStaffed}
use Rattle.augment.proofs.most.serve_function.Given as goal

abbrev pub invariant-loop-tables : goal.invariant-loop-tables
invariant-loop-tables l = record {
  same : SamePairs l.fn.tables l.tables;
  graph : IsGraph (length l.need) (length l.tables.owner.now) l.tables.pairs;
  staffed : IsStaffed l.tables.pairs l.need l.tables.owner.now l.tables.count.now l.tree;
  within : AreWithinNeeds l.need l.tables.owner.now;
  grows : (g : ℕ) → g < length l.need → count_on l.fn.tables.owner.now g ≤ count_on l.tables.owner.now g;
}

abbrev pub decreases-loop-tables : goal.decreases-loop-tables
decreases-loop-tables l = slice_index l.need l.f - slice_index l.tables.count.now l.f
