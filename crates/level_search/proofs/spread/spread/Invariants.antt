use Rattle.std.proofs.Common.{◌+◌, ◌≤◌}
use Rattle.round_arena.specs.Round.{SamePairs}
use Rattle.level_search.specs.Spread.{IsSettled, pairs_of}
use Rattle.level_search.proofs.spread.spread.Given as goal

abbrev pub invariant-loop-w : goal.invariant-loop-w
invariant-loop-w l = record {
  settled : IsSettled l.input l.level l.tables;
  same : SamePairs l.fn.tables l.tables;
  looks : l.tables.looks ≤ l.fn.tables.looks + pairs_of l.input l.fn.tables.machine.now l.w;
  more : l.fn.tables.looks ≤ l.tables.looks;
}
