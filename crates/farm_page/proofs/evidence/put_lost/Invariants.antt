use Rattle.std.proofs.Common.{◌≡◌, ◌++◌, drop}
use Rattle.farm_page.specs.Evidence.{lost_words}
use Rattle.farm_page.proofs.evidence.put_lost.Given as goal

-- what is written, and what is left to write
abbrev pub invariant-loop-worker : goal.invariant-loop-worker
invariant-loop-worker l = l.out.items ++ lost_words (drop l.worker-index l.lost) ≡ l.fn.out.items ++ lost_words l.lost
