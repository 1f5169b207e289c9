use Rattle.std.proofs.Common.{◌≡◌, ◌≤◌, ◌-◌, ℕ, List, length}
use Rattle.http1.specs.declared.conn.Limits.{Limits}
use Rattle.http_jobs.specs.Reading.{IsPartway}
use Rattle.http_jobs.proofs.reader.ResponseReader.advance.Given as goal

abbrev pub invariant-loop-e : goal.invariant-loop-e
invariant-loop-e l = record {
  within : l.self.at ≤ length l.self.unread.items;
  partway : (limits : Limits) (read : List ℕ) → IsPartway limits read l.fn.self → IsPartway limits read l.self;
  came : l.self.came ≡ l.fn.self.came;
}

abbrev pub decreases-loop-e : goal.decreases-loop-e
decreases-loop-e l = length l.self.unread.items - l.self.at
