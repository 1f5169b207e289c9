-- The workers that have a pass, as a set.
use Rattle.std.specs.Prelude.{◌≡◌, ℕ, List, map, refl, IfSome}
use Rattle.std.specs.BTreeMap.{BTreeMap, is_at}
use Rattle.std.specs.Map.{lookup}
use Rattle.std.specs.Coded.{Coded, coded_ℕ, coded×, code_by}
use Rattle.std.specs.Ordering.{nat_cmp, ordering_then}
use Rattle.std.specs.declared.cmp.Ordering.{Ordering}
use Rattle.std.specs.FinSet as set
use Rattle.worker_state.specs.declared.slot.WorkerName.{WorkerName}

-- by slot, and then by generation
abbrev pub worker_cmp : WorkerName → WorkerName → Ordering
worker_cmp a b = ordering_then (nat_cmp a.slot b.slot) (nat_cmp a.generation b.generation)

-- the same of pairs
abbrev pub pair_cmp : ℕ × ℕ → ℕ × ℕ → Ordering
pair_cmp a b = ordering_then (nat_cmp a.0 b.0) (nat_cmp a.1 b.1)

-- a worker as a pair of numbers, and back
abbrev pub key_of : WorkerName → ℕ × ℕ
key_of worker = (worker.slot, worker.generation)

abbrev pub worker_at : ℕ × ℕ → WorkerName
worker_at key = record { slot = key.0; generation = key.1 }

abbrev pub coded_worker : Coded WorkerName
coded_worker = code_by (ℕ × ℕ) (coded× coded_ℕ coded_ℕ) key_of worker_at (λ _. refl)

-- the workers under these keys
abbrev pub workers_at : List (ℕ × ℕ) → set.FinSet worker_cmp
workers_at keys = set.from_list (map worker_at keys)

-- each pass lies under its own worker
abbrev pub IsByWorker : BTreeMap (ℕ × ℕ) WorkerName → Type 0
IsByWorker passes = (key : ℕ × ℕ) → IfSome (lookup (is_at (pair_cmp key)) passes.entries) (λ pass. pass ≡ worker_at key)
