-- The tables of a round.
use Rattle.std.specs.Prelude.{◌≡◌, ℕ, ◌<◌, ◌^◌, Bool, List, Option, None, Some, map, length, slice_index, nat_lt, if◌then◌else◌}
use Rattle.std.specs.List.{range_with_len}
use Rattle.std.specs.List.Sorted.{IsStrictlyIncreasing, IsPermutation}
use Rattle.round_arena.specs.declared.tables.Tables.{Tables}
use Rattle.round_arena.specs.Plan.{IsGraph, IsAssigned, IsCounted, AreWithin, Represents}

-- The tables fit together, for that many functions.
pub record IsConsistent (functions : ℕ) (t : Tables) : Type 0 where
  pub few : functions < 2 ^ 32
  pub graph : IsGraph functions (length t.owner.now) t.pairs
  pub assigned : IsAssigned functions t.pairs t.owner.now
  pub counted : IsCounted functions t.owner.now t.count.now
  pub limits : length t.most.now ≡ functions
  pub within : AreWithin functions t.most.now t.owner.now
  pub staff : length t.machine.now ≡ length t.owner.now
  pub slots : length t.slot.now ≡ length t.owner.now
  pub rising : IsStrictlyIncreasing t.slot.now
  pub order : IsPermutation (range_with_len 0 functions) t.order.now

-- The tables hold the permitted pairs and no others; `permits` says which machine may do which function.
abbrev pub Holds : (ℕ → ℕ → Bool) → ℕ → Tables → Type 0
Holds permits functions t = Represents permits t.machine.now t.pairs functions

-- The permissions, greatest numbers, machines, slots and the order of the functions stay.
pub record SamePairs (old new : Tables) : Type 0 where
  pub pairs : new.pairs ≡ old.pairs
  pub most : new.most ≡ old.most
  pub machine : new.machine ≡ old.machine
  pub slot : new.slot ≡ old.slot
  pub order : new.order ≡ old.order
  pub staff : length new.owner.now ≡ length old.owner.now

-- The function that a number of the tables means: none if the worker is idle.
abbrev pub function_at : ℕ → ℕ → Option ℕ
function_at functions f = if nat_lt f functions then Some f else None

-- Each worker by its slot, with its function.
abbrev pub plan_entries : ℕ → List ℕ → List ℕ → List (ℕ × Option ℕ)
plan_entries functions slots owner =
    map (λ w. (slice_index slots w, function_at functions (slice_index owner w))) (range_with_len 0 (length slots))

-- The plan that the tables hold: it lists each worker.
abbrev pub plan_of : Tables → List (ℕ × Option ℕ)
plan_of t = plan_entries (length t.order.now) t.slot.now t.owner.now
