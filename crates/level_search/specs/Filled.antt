-- The filling of idle workers.
use Rattle.std.specs.Prelude.{◌≡◌, ℕ, ◌+◌, ◌<◌, ◌≤◌, ◌⊎◌, List, length, slice_index}
use Rattle.round_arena.specs.declared.tables.Tables.{Tables}
use Rattle.round_arena.specs.declared.tables.Pairs.{Pairs}
use Rattle.round_arena.specs.Plan.{IsPair, IsAssigned, IsCounted, AreWithin, count_on}

-- Whoever had a function keeps it, so no function loses a worker. Only functions below their greatest number get one.
pub record IsFilled (functions : ℕ) (pairs : Pairs) (most before after count : List ℕ) : Type 0 where
  pub size : length after ≡ length before
  pub assigned : IsAssigned functions pairs after
  pub counted : IsCounted functions after count
  pub kept : (w : ℕ) → slice_index before w < functions → slice_index after w ≡ slice_index before w
  pub grows : (f : ℕ) → f < functions → count_on before f ≤ count_on after f
  pub within : AreWithin functions most after
  pub room :
      (w : ℕ) → w < length before → functions ≤ slice_index before w → slice_index after w < functions
      → count_on before (slice_index after w) < slice_index most (slice_index after w)

-- The workers of machine m, up to place `end` of the list of workers, have a function, or f is at its greatest number.
abbrev pub AreBusyUpTo : Pairs → List ℕ → List ℕ → ℕ → ℕ → ℕ → ℕ → Type 0
AreBusyUpTo pairs most owner functions f m end =
    (k : ℕ) → slice_index pairs.workers.first.now m ≤ k → k < end
    → (slice_index owner (slice_index pairs.workers.items.now k) < functions) ⊎ (slice_index most f ≤ count_on owner f)

-- The workers of machine m have a function, or f is at its greatest number.
abbrev pub AreBusy : Pairs → List ℕ → List ℕ → ℕ → ℕ → ℕ → Type 0
AreBusy pairs most owner functions f m = AreBusyUpTo pairs most owner functions f m (slice_index pairs.workers.first.now (m + 1))

-- The workers of the machines of f, up to place `end` of the list of machines, have a function, or f is at its greatest number.
abbrev pub IsBusyUpTo : Pairs → List ℕ → List ℕ → ℕ → ℕ → ℕ → Type 0
IsBusyUpTo pairs most owner functions f end =
    (k : ℕ) → slice_index pairs.machines.first.now f ≤ k → k < end
    → AreBusy pairs most owner functions f (slice_index pairs.machines.items.now k)

-- Whoever is idle may do only functions that are at their greatest number.
abbrev pub IsFull : ℕ → Tables → Type 0
IsFull functions t =
    (w f : ℕ) → f < functions → IsPair t.pairs w f
    → (slice_index t.owner.now w < functions) ⊎ (slice_index t.most.now f ≤ count_on t.owner.now f)

-- Idle workers of the old tables were put on functions with room for them, and nobody else moved.
abbrev pub HasFilled : ℕ → Tables → Tables → Type 0
HasFilled functions old new = IsFilled functions old.pairs old.most.now old.owner.now new.owner.now new.count.now
