-- The tree of functions that a search has reached.
use Rattle.std.specs.Prelude.{◌≡◌, ◌≢◌, ℕ, ◌+◌, ◌-◌, ◌<◌, ◌≤◌, ◌⊎◌, List, length, slice_index, slice_index_or, slice_set, true, false}
use Rattle.augment.specs.declared.search.Tree.{Tree}
use Rattle.round_arena.specs.declared.tables.Pairs.{Pairs}
use Rattle.round_arena.specs.Plan.{IsPair, machine_count}

-- One place per function in each list, and one mark per machine.
pub record HasRoom (functions machines : ℕ) (tree : Tree) : Type 0 where
  pub reached : length tree.reached.now ≡ functions
  pub by : length tree.by.now ≡ functions
  pub from : length tree.from.now ≡ functions
  pub place : length tree.place.now ≡ functions
  pub passed : length tree.passed.now ≡ machines

-- Each worker of machine m, up to place k of the list of workers, is on a function that was reached.
abbrev pub IsPassedUpTo : Pairs → List ℕ → ℕ → Tree → ℕ → ℕ → Type 0
IsPassedUpTo pairs owner functions tree m end =
    (k : ℕ) → slice_index pairs.workers.first.now m ≤ k → k < end
    → (slice_index owner (slice_index pairs.workers.items.now k) < functions)
    × (0 < slice_index tree.place.now (slice_index owner (slice_index pairs.workers.items.now k)))

-- Each worker of machine m is on a function that was reached.
abbrev pub IsPassed : Pairs → List ℕ → ℕ → Tree → ℕ → Type 0
IsPassed pairs owner functions tree m = IsPassedUpTo pairs owner functions tree m (slice_index pairs.workers.first.now (m + 1))

-- Each function reached but the first was reached by a worker on it, who may do a function reached
-- earlier. None has more workers than it needs. Each worker of a machine that is marked as passed is on a function that was reached.
pub record IsTree (pairs : Pairs) (owner count need : List ℕ) (tree : Tree) : Type 0 where
  pub room : HasRoom (length need) (machine_count pairs) tree
  pub known : (i : ℕ) → i < tree.tail → slice_index tree.reached.now i < length need
  pub placed : (i : ℕ) → i < tree.tail → slice_index tree.place.now (slice_index tree.reached.now i) ≡ i + 1
  pub marked :
      (f : ℕ) → f < length need → 0 < slice_index tree.place.now f
      → (slice_index tree.place.now f ≤ tree.tail) × (slice_index tree.reached.now (slice_index tree.place.now f - 1) ≡ f)
  pub employed : (i : ℕ) → 0 < i → i < tree.tail → slice_index tree.by.now i < length owner
  pub holds : (i : ℕ) → 0 < i → i < tree.tail → slice_index owner (slice_index tree.by.now i) ≡ slice_index tree.reached.now i
  pub earlier : (i : ℕ) → 0 < i → i < tree.tail → slice_index tree.from.now i < i
  pub permitted :
      (i : ℕ) → 0 < i → i < tree.tail
      → IsPair pairs (slice_index tree.by.now i) (slice_index tree.reached.now (slice_index tree.from.now i))
  pub tight :
      (i : ℕ) → i < tree.tail
      → slice_index count (slice_index tree.reached.now i) ≤ slice_index need (slice_index tree.reached.now i)
  pub passed : (m : ℕ) → slice_index_or tree.passed.now m false ≡ true → IsPassed pairs owner (length need) tree m

-- The tree gains function g, reached by worker w from the function at that place.
pub record Reaches (old new : Tree) (g w head : ℕ) : Type 0 where
  pub reached : new.reached.now ≡ slice_set old.reached.now old.tail g
  pub by : new.by.now ≡ slice_set old.by.now old.tail w
  pub from : new.from.now ≡ slice_set old.from.now old.tail head
  pub place : new.place.now ≡ slice_set old.place.now g (old.tail + 1)
  pub tail : new.tail ≡ old.tail + 1
  pub passed : new.passed.now ≡ old.passed.now

-- Machine m is marked as passed, and nothing else changes.
pub record Passes (old new : Tree) (m : ℕ) : Type 0 where
  pub reached : new.reached.now ≡ old.reached.now
  pub by : new.by.now ≡ old.by.now
  pub from : new.from.now ≡ old.from.now
  pub place : new.place.now ≡ old.place.now
  pub tail : new.tail ≡ old.tail
  pub passed : new.passed.now ≡ slice_set old.passed.now m true

-- What was reached stays reached, in its place, and what was passed stays so.
pub record Extends (old new : Tree) : Type 0 where
  pub tail : old.tail ≤ new.tail
  pub reached : (i : ℕ) → i < old.tail → slice_index new.reached.now i ≡ slice_index old.reached.now i
  pub marks : (f : ℕ) → 0 < slice_index old.place.now f → 0 < slice_index new.place.now f
  pub passed : (m : ℕ) → slice_index_or old.passed.now m false ≡ true → slice_index_or new.passed.now m false ≡ true

-- Each machine that may do f, up to place k of the list of machines, was passed.
abbrev pub IsClosedUpTo : Pairs → Tree → ℕ → ℕ → Type 0
IsClosedUpTo pairs tree f end =
    (k : ℕ) → slice_index pairs.machines.first.now f ≤ k → k < end
    → slice_index_or tree.passed.now (slice_index pairs.machines.items.now k) false ≡ true

-- Each machine that may do f was passed.
abbrev pub IsClosed : Pairs → Tree → ℕ → Type 0
IsClosed pairs tree f = IsClosedUpTo pairs tree f (slice_index pairs.machines.first.now (f + 1))

-- The worker is idle, or on a function that was not reached and has more workers than it needs.
abbrev pub IsSpare : List ℕ → List ℕ → List ℕ → Tree → ℕ → Type 0
IsSpare owner count need tree w =
    (slice_index owner w ≡ length need)
    ⊎ ((slice_index owner w < length need)
    × (slice_index tree.place.now (slice_index owner w) ≡ 0)
    × (slice_index need (slice_index owner w) < slice_index count (slice_index owner w)))

-- A spare worker who may do the function at that place of the tree.
pub record IsWayOut (pairs : Pairs) (owner count need : List ℕ) (tree : Tree) (w head : ℕ) : Type 0 where
  pub place : head < tree.tail
  pub employed : w < length owner
  pub permitted : IsPair pairs w (slice_index tree.reached.now head)
  pub spare : IsSpare owner count need tree w

-- The tree is function root alone, and no machine was passed.
pub record StartsAt (old new : Tree) (root : ℕ) : Type 0 where
  pub reached : new.reached.now ≡ slice_set old.reached.now 0 root
  pub by : new.by.now ≡ old.by.now
  pub from : new.from.now ≡ old.from.now
  pub size : length new.place.now ≡ length old.place.now
  pub mark : slice_index new.place.now root ≡ 1
  pub others : (f : ℕ) → f ≢ root → slice_index new.place.now f ≡ 0
  pub tail : new.tail ≡ 1
  pub many : length new.passed.now ≡ length old.passed.now
  pub none : (m : ℕ) → slice_index_or new.passed.now m false ≡ false

-- Each machine that may do one of the first n functions reached was passed.
abbrev pub AreClosed : Pairs → Tree → ℕ → Type 0
AreClosed pairs tree n = (i : ℕ) → i < n → IsClosed pairs tree (slice_index tree.reached.now i)
