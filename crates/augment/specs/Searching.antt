-- What holds while a search is under way, and what it finds.
use Rattle.std.specs.Prelude.{◌≡◌, ℕ, ◌+◌, ◌<◌, ◌≤◌, Bool, List, length, slice_index}
use Rattle.augment.specs.declared.search.Tree.{Tree}
use Rattle.round_arena.specs.declared.tables.Pairs.{Pairs}
use Rattle.round_arena.specs.declared.tables.Tables.{Tables}
use Rattle.round_arena.specs.Plan.{IsAssigned, IsCounted, IsGraph, IsIn, IsPair, Represents, count_on, machine_count}
use Rattle.round_arena.specs.Planning.{LacksWorkers}
use Rattle.augment.specs.Tree.{HasRoom, IsTree, IsWayOut}

-- The tables can be searched for these needs: the pairs are a graph of their workers and functions, each worker is on a function or idle,
-- and there is a count for each function and one for the idle workers.
pub record IsSearchable (tables : Tables) (need : List ℕ) : Type 0 where
  pub graph : IsGraph (length need) (length tables.owner.now) tables.pairs
  pub owners : (w : ℕ) → w < length tables.owner.now → slice_index tables.owner.now w ≤ length need
  pub counts : length tables.count.now ≡ length need + 1

-- The tree is one of a search of these tables for these needs.
abbrev pub IsTreeOf : Tables → List ℕ → Tree → Type 0
IsTreeOf tables need tree = IsTree tables.pairs tables.owner.now tables.count.now need tree

-- A search is under way: its tree so far, and the place of the function that it looks at.
pub record IsSearching (tables : Tables) (need : List ℕ) (tree : Tree) (head : ℕ) : Type 0 where
  pub fits : IsSearchable tables need
  pub grown : IsTreeOf tables need tree
  pub place : head < tree.tail

-- The machine is there, and may do the function.
pub record MayDo (pairs : Pairs) (m f : ℕ) : Type 0 where
  pub listed : IsIn pairs.machines.first.now pairs.machines.items.now m f
  pub known : m < machine_count pairs

-- The worker is idle, and one of the machine.
pub record IsIdleOf (tables : Tables) (need : List ℕ) (m w : ℕ) : Type 0 where
  pub employed : w < length tables.owner.now
  pub listed : IsIn tables.pairs.workers.first.now tables.pairs.workers.items.now w m
  pub idle : slice_index tables.owner.now w ≡ length need

-- The worker is idle, and may do the function.
pub record IsIdleFor (tables : Tables) (need : List ℕ) (f w : ℕ) : Type 0 where
  pub employed : w < length tables.owner.now
  pub permitted : IsPair tables.pairs w f
  pub idle : slice_index tables.owner.now w ≡ length need

-- The function has fewer workers than it needs.
pub record IsLacking (tables : Tables) (need : List ℕ) (f : ℕ) : Type 0 where
  pub known : f < length need
  pub few : slice_index tables.count.now f < slice_index need f

-- The worker is a way out of the search at this place of the tree.
abbrev pub IsWayOutOf : Tables → List ℕ → Tree → ℕ → ℕ → Type 0
IsWayOutOf tables need tree w head = IsWayOut tables.pairs tables.owner.now tables.count.now need tree w head

-- Some looks were made, and no more than this.
pub record AddsLooks (most old new : ℕ) : Type 0 where
  pub at_most : new ≤ old + most
  pub more : old ≤ new

-- Each worker is idle or on a function that the pairs permit, the counts are those of the workers, and the tree has a place for each
-- function and a mark for each machine.
pub record IsStaffed (pairs : Pairs) (need owner count : List ℕ) (tree : Tree) : Type 0 where
  pub assigned : IsAssigned (length need) pairs owner
  pub counted : IsCounted (length need) owner count
  pub room : HasRoom (length need) (machine_count pairs) tree

-- Each function has what it needs.
abbrev pub HasNeeds : List ℕ → List ℕ → Type 0
HasNeeds need owner = (f : ℕ) → f < length need → slice_index need f ≤ count_on owner f

-- The set is short of workers, whatever permissions the pairs mean.
abbrev pub ShowsShort : Pairs → ℕ → List ℕ → List ℕ → Type 0
ShowsShort pairs staff need set =
    (permits : ℕ → ℕ → Bool) (machines : List ℕ) → length machines ≡ staff → Represents permits machines pairs (length need)
    → LacksWorkers permits machines (length need) (λ f. slice_index need f) set
