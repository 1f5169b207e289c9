-- What one search changes.
use Rattle.std.specs.Prelude.{◌≡◌, ℕ, ◌+◌, ◌<◌, ◌⊎◌, List, length, slice_index, nat_eq, if◌then◌else◌}
use Rattle.augment.specs.declared.search.Tree.{Tree}
use Rattle.round_arena.specs.declared.tables.Pairs.{Pairs}
use Rattle.round_arena.specs.Plan.{count_on}
use Rattle.augment.specs.Tree.{IsTree, AreClosed}

-- 1 if the numbers are equal, else 0
abbrev pub one_if_equal : ℕ → ℕ → ℕ
one_if_equal a b = if nat_eq a b then 1 else 0

-- Function root has one worker more; he comes from the idle ones, or from a function that had more
-- workers than it needs.
pub record GainsOne (functions root : ℕ) (need before after : List ℕ) : Type 0 where
  pub size : length after ≡ length before
  pub source : ℕ
  pub spare : (source ≡ functions) ⊎ ((source < functions) × (slice_index need source < count_on before source))
  pub counts : (f : ℕ) → count_on after f + one_if_equal source f ≡ count_on before f + one_if_equal root f

-- The search from root found no spare worker, though root has fewer workers than it needs.
pub record IsStuck (pairs : Pairs) (owner count need : List ℕ) (tree : Tree) (root : ℕ) : Type 0 where
  pub tree_holds : IsTree pairs owner count need tree
  pub some : 0 < tree.tail
  pub first : slice_index tree.reached.now 0 ≡ root
  pub closed : AreClosed pairs tree tree.tail
  pub lacking : slice_index count root < slice_index need root
