-- The order of slots, and the slots that have come.
use Rattle.std.specs.Prelude.{◌≡◌, ◌<◌, ◌⊎◌, ◌++◌, ℕ, List}
use Rattle.std.specs.List.{AllPairs, range_with_len}
use Rattle.std.specs.List.Sorted.{IsPermutation}
use Rattle.pool_settings.specs.Settings.{Settings}
use Rattle.pool_settings.specs.Slots.{machine_of, slots, worker_number}

-- A slot comes before another if its worker has a lower number in its machine. Of equal numbers the one of the lower machine comes first.
abbrev pub ComesBefore : Settings → ℕ → ℕ → Type 0
ComesBefore settings slot other =
    (worker_number settings slot < worker_number settings other)
    ⊎ ((worker_number settings slot ≡ worker_number settings other) × (machine_of settings slot < machine_of settings other))

-- each slot comes before all that stand behind it
abbrev pub AreInTurn : Settings → List ℕ → Type 0
AreInTurn settings coming = AllPairs (ComesBefore settings) coming

-- the slots of these settings, each once, in any order
abbrev pub IsEachSlotOnce : Settings → List ℕ → Type 0
IsEachSlotOnce settings coming = IsPermutation (range_with_len 0 (slots settings)) coming

-- These slots have come: they stood before all others, and now stand behind them.
pub record HaveCome (came before now : List ℕ) : Type 0 where
  pub others : List ℕ
  pub first : before ≡ came ++ others
  pub last : now ≡ others ++ came
