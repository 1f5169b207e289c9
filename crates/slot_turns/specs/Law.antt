-- What follows for slots that have come.
use Rattle.std.specs.Prelude.{◌≡◌, ◌≢◌, ◌<◌, ◌++◌, ◌∷◌, [], ℕ, List, All, length}
use Rattle.std.specs.List.{AllPairs}
use Rattle.pool_settings.specs.Settings.{Settings}
use Rattle.pool_settings.specs.Slots.{slots}
use Rattle.slot_turns.specs.Turns.{HaveCome, IsEachSlotOnce}

-- at first none has come
abbrev pub NoneHasCome : Type 0
NoneHasCome = (coming : List ℕ) → HaveCome [] coming coming

-- If the next one comes before all have come, these have come and it.
abbrev pub OneMoreComes : Type 0
OneMoreComes =
    (came before between now : List ℕ) (slot : ℕ) → HaveCome came before between → HaveCome (slot ∷ []) between now
    → length came < length before → HaveCome (came ++ slot ∷ []) before now

-- there are as many as before
abbrev pub AsManyCome : Type 0
AsManyCome = (came before now : List ℕ) → HaveCome came before now → length now ≡ length before

-- whatever comes is one of the slots
abbrev pub EachIsASlot : Settings → Type 0
EachIsASlot settings =
    (came before now : List ℕ) → HaveCome came before now → IsEachSlotOnce settings before → All (λ slot. slot < slots settings) came

-- the same slots come from then on
abbrev pub EachComesAgain : Settings → Type 0
EachComesAgain settings =
    (came before now : List ℕ) → HaveCome came before now → IsEachSlotOnce settings before → IsEachSlotOnce settings now

-- no slot has come twice
abbrev pub NoneComesTwice : Settings → Type 0
NoneComesTwice settings =
    (came before now : List ℕ) → HaveCome came before now → IsEachSlotOnce settings before → AllPairs (λ one other. one ≢ other) came

-- if as many have come as there are, each has come once
abbrev pub EachComesOnce : Settings → Type 0
EachComesOnce settings =
    (came before now : List ℕ) → HaveCome came before now → length came ≡ length before
    → IsEachSlotOnce settings before → IsEachSlotOnce settings came

-- Some have come and then others: together they are a beginning of all slots and all slots once more. So none was passed over.
abbrev pub NoneIsPassedOver : Type 0
NoneIsPassedOver =
    (first second before between now : List ℕ) → HaveCome first before between → HaveCome second between now
    → (rest : List ℕ) × (before ++ before ≡ first ++ second ++ rest)
