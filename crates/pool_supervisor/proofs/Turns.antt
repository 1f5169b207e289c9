-- Slots that have their turns.
use Rattle.std.proofs.Common.{◌≡◌, ◌<◌, ◌+◌, ℕ, List, [], ◌∷◌, ◌++◌, length, length-append, Option, inl, inr, arith}
use Rattle.std.specs.Prelude.{◌≢◌}
use Rattle.std.specs.List.{AllPairs}
use Rattle.std.proofs.Math.Logic.{∥∥₁_elim, ∥∥₁_prop}
use Rattle.std.proofs.Props.{props}
use Rattle.std.proofs.lemmas.List.Elements.{All-head}
use Rattle.pool_settings.specs.Settings.{Settings}
use Rattle.pool_settings.specs.Slots.{slots}
use Rattle.slot_turns.specs.Law.{AsManyCome, EachIsASlot, EachComesAgain, NoneComesTwice, OneMoreComes}
use Rattle.slot_turns.specs.Turns.{HaveCome, IsEachSlotOnce}
use Rattle.pool_supervisor.specs.Dials.{DialCall}
use Rattle.pool_supervisor.specs.Tries.{FillsThese, LooksNext, Rule}
use Rattle.pool_supervisor.proofs.Tries.{these_more}

-- the slot that comes next is one of the pool
pub turn_within : (settings : Settings) (slot : ℕ) (before now : List ℕ) → EachIsASlot settings → ∥ IsEachSlotOnce settings before ∥₁ → HaveCome (slot ∷ []) before now → slot < slots settings
turn_within settings slot before now law once comes =
    ∥∥₁_elim once (Prim.hlevel props) (λ each. All-head (λ (s : ℕ). s < slots settings) slot [] (law (slot ∷ []) before now comes each))

-- each slot has its turn again
pub turns_again : (settings : Settings) (came before now : List ℕ) → EachComesAgain settings → ∥ IsEachSlotOnce settings before ∥₁ → HaveCome came before now → ∥ IsEachSlotOnce settings now ∥₁
turns_again settings came before now law once comes = ∥∥₁_elim once ∥∥₁_prop (λ each. ∣ law came before now comes each ∣₁)

-- none has come twice
pub turns_apart : (settings : Settings) (came before now : List ℕ) → NoneComesTwice settings → ∥ IsEachSlotOnce settings before ∥₁ → HaveCome came before now
    → AllPairs (λ one other. one ≢ other) came
turns_apart settings came before now law once comes = ∥∥₁_elim once (Prim.hlevel props) (λ each. law came before now comes each)

-- one more turn, if fewer slots have come than there are
pub next_turn : (settings : Settings) (allows : Rule) (came first between now : List ℕ) (turn : ℕ) (before mid after : Option (List DialCall)) → OneMoreComes → AsManyCome
    → HaveCome came first between → length came ≡ turn → turn < length first → FillsThese settings allows came before mid → LooksNext settings allows between now mid after
    → (more : List ℕ) × HaveCome more first now × (length more ≡ turn + 1) × FillsThese settings allows more before after
next_turn settings allows came first between now turn before mid after one_more as_many have count few fills (inl none) =
    absurd (omega (arith, none.0, as_many came first between have, few))
next_turn settings allows came first between now turn before mid after one_more as_many have count few fills (inr next) = (
  came ++ next.0 ∷ [],
  one_more came first between now next.0 have next.1 (omega (arith, count, few)),
  omega (arith, length-append came (next.0 ∷ []), count),
  these_more settings allows came next.0 before mid after fills next.2 next.3,
)
