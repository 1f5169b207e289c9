-- What is left of a problem if functions that are short of workers are let off: their least numbers are 0 then.
use Rattle.std.specs.Prelude.{◌≡◌, ℕ, ◌≤◌, ◌==◌, Bool, if◌then◌else◌, List, [], ◌∷◌, length, map, slice_index}
use Rattle.std.specs.List.{concat, list_any}
use Rattle.plan_model.specs.InputRefusals.{rising_of}
use Rattle.plan_model.specs.Planning.{Instance, IsShort, functions, top_level}
use Rattle.plan_model.specs.declared.answer.Answer.{Answer}
use Rattle.plan_model.specs.declared.answer.Answer.TheVariants.{Planned, NoPlan}

-- The function is one of the set.
abbrev pub is_among : List ℕ → ℕ → Bool
is_among set f = list_any (λ g. g == f) set

-- The least number of a function, which is 0 if it is let off.
abbrev pub least_left : List ℕ → List ℕ → ℕ → ℕ
least_left least set f = if is_among set f then 0 else slice_index least f

-- The same problem, but the least numbers of these functions are 0.
abbrev pub let_off_of : Instance → List ℕ → Instance
let_off_of i set =
    record { live = i.live; may = i.may; least = map (least_left i.least set) (functions i); most = i.most; waiting = i.waiting }

-- The first set is short of workers, and so is each later one once the functions of all sets before it are let off.
abbrev pub AreShortInTurn : Instance → List (List ℕ) → Type 0
AreShortInTurn i [] = Unit {0}
AreShortInTurn i (set ∷ later) = IsShort i top_level set × AreShortInTurn (let_off_of i set) later

-- These functions are those of a set and of some later ones, which are short in turn.
pub record LetsOff (i : Instance) (set : List ℕ) (later : List (List ℕ)) (these : List ℕ) : Type 0 where
  pub in_turn : AreShortInTurn i (set ∷ later)
  pub all : these ≡ rising_of (length i.least) (concat (set ∷ later))

-- These functions are let off: those of the set, and of at most 64 later ones that are short in turn.
abbrev pub AreLetOff : Instance → List ℕ → List ℕ → Type 0
AreLetOff i set these = (later : List (List ℕ)) × LetsOff i set later these × (length later ≤ 64)

-- After the set 64 more are short in turn, or more.
abbrev pub IsGivenUp : Instance → List ℕ → Type 0
IsGivenUp i set = (later : List (List ℕ)) × AreShortInTurn i (set ∷ later) × (64 ≤ length later)

-- The answer is a plan.
abbrev pub IsPlanned : Answer → Type 0
IsPlanned (Planned entries backlog short) = Unit {0}
IsPlanned (NoPlan set) = ⊥
