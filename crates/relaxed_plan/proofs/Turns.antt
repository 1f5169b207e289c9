-- One more set that is short in turn.
use Rattle.std.proofs.Common.{◌≡◌, ℕ, List, [], ◌∷◌, ◌++◌, length, append-nil, sym, ap, ◌∙◌, subst}
use Rattle.std.specs.List.{concat}
use Rattle.std.proofs.lemmas.List.Folds.{concat-append}
use Rattle.plan_model.specs.InputRefusals.{rising_of}
use Rattle.plan_model.specs.Planning.{Instance, IsShort, top_level}
use Rattle.relaxed_plan.specs.Relaxed.{AreShortInTurn, LetsOff, let_off_of}
use Rattle.relaxed_plan.proofs.Left.{let_off-none, let_off-rising, let_off-twice, rising-again}

in_turn-more : (i : Instance) (sets : List (List ℕ)) (set : List ℕ) → AreShortInTurn i sets → IsShort (let_off_of i (concat sets)) top_level set → AreShortInTurn i (sets ++ set ∷ [])
in_turn-more i [] set turn short = (subst (λ (j : Instance). IsShort j top_level set) (let_off-none i) short, tt)
in_turn-more i (first ∷ sets) set turn short =
    (turn.0, in_turn-more (let_off_of i first) sets set turn.1 (subst (λ (j : Instance). IsShort j top_level set) (sym (let_off-twice i first (concat sets))) short))

concat-more : (sets : List (List ℕ)) (set : List ℕ) → concat (sets ++ set ∷ []) ≡ concat sets ++ set
concat-more sets set = concat-append sets (set ∷ []) ∙ ap (λ t. concat sets ++ t) (append-nil set)

-- a set that is short if these functions are let off is short in turn after those that they are from
pub in_turn-after : (i : Instance) (short : List ℕ) (later : List (List ℕ)) (these set : List ℕ) → LetsOff i short later these → IsShort (let_off_of i these) top_level set → AreShortInTurn i (short ∷ (later ++ set ∷ []))
in_turn-after i short later these set off lacks =
    in_turn-more i (short ∷ later) set off.in_turn (subst (λ (j : Instance). IsShort j top_level set) (ap (let_off_of i) off.all ∙ let_off-rising i (concat (short ∷ later))) lacks)

pub LetsOff-more : (i : Instance) (short : List ℕ) (later : List (List ℕ)) (these set both : List ℕ) → LetsOff i short later these → IsShort (let_off_of i these) top_level set → both ≡ rising_of (length i.least) (these ++ set) → LetsOff i short (later ++ set ∷ []) both
LetsOff-more i short later these set both off lacks joined = record {
  in_turn = in_turn-after i short later these set off lacks;
  all = joined ∙ ap (λ (t : List ℕ). rising_of (length i.least) (t ++ set)) off.all ∙ rising-again (length i.least) (concat (short ∷ later)) set
      ∙ ap (rising_of (length i.least)) (sym (concat-more (short ∷ later) set));
}
