-- Slots and standings, one of them written.
use Rattle.std.proofs.Common.{◌≡◌, ◌≢◌, ℕ, ◌+◌, ◌-◌, ◌<◌, ◌≤◌, zero, suc, Bool, true, false, cond, List, [], ◌∷◌, ◌++◌, length, get_or, set, Option, None, Some, ◌⊎◌, inl, inr, refl, sym, ap, ◌∙◌, arith}
use Rattle.std.specs.Prelude.{slice_get, replicate, ◌==◌}
use Rattle.std.proofs.lemmas.Option.{slice_get_within, get_or_from_slice_get}
use Rattle.std.proofs.lemmas.List.{get_or-set_other}
use Rattle.std.proofs.lemmas.Grind.{get_or-set_at}
use Rattle.std.proofs.lemmas.Bool.{eqb-true, false≢true}
use Rattle.std.proofs.lemmas.Bool.Decides.{nat_tests}
use Rattle.worker_state.specs.declared.slot.Slot.{Slot}
use Rattle.worker_state.specs.declared.slot.Slot.TheVariants.{Empty, Live}
use Rattle.worker_state.specs.declared.job.Standing.{Standing}
use Rattle.worker_state.specs.Slots.{has_generation, is_live, held_ticket}
use Rattle.pool_core.specs.Machine.{has_open, standing_in}
use Rattle.pool_core.specs.Kept.{OpensAt}

-- what holds of an element and of the one written holds of it afterwards
pub at_set : {X : Type 0} (Q : X → Type 0) (xs : List X) (i : ℕ) (y d : X) (j : ℕ) → Q (get_or xs j d) → Q y → Q (get_or (set xs i y) j d)
at_set Q [] i y d j h q = h
at_set Q (x ∷ xs) zero y d zero h q = q
at_set Q (x ∷ xs) zero y d (suc j) h q = h
at_set Q (x ∷ xs) (suc i) y d zero h q = h
at_set Q (x ∷ xs) (suc i) y d (suc j) h q = at_set Q xs i y d j h q

-- a live slot is there
pub live_within : (slots : List Slot) (i : ℕ) → is_live (get_or slots i (Empty 0)) ≡ true → i < length slots
live_within [] i h = absurd (false≢true h)
live_within (x ∷ xs) zero h = omega arith
live_within (x ∷ xs) (suc i) h = omega (arith, live_within xs i h)

pub live_has : (x : Slot) (g : ℕ) → has_generation x g ≡ true → is_live x ≡ true
live_has (Empty last) g h = h
live_has (Live own runs ticket) g h = refl

-- a slot that was written without a ticket has none; what is open elsewhere was open
pub opens_elsewhere : (slots : List Slot) (i : ℕ) (x : Slot) (s : ℕ) (k : ℕ) → i < length slots → held_ticket x ≡ None → OpensAt (set slots i x) s k → (s ≢ i) × OpensAt slots s k
opens_elsewhere [] i x s k within none h = absurd (omega arith)
opens_elsewhere (y ∷ ys) zero x zero k within none h = absurd (cc)
opens_elsewhere (y ∷ ys) zero x (suc s) k within none h = (λ e. omega arith, h)
opens_elsewhere (y ∷ ys) (suc i) x zero k within none h = (λ e. omega arith, h)
opens_elsewhere (y ∷ ys) (suc i) x (suc s) k within none h =
    let t = opens_elsewhere ys i x s k (omega arith) none h in (λ e. t.0 (omega arith), t.1)

-- after a write with a ticket: that one is open there, and the others where they were
pub opens_here : (slots : List Slot) (i : ℕ) (x : Slot) (s : ℕ) (k : ℕ) → OpensAt (set slots i x) s k → ((s ≡ i) × (held_ticket x ≡ Some k)) ⊎ ((s ≢ i) × OpensAt slots s k)
opens_here [] i x s k h = absurd (cc)
opens_here (y ∷ ys) zero x zero k h = inl (refl, h)
opens_here (y ∷ ys) zero x (suc s) k h = inr (λ e. omega arith, h)
opens_here (y ∷ ys) (suc i) x zero k h = inr (λ e. omega arith, h)
opens_here (y ∷ ys) (suc i) x (suc s) k h =
    elim (opens_here ys i x s k h) [ inl t ↦ inl (ap suc t.0, t.1) | inr t ↦ inr (λ e. t.0 (omega arith), t.1) ]

given_by_test : (standings : List Standing) (n : ℕ) (x d : Standing) (b : Bool) → (n == 0) ≡ b → cond b None (slice_get standings (n - 1)) ≡ Some x → (0 < n) × (n ≤ length standings) × (get_or standings (n - 1) d ≡ x)
given_by_test standings n x d true e h = absurd (cc)
given_by_test standings n x d false e h =
    let pos : 0 < n = grind (arith, nat_tests) in
    let within = slice_get_within standings (n - 1) x h in
    (pos, omega (arith, within), get_or_from_slice_get standings (n - 1) x d h)

-- a ticket that has a standing was given
pub standing_given : (standings : List Standing) (k : ℕ) (x d : Standing) → standing_in standings k ≡ Some x → (0 < k) × (k ≤ length standings) × (get_or standings (k - 1) d ≡ x)
standing_given standings k x d h = given_by_test standings k x d (k == 0) refl h

-- the ticket that is open
pub open_is : (o : Option ℕ) (k : ℕ) → has_open o k ≡ true → o ≡ Some k
open_is None k h = absurd (false≢true h)
open_is (Some own) k h = ap (λ (n : ℕ). let o : Option ℕ = Some n in o) (eqb-true own k h)

-- what is open in a slot stays so where another one is written
pub opens_still : (slots : List Slot) (i : ℕ) (x : Slot) (s : ℕ) (k : ℕ) → s ≢ i → OpensAt slots s k → OpensAt (set slots i x) s k
opens_still slots i x s k other o = ap held_ticket (get_or-set_other slots i s x (Empty 0) other) ∙ o

-- what was written in a slot that is there is open
pub opens_written : (slots : List Slot) (i : ℕ) (x : Slot) (k : ℕ) → i < length slots → held_ticket x ≡ Some k → OpensAt (set slots i x) i k
opens_written slots i x k within is = ap held_ticket (get_or-set_at slots i i x (Empty 0) refl within) ∙ is

-- an empty slot has no open ticket
pub empty_none : (x : Slot) → is_live x ≡ false → held_ticket x ≡ None
empty_none (Empty last) h = refl
empty_none (Live generation runs ticket) h = absurd (false≢true (sym h))

-- a slot without an open ticket is another than one that has one
pub holds_none : (slots : List Slot) (i s k : ℕ) → held_ticket (get_or slots i (Empty 0)) ≡ None → OpensAt slots s k → s ≢ i
holds_none slots i s k none o e = let f = sym (ap (λ (n : ℕ). held_ticket (get_or slots n (Empty 0))) e ∙ none) ∙ o in absurd (cc)

-- the two tickets that are open in one slot are one
pub holds_one : (slots : List Slot) (s j k : ℕ) → OpensAt slots s j → OpensAt slots s k → j ≡ k
holds_one slots s j k o q = let e = sym o ∙ q in cc

-- one more copy
pub copies_more : {X : Type 0} (n : ℕ) (x : X) → replicate n x ++ x ∷ [] ≡ replicate (n + 1) x
copies_more zero x = refl
copies_more (suc n) x = ap (λ (xs : List _). x ∷ xs) (copies_more n x) ∙ ap (λ (k : ℕ). replicate k x) (let e : suc (n + 1) ≡ suc n + 1 = omega arith in e)
