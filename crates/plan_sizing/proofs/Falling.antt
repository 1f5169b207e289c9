-- Numbers do not fall where none is above the next.
use Rattle.std.proofs.Common.{◌≡◌, ℕ, zero, suc, ◌+◌, ◌-◌, ◌<◌, ◌≤◌, leb, Bool, true, false, List, length, get_or, refl, sym, ap, ◌∙◌, arith}
use Rattle.std.specs.Prelude.{◌↔◌, IsTrue}
use Rattle.std.specs.List.{IsAllAdjacentAnswer}
use Rattle.std.specs.List.Sorted.{IsNonDecreasing}
use Rattle.std.proofs.lemmas.Bool.{false≢true, leb-true, le-leb}

up : (xs : List ℕ) → ((k d : ℕ) → k + 1 < length xs → get_or xs k d ≤ get_or xs (k + 1) d) → (i m d : ℕ) → i + m < length xs → get_or xs i d ≤ get_or xs (i + m) d
up xs step i zero d inside = (let same : get_or xs (i + 0) d ≡ get_or xs i d = ap (λ k. get_or xs k d) (omega arith) in omega (arith, same))
up xs step i (suc m) d inside =
    let next : get_or xs (i + suc m) d ≡ get_or xs (i + m + 1) d = ap (λ k. get_or xs k d) (omega arith) in
    omega (arith, next, up xs step i m d (omega (arith, inside)), step (i + m) d (omega (arith, inside)))

pub from_steps : (xs : List ℕ) → ((k d : ℕ) → k + 1 < length xs → get_or xs k d ≤ get_or xs (k + 1) d) → IsNonDecreasing xs
from_steps xs step i j d low inside =
    let there : get_or xs (i + (j - i)) d ≡ get_or xs j d = ap (λ k. get_or xs k d) (omega (arith, low)) in
    omega (arith, there, up xs step i (j - i) d (omega (arith, low, inside)))

pub fall_never : (xs : List ℕ) (r : Bool) → IsAllAdjacentAnswer (λ x y b. b ≡ leb x y) xs r → IsTrue r ↔ IsNonDecreasing xs
fall_never xs true answer = (λ _. from_steps xs (λ k d below. leb-true (get_or xs k d) (get_or xs (k + 1) d) (sym (answer k d below))), λ _. refl)
fall_never xs false answer = (λ e. absurd (false≢true e), λ rises. absurd (false≢true (answer.2 0 ∙ le-leb (get_or xs answer.0 0) (get_or xs (answer.0 + 1) 0) (rises answer.0 (answer.0 + 1) 0 (omega arith) answer.1))))
