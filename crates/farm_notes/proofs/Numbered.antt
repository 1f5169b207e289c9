-- What is written of each number from k on.
use Rattle.std.proofs.Common.{◌≡◌, ◌∙◌, ℕ, ◌+◌, ◌-◌, ◌<◌, List, ◌++◌, ap, append_assoc, refl, suc, sym, arith}
use Rattle.std.specs.List.{flat_map, range_with_len}

from_next : (n k : ℕ) → k < n → n - k ≡ suc (n - (k + 1))
from_next n k below = omega arith

lines_more : {A : Type 0} (line : ℕ → List A) (n k : ℕ) → k < n
    → flat_map line (range_with_len k (n - k)) ≡ line k ++ flat_map line (range_with_len (k + 1) (n - (k + 1)))
lines_more line n k below = rw (from_next n k below) refl

-- the line of number k is written, and those from the next on are left
pub one_written : {A : Type 0} (line : ℕ → List A) (n k : ℕ) (out new total : List A) → k < n → new ≡ out ++ line k
    → out ++ flat_map line (range_with_len k (n - k)) ≡ total
    → new ++ flat_map line (range_with_len (k + 1) (n - (k + 1))) ≡ total
one_written line n k out new total below wrote left =
    let rest = flat_map line (range_with_len (k + 1) (n - (k + 1))) in
    ap (λ t. t ++ rest) wrote ∙ append_assoc out (line k) rest ∙ ap (λ t. out ++ t) (sym (lines_more line n k below)) ∙ left
