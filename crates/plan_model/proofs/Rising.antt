-- Numbers rise where each is found below the next.
use Rattle.std.proofs.Common.{◌≡◌, ℕ, ◌+◌, ◌<◌, ltb, Bool, true, false, List, [], ◌∷◌, map, length, get_or, refl, arith}
use Rattle.std.specs.Prelude.{◌↔◌, IsTrue}
use Rattle.std.specs.List.{IsAllAdjacentAnswer}
use Rattle.std.specs.List.Sorted.{IsStrictlyIncreasing}
use Rattle.std.proofs.lemmas.Bool.{false≢true}
use Rattle.std.proofs.lemmas.Bool.Decides.{nat_tests}
use Rattle.std.proofs.lemmas.List.{get_or-map, length-map}

below : (m n : ℕ) → true ≡ ltb m n → m < n
below m n e = grind (arith, nat_tests)

not_below : (m n : ℕ) → false ≡ ltb m n → m < n → ⊥
not_below m n e l = absurd (grind (arith, nat_tests))

module _ {X : Type 0} (number_of : X → ℕ) where
  -- the numbers at a place and the next, of a list that has an entry
  pair : (d : X) (xs : List X) (k : ℕ) → k + 1 < length xs
      → (get_or (map number_of xs) k 0 ≡ number_of (get_or xs k d)) × (get_or (map number_of xs) (k + 1) 0 ≡ number_of (get_or xs (k + 1) d))
  pair d xs k inside = (get_or-map number_of xs k d 0 (omega arith), get_or-map number_of xs (k + 1) d 0 inside)

  all_below : (xs : List X) → ((k : ℕ) (d : X) → k + 1 < length xs → true ≡ ltb (number_of (get_or xs k d)) (number_of (get_or xs (k + 1) d))) → IsStrictlyIncreasing (map number_of xs)
  all_below [] f k h = absurd (omega arith)
  all_below (x ∷ xs) f k h =
      let inside : k + 1 < length (x ∷ xs) = omega (arith, h, length-map (x ∷ xs) number_of) in
      let at = pair x (x ∷ xs) k inside in
      rw (at.0, at.1) (below _ _ (f k x inside))

  one_stays : (xs : List X) (k : ℕ) → k + 1 < length xs → ((d : X) → false ≡ ltb (number_of (get_or xs k d)) (number_of (get_or xs (k + 1) d))) → IsStrictlyIncreasing (map number_of xs) → ⊥
  one_stays [] k inside f rises = absurd (omega arith)
  one_stays (x ∷ xs) k inside f rises =
      let at = pair x (x ∷ xs) k inside in
      let step = rises k (omega (arith, inside, length-map (x ∷ xs) number_of)) in
      not_below _ _ (f x) (rw (at.0, at.1) at step)

  pub rise_exactly : (xs : List X) (r : Bool) → IsAllAdjacentAnswer (λ x y b. b ≡ ltb (number_of x) (number_of y)) xs r → IsTrue r ↔ IsStrictlyIncreasing (map number_of xs)
  rise_exactly xs true answer = (λ _. all_below xs answer, λ _. refl)
  rise_exactly xs false answer = (λ e. absurd (false≢true e), λ rises. absurd (one_stays xs answer.0 answer.1 answer.2 rises))
