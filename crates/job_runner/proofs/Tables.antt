-- Entries in order of their names: one that is named differs from all others, and is found by binary search.
use Rattle.std.proofs.Common.{◌≡◌, ℕ, zero, suc, ◌+◌, ◌<◌, Bool, true, false, true≢false, ◌||◌, List, [], ◌∷◌, Option, Some, None, Err, length, get_or, map, cond, refl, sym, ap, ◌∙◌, inl, inr, arith}
use Rattle.std.specs.Prelude.{slice_get, Contains}
use Rattle.std.specs.List.{find, AllByRecursion, IsDistinct, IsAllAdjacentAnswer}
use Rattle.std.specs.List.Sorted.{IsPermutation, IsSortedBy, IsBinarySearchResult}
use Rattle.std.specs.Ordering.{is_lt, ordering_reverse}
use Rattle.std.specs.declared.cmp.Ordering.{Ordering}
use Rattle.std.specs.declared.cmp.Ordering.TheVariants.{Equal, Greater, Less}
use Rattle.std.specs.Str.{bytes_eq}
use Rattle.std.proofs.Math.ListN as lists
use Rattle.std.proofs.lemmas.List.{get_or-map, length-map}
use Rattle.std.proofs.lemmas.Slice.Eq.{bytes_eq-Decides}
use Rattle.std.proofs.lemmas.Bool.{cases_lt}
use Rattle.std.proofs.lemmas.Cmp.{nat_list_cmp_total}
use Rattle.std.proofs.lemmas.Map.Keys.{Less-from_sorted, IsDistinct-from_apart, IsDistinct-IsPermutation, IsDistinct-head, IsDistinct-tail, IsDistinct-cons, apart_from_distinct, sorted_from_all_adjacent}
use Rattle.std.proofs.lemmas.List.Sorted.{searchable_from_sorted, IsPermutation-map, IsPermutation-sym, Contains-permutation}
use Rattle.std.proofs.lemmas.List.Sums.{position_or_len_is}
use Rattle.std.proofs.lemmas.List.Folds.{find_at}
use Rattle.std.proofs.lemmas.Option.{none-some}
use Rattle.pool_settings.proofs.Searches.{cmp, equal_names, greater_name, lesser_name}
use Rattle.job_runner.specs.Table.{is_named, is_named_twice, RiseByName}

both_ways : (s t : Bool) → (s ≡ true → t ≡ true) → (t ≡ true → s ≡ true) → s ≡ t
both_ways true t f g = sym (f refl)
both_ways false true f g = g refl
both_ways false false f g = refl

same_back : (a b : List ℕ) → bytes_eq a b ≡ bytes_eq b a
same_back a b = both_ways (bytes_eq a b) (bytes_eq b a) (λ e. (bytes_eq-Decides b a).1 (sym ((bytes_eq-Decides a b).0 e))) (λ e. (bytes_eq-Decides a b).1 (sym ((bytes_eq-Decides b a).0 e)))

or_parts : (a b : Bool) → (a || b) ≡ false → (a ≡ false) × (b ≡ false)
or_parts false b h = (refl, h)
or_parts true b h = absurd cc

true_not_false : (b : Bool) → b ≡ true → b ≡ false → ⊥
true_not_false b y n = true≢false (sym y ∙ n)

module _ {E : Type 0} (name_of : E → List ℕ) where
  abbrev Apart : List E → Type 0
  Apart xs = IsDistinct bytes_eq (map name_of xs)

  -- ---- twice named, and apart

  unnamed : (n : List ℕ) (xs : List E) → is_named name_of n xs ≡ false → AllByRecursion (λ y. bytes_eq n y ≡ false) (map name_of xs)
  unnamed n [] h = tt
  unnamed n (x ∷ xs) h =
      let p = or_parts (bytes_eq (name_of x) n) (is_named name_of n xs) h in
      (same_back n (name_of x) ∙ p.0, unnamed n xs p.1)

  unnamed_back : (n : List ℕ) (xs : List E) → AllByRecursion (λ y. bytes_eq n y ≡ false) (map name_of xs) → is_named name_of n xs ≡ false
  unnamed_back n [] h = refl
  unnamed_back n (x ∷ xs) h = rw (same_back (name_of x) n ∙ h.0, unnamed_back n xs h.1) refl

  none_apart : IsDistinct bytes_eq []
  unfolding IsDistinct
  none_apart = tt

  apart_from_once : (xs : List E) → is_named_twice name_of xs ≡ false → Apart xs
  apart_from_once [] h = none_apart
  apart_from_once (x ∷ xs) h =
      let p = or_parts (is_named name_of (name_of x) xs) (is_named_twice name_of xs) h in
      IsDistinct-cons bytes_eq (name_of x) (map name_of xs) (unnamed (name_of x) xs p.0) (apart_from_once xs p.1)

  pub once_from_apart : (xs : List E) → Apart xs → is_named_twice name_of xs ≡ false
  once_from_apart [] h = refl
  once_from_apart (x ∷ xs) h =
      rw (unnamed_back (name_of x) xs (IsDistinct-head bytes_eq (name_of x) (map name_of xs) h), once_from_apart xs (IsDistinct-tail bytes_eq (name_of x) (map name_of xs) h)) refl

  apart_moved : (xs ys : List E) → IsPermutation xs ys → Apart xs → Apart ys
  apart_moved xs ys moved = IsDistinct-IsPermutation bytes_eq same_back (map name_of xs) (map name_of ys) (IsPermutation-map name_of xs ys moved)

  -- a list and its permutation have a name twice alike
  pub twice_moved : (xs ys : List E) → IsPermutation xs ys → is_named_twice name_of xs ≡ is_named_twice name_of ys
  twice_moved xs ys moved =
      by (is_named_twice name_of xs) refl (is_named_twice name_of ys) refl
    where
      by : (s : Bool) → is_named_twice name_of xs ≡ s → (t : Bool) → is_named_twice name_of ys ≡ t → is_named_twice name_of xs ≡ is_named_twice name_of ys
      by true there true too = there ∙ sym too
      by true there false none = absurd (true_not_false (is_named_twice name_of xs) there (once_from_apart xs (apart_moved ys xs (IsPermutation-sym xs ys moved) (apart_from_once ys none))))
      by false none t any = none ∙ sym (once_from_apart ys (apart_moved xs ys moved (apart_from_once xs none)))

  -- ---- what is found by a name

  abbrev named : List ℕ → E → Bool
  named n x = bytes_eq (name_of x) n

  slice_get_at : (xs : List E) (i : ℕ) (d : E) → i < length xs → slice_get xs i ≡ Some (get_or xs i d)
  slice_get_at [] i d h = absurd (omega arith)
  slice_get_at (x ∷ xs) zero d h = refl
  slice_get_at (x ∷ xs) (suc i) d h = slice_get_at xs i d (omega arith)

  -- an entry is found by its name where no other has it
  pub found_apart : (xs : List E) (n : List ℕ) (k : ℕ) (d : E) → Apart xs → k < length xs → bytes_eq (name_of (get_or xs k d)) n ≡ true → find (named n) xs ≡ Some (get_or xs k d)
  found_apart xs n k d apart inside holds =
      find_at (named n) xs ∙ ap (slice_get xs) (position_or_len_is (named n) xs k d (omega arith) (λ j below. before j below (bytes_eq (name_of (get_or xs j d)) n) refl) (λ _. holds)) ∙ slice_get_at xs k d inside
    where
      differ : (j : ℕ) → j < k → bytes_eq (name_of (get_or xs j d)) (name_of (get_or xs k d)) ≡ false
      differ j below =
          let at_j : get_or (map name_of xs) j (name_of d) ≡ name_of (get_or xs j d) = lists.get_or-map name_of xs j d in
          let at_k : get_or (map name_of xs) k (name_of d) ≡ name_of (get_or xs k d) = lists.get_or-map name_of xs k d in
          let apart_there = apart_from_distinct bytes_eq (map name_of xs) j k (name_of d) apart below (omega (arith, length-map xs name_of)) in
          rw (at_j, at_k) at apart_there

      before : (j : ℕ) → j < k → (t : Bool) → bytes_eq (name_of (get_or xs j d)) n ≡ t → bytes_eq (name_of (get_or xs j d)) n ≡ false
      before j below false e = e
      before j below true e =
          absurd (true_not_false (bytes_eq (name_of (get_or xs j d)) (name_of (get_or xs k d)))
          ((bytes_eq-Decides (name_of (get_or xs j d)) (name_of (get_or xs k d))).1 ((bytes_eq-Decides (name_of (get_or xs j d)) n).0 e ∙ sym ((bytes_eq-Decides (name_of (get_or xs k d)) n).0 holds)))
          (differ j below))

  -- what is found stands in the list, and has the name
  found_holds : (n : List ℕ) (xs : List E) (e : E) → find (named n) xs ≡ Some e → Contains xs e × (bytes_eq (name_of e) n ≡ true)
  found_holds n [] e h = absurd cc
  found_holds n (x ∷ xs) e h = by (found_holds n xs e) (named n x) refl h
    where
      by : (find (named n) xs ≡ Some e → Contains xs e × (bytes_eq (name_of e) n ≡ true)) → (t : Bool) → named n x ≡ t → cond t (Some x) (find (named n) xs) ≡ Some e → Contains (x ∷ xs) e × (bytes_eq (name_of e) n ≡ true)
      by later true holds h =
          let same : x ≡ e = cc in
          ((zero, omega arith, same), ap (λ y. bytes_eq (name_of y) n) (sym same) ∙ holds)
      by later false fails h =
          let rest = later h in
          let inside = rest.0.1 in
          ((suc rest.0.0, omega arith, rest.0.2), rest.1)

  -- a list whose names differ and its permutation find the same
  pub found_moved : (xs ys : List E) (n : List ℕ) → IsPermutation xs ys → Apart ys → find (named n) ys ≡ find (named n) xs
  found_moved xs ys n moved apart = by (find (named n) xs) refl (find (named n) ys) refl
    where
      across : (us vs : List E) → IsPermutation us vs → Apart vs → (e : E) → find (named n) us ≡ Some e → find (named n) vs ≡ Some e
      across us vs m a e h =
          let there = found_holds n us e h in
          let held = Contains-permutation us vs e m there.0 in
          found_apart vs n held.0 e a held.1 (ap (λ y. bytes_eq (name_of y) n) held.2 ∙ there.1) ∙ ap Some held.2

      by : (o : Option E) → find (named n) xs ≡ o → (q : Option E) → find (named n) ys ≡ q → find (named n) ys ≡ find (named n) xs
      by (Some e) h q k = across xs ys moved apart e h ∙ sym h
      by None h None k = k ∙ sym h
      by None h (Some e) k =
          let back = IsPermutation-sym xs ys moved in
          absurd (none-some e (sym h ∙ across ys xs back (apart_moved ys xs back apart) e k))

  -- a name that no entry has is not found
  none_found : (n : List ℕ) (xs : List E) → ((k : ℕ) (d : E) → k < length xs → bytes_eq (name_of (get_or xs k d)) n ≡ false) → find (named n) xs ≡ None
  none_found n [] h = refl
  none_found n (x ∷ xs) h = rw (h zero x (omega arith)) (none_found n xs (λ k d l. h (suc k) d (omega arith)))

  -- ---- names that rise

  pub apart_from_rising : (xs : List E) → RiseByName name_of xs → Apart xs
  apart_from_rising xs rises = IsDistinct-from_apart bytes_eq (map name_of xs) (λ i j d below inside. lesser_name (get_or (map name_of xs) i d) (get_or (map name_of xs) j d) (Less-from_sorted cmp (map name_of xs) i j d rises below inside))

  pub rising_from_next : (xs : List E) → ((k : ℕ) (d : E) → k + 1 < length xs → true ≡ is_lt (cmp (name_of (get_or xs k d)) (name_of (get_or xs (k + 1) d)))) → RiseByName name_of xs
  rising_from_next xs next = sorted_from_all_adjacent nat_list_cmp_total (map name_of xs) [] (λ k inside. at xs next k (omega (arith, length-map xs name_of)))
    where
      less : (o : Ordering) → true ≡ is_lt o → o ≡ Less
      less Less h = refl
      less Equal h = absurd cc
      less Greater h = absurd cc

      at : (ys : List E) → ((k : ℕ) (d : E) → k + 1 < length ys → true ≡ is_lt (cmp (name_of (get_or ys k d)) (name_of (get_or ys (k + 1) d)))) → (k : ℕ) → k + 1 < length ys → cmp (get_or (map name_of ys) k []) (get_or (map name_of ys) (k + 1) []) ≡ Less
      at [] f k h = absurd (omega arith)
      at (y ∷ ys) f k h = rw (get_or-map name_of (y ∷ ys) k y [] (omega arith), get_or-map name_of (y ∷ ys) (k + 1) y [] h) (less _ (f k y h))

  pub rising_from_answer : (xs : List E) (r : Bool) → IsAllAdjacentAnswer (λ x y b. b ≡ is_lt (cmp (name_of x) (name_of y))) xs r → r ≡ true → RiseByName name_of xs
  rising_from_answer xs true answer e = rising_from_next xs answer
  rising_from_answer xs false answer e = absurd (true≢false (sym e))

  -- sorted entries of which one is not below the next have a name twice
  pub twice_from_next : (xs : List E) (k : ℕ) → IsSortedBy (λ x y. is_lt (cmp (name_of x) (name_of y))) xs → k + 1 < length xs → ((d : E) → false ≡ is_lt (cmp (name_of (get_or xs k d)) (name_of (get_or xs (k + 1) d)))) → is_named_twice name_of xs ≡ true
  twice_from_next xs k sorted inside stays =
      by (is_named_twice name_of xs) refl
    where
      equal : (o : Ordering) → false ≡ is_lt o → is_lt (ordering_reverse o) ≡ false → o ≡ Equal
      equal Less h b = absurd cc
      equal Equal h b = refl
      equal Greater h b = absurd cc

      clash : (ys : List E) (k : ℕ) → Apart ys → IsSortedBy (λ x y. is_lt (cmp (name_of x) (name_of y))) ys → k + 1 < length ys → ((d : E) → false ≡ is_lt (cmp (name_of (get_or ys k d)) (name_of (get_or ys (k + 1) d)))) → ⊥
      clash [] k a s h f = absurd (omega arith)
      clash (y ∷ ys) k a s h f =
          let zs = y ∷ ys in
          let one = name_of (get_or zs k y) in
          let next = name_of (get_or zs (k + 1) y) in
          let back : is_lt (ordering_reverse (cmp one next)) ≡ false = ap is_lt (sym (nat_list_cmp_total.antisymm next one)) ∙ s k y (omega arith) h in
          let same = equal_names one next (equal (cmp one next) (f y) back) in
          let at_k : get_or (map name_of zs) k (name_of y) ≡ one = lists.get_or-map name_of zs k y in
          let at_next : get_or (map name_of zs) (k + 1) (name_of y) ≡ next = lists.get_or-map name_of zs (k + 1) y in
          let apart_there = apart_from_distinct bytes_eq (map name_of zs) k (k + 1) (name_of y) a (omega arith) (omega (arith, length-map zs name_of)) in
          true_not_false (bytes_eq one next) same (rw (at_k, at_next) at apart_there)

      by : (t : Bool) → is_named_twice name_of xs ≡ t → is_named_twice name_of xs ≡ true
      by true there = there
      by false none = absurd (clash xs k (apart_from_once xs none) sorted inside stays)

  pub twice_from_answer : (xs : List E) (r : Bool) → IsSortedBy (λ x y. is_lt (cmp (name_of x) (name_of y))) xs → IsAllAdjacentAnswer (λ x y b. b ≡ is_lt (cmp (name_of x) (name_of y))) xs r → r ≡ false → is_named_twice name_of xs ≡ true
  twice_from_answer xs true sorted answer e = absurd (true≢false e)
  twice_from_answer xs false sorted answer e = twice_from_next xs answer.0 sorted answer.1 answer.2

  -- ---- the binary search

  searchable : (xs : List E) → RiseByName name_of xs → IsSortedBy (λ a b. is_lt (cmp (name_of a) (name_of b))) xs
  searchable xs rises k d above below =
      let less = Less-from_sorted cmp (map name_of xs) k (k + 1) (name_of d) rises (omega arith) (omega (arith, length-map xs name_of)) in
      let first : get_or (map name_of xs) k (name_of d) ≡ name_of (get_or xs k d) = lists.get_or-map name_of xs k d in
      let second : get_or (map name_of xs) (k + 1) (name_of d) ≡ name_of (get_or xs (k + 1) d) = lists.get_or-map name_of xs (k + 1) d in
      let pair : cmp (name_of (get_or xs k d)) (name_of (get_or xs (k + 1) d)) ≡ Less = rw (first, second) at less in
      let back : cmp (name_of (get_or xs (k + 1) d)) (name_of (get_or xs k d)) ≡ Greater = nat_list_cmp_total.antisymm (name_of (get_or xs (k + 1) d)) (name_of (get_or xs k d)) ∙ ap ordering_reverse pair in
      ap is_lt back

  -- the entry at the place that a binary search answers is the one of the name
  pub found_at : (xs : List E) (n : List ℕ) (i : ℕ) (d : E) → RiseByName name_of xs → i < length xs → cmp (name_of (get_or xs i d)) n ≡ Equal → find (named n) xs ≡ Some (get_or xs i d)
  found_at xs n i d rises inside here = found_apart xs n i d (apart_from_rising xs rises) inside (equal_names (name_of (get_or xs i d)) n here)

  -- where it answers none, no entry has the name
  pub missed : (xs : List E) (n : List ℕ) (i : ℕ) → RiseByName name_of xs → IsBinarySearchResult (λ x. cmp (name_of x) n) xs (Err i) → find (named n) xs ≡ None
  missed xs n i rises parted =
      let parts = parted (searchable_from_sorted nat_list_cmp_total name_of xs n (searchable xs rises)) in
      none_found n xs (λ k d inside. elim (cases_lt k i) [
        | inl before ↦ lesser_name (name_of (get_or xs k d)) n (parts.0 k d (omega arith) before)
        | inr after ↦ greater_name (name_of (get_or xs k d)) n (parts.1 k d after inside)
      ])
