-- Names in byte order: a binary search finds what a walk through them finds, and each name has one number.
use Rattle.std.proofs.Common.{◌≡◌, ℕ, ◌+◌, ◌<◌, List, [], ◌∷◌, true, false, Some, None, Result, Ok, Err, String, Global, map, length, get_or, ltb, sym, ap, ◌∙◌, subst, inl, inr, arith}
use Rattle.std.proofs.Math.ListN as lists
use Rattle.std.proofs.lemmas.List.{get_or-map, length-map}
use Rattle.std.specs.Prelude.{string_bytes}
use Rattle.std.specs.List.{position_or_len}
use Rattle.std.specs.List.Sorted.{IsBinarySearchResult, IsSearchInRange, IsSortedBy}
use Rattle.std.specs.Cmp.Lexicographic.{slice_cmp}
use Rattle.std.specs.Ordering.{nat_cmp, is_eq, is_lt, ordering_reverse}
use Rattle.std.specs.declared.cmp.Ordering.{Ordering}
use Rattle.std.specs.declared.cmp.Ordering.TheVariants.{Equal, Greater, Less}
use Rattle.std.specs.Result.{result_ok}
use Rattle.std.specs.Str.{bytes_eq}
use Rattle.std.proofs.lemmas.Slice.Eq.{bytes_eq-Decides}
use Rattle.std.proofs.lemmas.Bool.{cases_lt}
use Rattle.std.proofs.lemmas.Bool.Decides.{nat_tests}
use Rattle.std.proofs.lemmas.Cmp.{nat_list_cmp_total}
use Rattle.std.proofs.lemmas.Map.Keys.{Less-from_sorted}
use Rattle.std.proofs.lemmas.Map.Lookups.{exact_bytes}
use Rattle.std.proofs.lemmas.Map.Text.{is_eq-slice_cmp}
use Rattle.std.proofs.lemmas.List.Sorted.{searchable_from_sorted}
use Rattle.std.proofs.lemmas.List.Sums.{position_or_len_is}
use Rattle.pool_settings.specs.Names.{IsInByteOrder, place_of}

-- names in byte order
abbrev pub cmp : List ℕ → List ℕ → Ordering
cmp = slice_cmp nat_cmp

pub equal_names : (a b : List ℕ) → cmp a b ≡ Equal → bytes_eq a b ≡ true
equal_names a b e = sym (is_eq-slice_cmp a b) ∙ ap is_eq e

pub lesser_name : (a b : List ℕ) → cmp a b ≡ Less → bytes_eq a b ≡ false
lesser_name a b e = sym (is_eq-slice_cmp a b) ∙ ap is_eq e

pub greater_name : (a b : List ℕ) → cmp a b ≡ Greater → bytes_eq a b ≡ false
greater_name a b e = sym (is_eq-slice_cmp a b) ∙ ap is_eq e

same_name : (a b : List ℕ) → a ≡ b → bytes_eq a b ≡ true
same_name a b e = (bytes_eq-Decides a b).1 e

-- the name at a place is found there, and at no place before it
pub place_is : (names : List (List ℕ)) (name : List ℕ) (i : ℕ) → IsInByteOrder names → i < length names → get_or names i [] ≡ name → place_of names name ≡ Some i
place_is names name i rises inside here =
    let before : (k : ℕ) → k < i → bytes_eq (get_or names k []) name ≡ false =
    λ k below. subst (λ n. bytes_eq (get_or names k []) n ≡ false) here
    (lesser_name (get_or names k []) (get_or names i []) (Less-from_sorted cmp names k i [] rises below inside)) in
    let this : bytes_eq (get_or names i []) name ≡ true = same_name (get_or names i []) name here in
    let at : position_or_len (λ n. bytes_eq n name) names ≡ i = position_or_len_is (λ n. bytes_eq n name) names i [] (omega arith) before (λ _. this) in
    let inside_too : ltb i (length names) ≡ true = grind (arith, nat_tests) in
    rw (at, inside_too)

-- a name that is at no place is not found
place_none : (names : List (List ℕ)) (name : List ℕ) → ((k : ℕ) → k < length names → bytes_eq (get_or names k []) name ≡ false) → place_of names name ≡ None
place_none names name none =
    let at : position_or_len (λ n. bytes_eq n name) names ≡ length names = position_or_len_is (λ n. bytes_eq n name) names (length names) [] (omega arith) none (λ h. absurd (omega arith)) in
    let outside : ltb (length names) (length names) ≡ false = grind (arith, nat_tests) in
    rw (at, outside)

module _ (held : List (String Global)) (rises : IsInByteOrder (map (λ s. string_bytes s) held)) where
  -- names in byte order may be searched
  sorted : IsSortedBy (λ a b. is_lt (cmp (string_bytes a) (string_bytes b))) held
  sorted k d above below =
      let many : length (map (λ s. string_bytes s) held) ≡ length held = length-map held (λ s. string_bytes s) in
      let less = Less-from_sorted cmp (map (λ s. string_bytes s) held) k (k + 1) (string_bytes d) rises (omega arith) (omega (arith, many)) in
      let first : get_or (map (λ s. string_bytes s) held) k (string_bytes d) ≡ string_bytes (get_or held k d) = lists.get_or-map (λ s. string_bytes s) held k d in
      let second : get_or (map (λ s. string_bytes s) held) (k + 1) (string_bytes d) ≡ string_bytes (get_or held (k + 1) d) = lists.get_or-map (λ s. string_bytes s) held (k + 1) d in
      let pair : cmp (string_bytes (get_or held k d)) (string_bytes (get_or held (k + 1) d)) ≡ Less = rw (first, second) at less in
      let back : cmp (string_bytes (get_or held (k + 1) d)) (string_bytes (get_or held k d)) ≡ Greater = nat_list_cmp_total.antisymm (string_bytes (get_or held (k + 1) d)) (string_bytes (get_or held k d)) ∙ ap ordering_reverse pair in
      ap is_lt back

  -- what is said of the name that is held at a place is said of the name there
  from_held : (k : ℕ) (o : Ordering) (name : List ℕ) → k < length (map (λ s. string_bytes s) held) → ((d : String Global) → cmp (string_bytes (get_or held k d)) name ≡ o) → cmp (get_or (map (λ s. string_bytes s) held) k []) name ≡ o
  from_held k o name below at = by held (omega (arith, length-map held (λ (s : String Global). string_bytes s))) at
    where
      by : (ss : List (String Global)) → k < length ss → ((d : String Global) → cmp (string_bytes (get_or ss k d)) name ≡ o) → cmp (get_or (map (λ s. string_bytes s) ss) k []) name ≡ o
      by [] h f = absurd (omega arith)
      by (s ∷ ss) h f = rw (get_or-map (λ (s : String Global). string_bytes s) (s ∷ ss) k s [] h) (f s)

  at_place : (name : List ℕ) (i : ℕ) → i < length held → ((d : String Global) → cmp (string_bytes (get_or held i d)) name ≡ Equal) → get_or (map (λ s. string_bytes s) held) i [] ≡ name
  at_place name i inside found =
      exact_bytes (get_or (map (λ s. string_bytes s) held) i []) name (from_held i Equal name (omega (arith, length-map held (λ (s : String Global). string_bytes s))) found)

  -- what a binary search by a name answers is the name's place
  pub place_searched : (name : List ℕ) (r : Result ℕ ℕ) → IsSearchInRange r (length held) → IsBinarySearchResult (λ s. cmp (string_bytes s) name) held r
      → result_ok r ≡ place_of (map (λ s. string_bytes s) held) name
  place_searched name (Ok i) inside found =
      let names = map (λ s. string_bytes s) held in
      let many : length names ≡ length held = length-map held (λ s. string_bytes s) in
      sym (place_is names name i rises (omega (arith, many)) (at_place name i inside found))
  place_searched name (Err i) inside missed =
      let parts = missed (searchable_from_sorted nat_list_cmp_total (λ s. string_bytes s) held name sorted) in
      sym (place_none (map (λ s. string_bytes s) held) name (λ k below. elim (cases_lt k i) [
        | inl before ↦ lesser_name (get_or (map (λ s. string_bytes s) held) k []) name (from_held k Less name below (λ d. parts.0 k d (omega arith) before))
        | inr after ↦ greater_name (get_or (map (λ s. string_bytes s) held) k []) name (from_held k Greater name below (λ d. parts.1 k d after (omega (arith, length-map held (λ (s : String Global). string_bytes s)))))
      ]))
