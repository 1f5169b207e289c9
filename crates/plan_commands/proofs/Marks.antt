-- The marks of the workers that are live.
use Rattle.std.proofs.Common.{◌≡◌, ℕ, ◌+◌, ◌<◌, eqb, Bool, true, false, not, List, [], ◌∷◌, ◌++◌, Some, None, is_some, length, map, get_or, set, length-set, replicate, take, refl, ap, sym, ◌∙◌, inl, inr, arith}
use Rattle.std.specs.List.{cons_option, list_any, range_with_len}
use Rattle.pool_settings.specs.Settings.{Settings}
use Rattle.pool_settings.specs.Slots.{slot_named}
use Rattle.plan_commands.specs.Problem.{are_workers, lost_slots, unknown_place}
use Rattle.std.proofs.lemmas.Bool.{cases_eq, eq-eqb, ne_eqb}
use Rattle.std.proofs.lemmas.List.{ext_get_or, get_or-replicate, get_or-set_same, get_or-set_other, get_or-take, length-replicate, length-take-le, take_more}
use Rattle.std.proofs.lemmas.List.Elements.{All-get_or, filter_map-append}
use Rattle.std.proofs.lemmas.List.Folds.{list_all-append, list_all_at, list_any-append}
use Rattle.std.proofs.lemmas.List.Sums.{AllPass-from_list_all, prefix_len_is}
use Rattle.std.proofs.lemmas.List.FromFn.{get_or-map-range_with_len, length-map-range_with_len}

abbrev pub is_live_but : List ℕ → ℕ → Bool
is_live_but lost slot = not (list_any (λ l. eqb l slot) lost)

more_here : (lost : List ℕ) (s : ℕ) → is_live_but (lost ++ s ∷ []) s ≡ false
more_here lost s = by (list_any (λ l. eqb l s) lost) refl
  where
    by : (b : Bool) → list_any (λ l. eqb l s) lost ≡ b → is_live_but (lost ++ s ∷ []) s ≡ false
    by true e = rw (list_any-append (λ l. eqb l s) lost (s ∷ []), e) refl
    by false e = rw (list_any-append (λ l. eqb l s) lost (s ∷ []), e, eq-eqb s s refl) refl

more_there : (lost : List ℕ) (s k : ℕ) → (k ≡ s → ⊥) → is_live_but (lost ++ s ∷ []) k ≡ is_live_but lost k
more_there lost s k other = by (list_any (λ l. eqb l k) lost) refl
  where
    differs : eqb s k ≡ false
    differs = ne_eqb s k (λ e. other (sym e))

    by : (b : Bool) → list_any (λ l. eqb l k) lost ≡ b → is_live_but (lost ++ s ∷ []) k ≡ is_live_but lost k
    by true e = rw (list_any-append (λ l. eqb l k) lost (s ∷ []), e) refl
    by false e = rw (list_any-append (λ l. eqb l k) lost (s ∷ []), e, differs) refl

-- one more lost slot
pub mark_more : (n : ℕ) (lost : List ℕ) (s : ℕ) → s < n
    → map (is_live_but (lost ++ s ∷ [])) (range_with_len 0 n) ≡ set (map (is_live_but lost) (range_with_len 0 n)) s false
mark_more n lost s below =
    let marks = map (is_live_but lost) (range_with_len 0 n) in
    let more = map (is_live_but (lost ++ s ∷ [])) (range_with_len 0 n) in
    let long = length-map-range_with_len (is_live_but lost) 0 n in
    let as_long = length-map-range_with_len (is_live_but (lost ++ s ∷ [])) 0 n in
    ext_get_or false more (set marks s false) (as_long ∙ sym (length-set marks s false ∙ long)) (λ k within.
    let h : k < n = omega (arith, as_long, within) in
    get_or-map-range_with_len (is_live_but (lost ++ s ∷ [])) 0 n k k false h (omega arith)
    ∙ elim (cases_eq k s) [
      | inl same ↦ rw same (more_here lost s ∙ sym (get_or-set_same marks s false false (omega (arith, long))))
      | inr other ↦ more_there lost s k other
          ∙ sym (get_or-set_other marks s k false false other ∙ get_or-map-range_with_len (is_live_but lost) 0 n k k false h (omega arith))
    ])

-- no slot is lost
pub none_lost : (n : ℕ) → replicate n true ≡ map (is_live_but []) (range_with_len 0 n)
none_lost n =
    let marks = map (is_live_but []) (range_with_len 0 n) in
    let long = length-map-range_with_len (is_live_but []) 0 n in
    ext_get_or false (replicate n true) marks (length-replicate n true ∙ sym long) (λ k within.
    let h : k < n = omega (arith, length-replicate n true, within) in
    get_or-replicate n k true false h ∙ sym (get_or-map-range_with_len (is_live_but []) 0 n k k false h (omega arith)))

-- the names so far, and one more
module _ (p : Settings) (names : List (List ℕ)) (i : ℕ) (within : i < length names) where
  pub known_more : (s : ℕ) → slot_named p (get_or names i []) ≡ Some s → are_workers p (take i names) ≡ true → are_workers p (take (i + 1) names) ≡ true
  known_more s named so_far =
      ap (are_workers p) (take_more names i [] within)
      ∙ list_all-append (λ name. is_some (slot_named p name)) (take i names) (get_or names i [] ∷ [])
      ∙ rw (so_far, named) refl

  pub lost_more : (s : ℕ) → slot_named p (get_or names i []) ≡ Some s → lost_slots p (take (i + 1) names) ≡ lost_slots p (take i names) ++ s ∷ []
  lost_more s named =
      ap (lost_slots p) (take_more names i [] within)
      ∙ filter_map-append (slot_named p) (take i names) (get_or names i [] ∷ [])
      ∙ ap (λ o. lost_slots p (take i names) ++ cons_option o []) named

  -- the names before it are workers, and it is none
  pub unknown_here : slot_named p (get_or names i []) ≡ None → are_workers p (take i names) ≡ true → unknown_place p names ≡ i
  unknown_here named so_far = prefix_len_is is_worker names i [] (omega (arith, within)) before (λ _. ap is_some named)
    where
      is_worker : List ℕ → Bool
      is_worker name = is_some (slot_named p name)

      before : (k : ℕ) → k < i → is_worker (get_or names k []) ≡ true
      before k below =
          ap is_worker (sym (get_or-take i names k [] below))
          ∙ All-get_or (λ name. is_worker name ≡ true) (take i names) k [] (omega (arith, below, within, length-take-le i names (omega (arith, within))))
          (AllPass-from_list_all is_worker (take i names) so_far)

  pub unknown : slot_named p (get_or names i []) ≡ None → are_workers p names ≡ false
  unknown named = list_all_at (λ name. is_some (slot_named p name)) names i [] within (ap is_some named)
