-- Each step keeps the rule: the rounds that are kept are those that are told.
use Rattle.std.proofs.Common.{◌≡◌, ◌≢◌, ◌⊎◌, ℕ, zero, suc, List, [], ◌∷◌, ◌++◌, length, set, true, false, true≢false, refl, sym, ap, ◌∙◌, subst, inl, inr, ⊎_elim}
use mathlib.Core.Option.{some, some-ne-none, some-injective}
use lib.ListN.{get_elem?}
use Rattle.crossbeam_utils.specs.Register.{Turns, Forks, Merges}
use Rattle.atomic_table.proofs.Lists.{at_set, at_snoc, set_again}
use Rattle.pool_core.specs.declared.answer.Ran.{Ran}
use Rattle.agreed_rounds.specs.declared.known.View.{View}
use Rattle.agreed_rounds.specs.Agreed.{alone, keeper, teller, nobody, without_telling, without_keeping, both, with_round, Agree, Finds, Adds}

-- what the rule says of one view
abbrev Fits : ℕ → ℕ → List Ran → ℕ → View → Type 0
Fits keeps tells rounds by v = (v.keeps ≡ true → (by ≡ keeps) × (v.kept ≡ rounds)) × (v.tells ≡ true → (by ≡ tells) × (v.told ≡ rounds))

off : false ≡ true → ⊥
off e = true≢false (sym e)

fits_nobody : (keeps tells : ℕ) (rounds : List Ran) (by : ℕ) → Fits keeps tells rounds by nobody
fits_nobody keeps tells rounds by = ((λ no. absurd (off no)), (λ no. absurd (off no)))

fits_here : (keeps tells : ℕ) (rounds : List Ran) (by j : ℕ) (w u : View) → j ≡ by → w ≡ u → Fits keeps tells rounds by w → Fits keeps tells rounds j u
fits_here keeps tells rounds by j w u at same fits = subst (λ (v : View). Fits keeps tells rounds j v) same (subst (λ (k : ℕ). Fits keeps tells rounds k w) (sym at) fits)

fits_set : (keeps tells : ℕ) (rounds : List Ran) (views : List View) (by : ℕ) (w : View)
    → ((j : ℕ) (u : View) → j ≢ by → get_elem? views j ≡ some u → Fits keeps tells rounds j u) → Fits keeps tells rounds by w
    → (j : ℕ) (u : View) → get_elem? (set views by w) j ≡ some u → Fits keeps tells rounds j u
fits_set keeps tells rounds views by w others mine j u e =
    ⊎_elim
    (λ (x : (j ≡ by) × (w ≡ u)). fits_here keeps tells rounds by j w u x.0 x.1 mine)
    (λ (x : (j ≢ by) × (get_elem? views j ≡ some u)). others j u x.0 x.1)
    (at_set views by j w u e)

-- the last of a list is at its length
at_end : (l : List View) (a b : View) (j : ℕ) → get_elem? (l ++ a ∷ []) j ≡ some b → (get_elem? l j ≡ some b) ⊎ ((j ≡ length l) × (a ≡ b))
at_end [] a b zero e = inr (refl, some-injective a b e)
at_end [] a b (suc j) e = absurd (some-ne-none b (sym e))
at_end (x ∷ xs) a b zero e = inl e
at_end (x ∷ xs) a b (suc j) e = ⊎_elim (λ was. inl was) (λ (new : (j ≡ length xs) × (a ≡ b)). inr (ap suc new.0, new.1)) (at_end xs a b j e)

pub begins : (words : List ℕ) → Agree words (alone [] ∷ [])
begins words = (0, 0, [], one)
  where
    one : (by : ℕ) (v : View) → get_elem? (alone [] ∷ []) by ≡ some v → Fits 0 0 [] by v
    one zero v e = subst (Fits 0 0 [] 0) (some-injective _ _ e) ((λ _. (refl, refl)), (λ _. (refl, refl)))
    one (suc by) v e = absurd (some-ne-none v (sym e))

pub finds : (by : ℕ) (v : View) → Turns Agree by v (λ x. x) Finds
finds by v words views h at =
    let mine = h.3 by v at in (
      v,
      (h.0, h.1, h.2, fits_set h.0 h.1 h.2 views by v (λ j u apart e. h.3 j u e) mine),
      (refl, λ keeps tells. (mine.0 keeps).1 ∙ sym (mine.1 tells).1),
    )

pub adds : (by : ℕ) (v : View) (ran : Ran) → v.keeps ≡ true → v.tells ≡ true → Turns Agree by v (λ x. x) (Adds ran)
adds by v ran keeps tells words views h at =
    let mine = h.3 by v at in
    let kept = mine.0 keeps in
    let told = mine.1 tells in
    let now = h.2 ++ ran ∷ [] in (
      with_round ran v,
      (
        h.0,
        h.1,
        now,
        fits_set h.0 h.1 now views by (with_round ran v)
            (λ j u apart e. (
              (λ k. absurd (apart (((h.3 j u e).0 k).0 ∙ sym kept.0))),
              (λ t. absurd (apart (((h.3 j u e).1 t).0 ∙ sym told.0))),
            ))
            ((λ _. (kept.0, ap (λ (l : List Ran). l ++ ran ∷ []) kept.1)), (λ _. (told.0, ap (λ (l : List Ran). l ++ ran ∷ []) told.1))),
      ),
      refl,
    )

-- a pass that knows nothing
pub spares : (by : ℕ) (v : View) → Forks Agree by v v nobody
spares by v words views h at = (
  h.0,
  h.1,
  h.2,
  λ j u e. ⊎_elim
      (λ was. h.3 j u (subst (λ (l : List View). get_elem? l j ≡ some u) (set_again views by v at) was))
      (λ (same : nobody ≡ u). subst (Fits h.0 h.1 h.2 j) same (fits_nobody h.0 h.1 h.2 j))
      (at_snoc (set views by v) nobody u j e),
)

-- one keeps, and another tells
pub parts : (by : ℕ) (v : View) → v.tells ≡ true → Forks Agree by v (without_telling v) (without_keeping v)
parts by v tells words views h at =
    let mine = h.3 by v at in
    let told = mine.1 tells in
    let left = without_telling v in
    let right = without_keeping v in
    let n = length (set views by left) in (
      h.0,
      n,
      h.2,
      λ j u e. ⊎_elim
          (λ was. fits_set h.0 n h.2 views by left
          (λ i y apart there. ((h.3 i y there).0, (λ t. absurd (apart (((h.3 i y there).1 t).0 ∙ sym told.0)))))
          (mine.0, (λ no. absurd (off no)))
          j u was)
          (λ (new : (j ≡ n) × (right ≡ u)). fits_here h.0 n h.2 n j right u new.0 new.1 ((λ no. absurd (off no)), (λ _. (refl, told.1))))
          (at_end (set views by left) right u j e),
    )

-- one keeps and tells
pub meets : (by : ℕ) (v : View) (other : ℕ) (w : View) → w.tells ≡ true → Merges Agree by v other w (both v w) nobody
meets by v other w tells words views h at apart there =
    let mine = h.3 by v at in
    let b = both v w in
    let was = ⊎_elim (λ (t : (other ≡ by) × (b ≡ w)). absurd (apart t.0)) (λ (t : (other ≢ by) × (get_elem? views other ≡ some w)). t.1) (at_set views by other b w there) in
    let told = (h.3 other w was).1 tells in (
      h.0,
      by,
      h.2,
      fits_set h.0 by h.2 (set views by b) other nobody
          (λ j u far e. ⊎_elim
          (λ (x : (j ≡ by) × (b ≡ u)). fits_here h.0 by h.2 by j b u x.0 x.1 (mine.0, (λ _. (refl, told.1))))
          (λ (x : (j ≢ by) × (get_elem? views j ≡ some u)). ((h.3 j u x.1).0, (λ t. absurd (far (((h.3 j u x.1).1 t).0 ∙ sym told.0)))))
          (at_set views by j b u e))
          (fits_nobody h.0 by h.2 other),
    )

-- the same of views that are known
pub adds_as : (by : ℕ) (v : View) (rounds : List Ran) (ran : Ran) → v ≡ alone rounds → Turns Agree by v (λ x. x) (Adds ran)
adds_as by v rounds ran is = adds by v ran (ap (λ (x : View). x.keeps) is) (ap (λ (x : View). x.tells) is)

pub parts_as : (by : ℕ) (v : View) (rounds : List Ran) → v ≡ alone rounds → Forks Agree by v (without_telling v) (without_keeping v)
parts_as by v rounds is = parts by v (ap (λ (x : View). x.tells) is)

pub meets_as : (by : ℕ) (v : View) (other : ℕ) (w : View) (rounds : List Ran) → w ≡ teller rounds → Merges Agree by v other w (both v w) nobody
meets_as by v other w rounds is = meets by v other w (ap (λ (x : View). x.tells) is)

-- who has taken in the teller's view
pub met : (v a w : View) (kept told : List Ran) → v ≡ both a w → a ≡ keeper kept → w ≡ teller told → v ≡ both (keeper kept) (teller told)
met v a w kept told is keeps tells = is ∙ (ap (λ (x : View). both x w) keeps ∙ ap (λ (y : View). both (keeper kept) y) tells)

-- both are the same rounds
pub found : (v w : View) (kept told : List Ran) → (w ≡ v) × (v.keeps ≡ true → v.tells ≡ true → v.kept ≡ v.told) → v ≡ both (keeper kept) (teller told) → (w ≡ both (keeper kept) (teller told)) × (told ≡ kept)
found v w kept told f is = (f.0 ∙ is, sym (subst (λ (x : View). x.keeps ≡ true → x.tells ≡ true → x.kept ≡ x.told) is f.1 refl refl))

-- a pass that keeps these rounds is one that keeps what it keeps
pub keeper_is : (v : View) (rounds : List Ran) → v ≡ keeper rounds → v ≡ keeper v.kept
keeper_is v rounds is = is ∙ sym (ap (λ (x : View). keeper x.kept) is)

pub teller_is : (v : View) (rounds : List Ran) → v ≡ teller rounds → v ≡ teller v.told
teller_is v rounds is = is ∙ sym (ap (λ (x : View). teller x.told) is)
