-- A text cut at one byte.
use Rattle.std.proofs.Common.{◌≡◌, ℕ, ◌-◌, ◌+◌, ◌<◌, ◌≤◌, ◌==◌, add-one, ltb, List, [], ◌∷◌, ◌++◌, Bool, true, false, ◌||◌, Option, None, Some, option_map, length, length-drop, take, drop, get_or, eqb, refl, ap, sym, ◌∙◌, zero, suc, arith}
use Rattle.std.specs.Prelude.{position}
use Rattle.std.specs.List.{list_all, position_or_len, slice_split}
use Rattle.std.proofs.lemmas.Bool.{and_parts, eq-eqb, eqb-true, false≢true, ltb-false, ltb-true, ne_eqb}
use Rattle.std.proofs.lemmas.Bool.Decides.{nat_tests}
use Rattle.std.proofs.lemmas.List.{take_all}
use Rattle.text_pieces.specs.Cuts.{cut_first, cut_last, put_prefix}
use Rattle.text_pieces.specs.Laws.{AreCutsJoined, has_byte, parts_by}

-- all that is left after n bytes
pub rest_taken : (n : ℕ) (text : List ℕ) → take (length text - n) (drop n text) ≡ drop n text
rest_taken n text = take_all _ (drop n text) (omega (arith, length-drop n text))

or_parts : (a b : Bool) → (a || b) ≡ false → (a ≡ false) × (b ≡ false)
or_parts true b h = absurd cc
or_parts false b h = (refl, h)

-- ---- values that are there, and that are not

pub same : {A : Type 0} (x y : A) → Some x ≡ Some y → x ≡ y
same x y e = cc

pub never : {A : Type 0} (x : A) → None ≡ Some x → ⊥
never x e = absurd cc

-- ---- the first

abbrev is_byte : ℕ → ℕ → Bool
is_byte c b = b == c

-- a text is cut at the first place that passes
found_at : (c : ℕ) (text : List ℕ) (n : ℕ) → position_or_len (is_byte c) text ≡ n → n < length text → cut_first c text ≡ Some (take n text, drop (suc n) text)
found_at c [] n at below = absurd (omega arith)
found_at c (b ∷ bs) zero at below = by (eqb b c) refl
  where
    by : (d : Bool) → eqb b c ≡ d → cut_first c (b ∷ bs) ≡ Some ([], bs)
    by true is = rw is refl
    by false other = let k : 1 + position_or_len (is_byte c) bs ≡ 0 = rw other at at in absurd (omega arith)
found_at c (b ∷ bs) (suc n) at below = by (found_at c bs n) (eqb b c) refl
  where
    by : (position_or_len (is_byte c) bs ≡ n → n < length bs → cut_first c bs ≡ Some (take n bs, drop (suc n) bs))
        → (d : Bool) → eqb b c ≡ d → cut_first c (b ∷ bs) ≡ Some (b ∷ take n bs, drop (suc n) bs)
    by again true is = let k : 0 ≡ suc n = rw is at at in absurd (omega (arith, k))
    by again false other =
        let k : 1 + position_or_len (is_byte c) bs ≡ suc n = rw other at at in
        rw other (ap (option_map (put_prefix b)) (again (omega (arith, k)) (omega arith)))

found_nowhere : (c : ℕ) (text : List ℕ) → length text ≤ position_or_len (is_byte c) text → cut_first c text ≡ None
found_nowhere c [] none = refl
found_nowhere c (b ∷ bs) none = by (found_nowhere c bs) (eqb b c) refl
  where
    by : (length bs ≤ position_or_len (is_byte c) bs → cut_first c bs ≡ None) → (d : Bool) → eqb b c ≡ d → cut_first c (b ∷ bs) ≡ None
    by again true is = let k : length (b ∷ bs) ≤ 0 = rw is at none in absurd (omega (arith, k))
    by again false other =
        let k : length (b ∷ bs) ≤ 1 + position_or_len (is_byte c) bs = rw other at none in
        rw other (ap (option_map (put_prefix b)) (again (omega (arith, k))))

pub cut_position : (c : ℕ) (text : List ℕ) (n : ℕ) → position (is_byte c) text ≡ Some n
    → Some (take n text, take (length text - (n + 1)) (drop (n + 1) text)) ≡ cut_first c text
cut_position c text n e = by (ltb (position_or_len (is_byte c) text) (length text)) refl
  where
    by : (d : Bool) → ltb (position_or_len (is_byte c) text) (length text) ≡ d → Some (take n text, take (length text - (n + 1)) (drop (n + 1) text)) ≡ cut_first c text
    by true inside =
        let at : position_or_len (is_byte c) text ≡ n = same (position_or_len (is_byte c) text) n (rw inside at e) in
        ap (λ (t : List ℕ). Some (take n text, t)) (rest_taken (n + 1) text ∙ rw add-one)
        ∙ sym (found_at c text n at (omega (arith, at, ltb-true _ _ inside)))
    by false outside = absurd (never n (rw outside at e))

pub cut_no_position : (c : ℕ) (text : List ℕ) → position (is_byte c) text ≡ None → None ≡ cut_first c text
cut_no_position c text e = by (ltb (position_or_len (is_byte c) text) (length text)) refl
  where
    by : (d : Bool) → ltb (position_or_len (is_byte c) text) (length text) ≡ d → None ≡ cut_first c text
    by true inside = let k : Some (position_or_len (is_byte c) text) ≡ None = rw inside at e in absurd (never (position_or_len (is_byte c) text) (sym k))
    by false outside = sym (found_nowhere c text (ltb-false _ _ outside))

pub first_of_parts : (c : ℕ) (prefix back : List ℕ) → has_byte c prefix ≡ false → cut_first c (prefix ++ c ∷ back) ≡ Some (prefix, back)
first_of_parts c [] back h = rw (eq-eqb c c refl) refl
first_of_parts c (b ∷ prefix) back h =
    let parts = or_parts (eqb b c) (has_byte c prefix) h in
    rw (parts.0, first_of_parts c prefix back parts.1) refl

pub parts_of_first : (c : ℕ) (text : List ℕ) (parts : List ℕ × List ℕ) → cut_first c text ≡ Some parts
    → (text ≡ parts.0 ++ c ∷ parts.1) × (has_byte c parts.0 ≡ false)
parts_of_first c [] parts e = absurd (never parts e)
parts_of_first c (b ∷ bs) parts e = by (parts_of_first c bs) (eqb b c) refl (cut_first c bs) refl
  where
    by : ((inner : List ℕ × List ℕ) → cut_first c bs ≡ Some inner → (bs ≡ inner.0 ++ c ∷ inner.1) × (has_byte c inner.0 ≡ false))
        → (d : Bool) → eqb b c ≡ d → (o : Option (List ℕ × List ℕ)) → cut_first c bs ≡ o
        → (b ∷ bs ≡ parts.0 ++ c ∷ parts.1) × (has_byte c parts.0 ≡ false)
    by again true is o cut =
        let here : ([], bs) ≡ parts = same ([], bs) parts (rw is at e) in
        rw (← here) (ap (λ x. x ∷ bs) (eqb-true b c is), refl)
    by again false other (Some inner) cut =
        let here : put_prefix b inner ≡ parts = same (put_prefix b inner) parts (rw (other, cut) at e) in
        rw (← here) (ap (λ x. b ∷ x) (again inner cut).0, rw other (again inner cut).1)
    by again false other None cut = absurd (never parts (rw (other, cut) at e))

-- ---- the last

pub last_nowhere : (c : ℕ) (text : List ℕ) → has_byte c text ≡ false → cut_last c text ≡ None
last_nowhere c [] h = refl
last_nowhere c (b ∷ bs) h =
    let parts = or_parts (eqb b c) (has_byte c bs) h in
    rw (last_nowhere c bs parts.1, parts.0) refl

pub nowhere_last : (c : ℕ) (text : List ℕ) → cut_last c text ≡ None → has_byte c text ≡ false
nowhere_last c [] h = refl
nowhere_last c (b ∷ bs) h = by (nowhere_last c bs) (cut_last c bs) refl (eqb b c) refl
  where
    by : (cut_last c bs ≡ None → has_byte c bs ≡ false) → (o : Option (List ℕ × List ℕ)) → cut_last c bs ≡ o → (d : Bool) → eqb b c ≡ d → has_byte c (b ∷ bs) ≡ false
    by again (Some parts) cut d is = absurd (never (put_prefix b parts) (sym (rw cut at h)))
    by again None cut true is =
        let made : List ℕ × List ℕ = ([], bs) in
        absurd (never made (sym (rw (cut, is) at h)))
    by again None cut false other = rw other (again cut)

pub last_of_parts : (c : ℕ) (prefix back : List ℕ) → cut_last c back ≡ None → cut_last c (prefix ++ c ∷ back) ≡ Some (prefix, back)
last_of_parts c [] back none = rw (none, eq-eqb c c refl) refl
last_of_parts c (b ∷ prefix) back none = rw (last_of_parts c prefix back none) refl

pub parts_of_last : (c : ℕ) (text : List ℕ) (parts : List ℕ × List ℕ) → cut_last c text ≡ Some parts
    → (text ≡ parts.0 ++ c ∷ parts.1) × (has_byte c parts.1 ≡ false)
parts_of_last c [] parts e = absurd (never parts e)
parts_of_last c (b ∷ bs) parts e = by (parts_of_last c bs) (cut_last c bs) refl
  where
    here : (d : Bool) → eqb b c ≡ d → cut_last c bs ≡ None → (b ∷ bs ≡ parts.0 ++ c ∷ parts.1) × (has_byte c parts.1 ≡ false)
    here true is none =
        let cut : ([], bs) ≡ parts = same ([], bs) parts (rw (none, is) at e) in
        rw (← cut) (ap (λ x. x ∷ bs) (eqb-true b c is), nowhere_last c bs none)
    here false other none = absurd (never parts (rw (none, other) at e))

    by : ((inner : List ℕ × List ℕ) → cut_last c bs ≡ Some inner → (bs ≡ inner.0 ++ c ∷ inner.1) × (has_byte c inner.1 ≡ false))
        → (o : Option (List ℕ × List ℕ)) → cut_last c bs ≡ o → (b ∷ bs ≡ parts.0 ++ c ∷ parts.1) × (has_byte c parts.1 ≡ false)
    by again (Some inner) is =
        let cut : put_prefix b inner ≡ parts = same (put_prefix b inner) parts (rw is at e) in
        rw (← cut) (ap (λ x. b ∷ x) (again inner is).0, (again inner is).1)
    by again None none = here (eqb b c) refl none

-- a text is cut at its byte at i, where none such stands after it
pub cut_here : (c : ℕ) (text : List ℕ) (i : ℕ) → i < length text → get_or text i 0 ≡ c → cut_last c (drop (suc i) text) ≡ None
    → cut_last c text ≡ Some (take i text, drop (suc i) text)
cut_here c [] i h here none = absurd (omega arith)
cut_here c (b ∷ text) zero h here none = rw none (grind (arith, nat_tests))
cut_here c (b ∷ text) (suc i) h here none = rw (cut_here c text i (omega arith) here none)

-- ---- texts without the byte

-- bytes of another kind
pub none_in : (c : ℕ) (p : ℕ → Bool) (text : List ℕ) → p c ≡ false → list_all p text ≡ true → has_byte c text ≡ false
none_in c p [] out all = refl
none_in c p (b ∷ bs) out all =
    let parts = and_parts (p b) (list_all p bs) all in
    rw (ne_eqb b c (λ e. false≢true (sym out ∙ ap p (sym e) ∙ parts.0)), none_in c p bs out parts.1) refl

pub none_joined : (c : ℕ) (prefix back : List ℕ) → has_byte c prefix ≡ false → has_byte c back ≡ false → has_byte c (prefix ++ back) ≡ false
none_joined c [] back h k = k
none_joined c (b ∷ prefix) back h k =
    let parts = or_parts (eqb b c) (has_byte c prefix) h in
    rw (parts.0, none_joined c prefix back parts.1 k) refl

-- ---- the parts between all such bytes

pub split_by_first : (c : ℕ) (text : List ℕ) → slice_split (is_byte c) text ≡ parts_by c text
split_by_first c [] = refl
split_by_first c (b ∷ bs) = by (split_by_first c bs) (eqb b c) refl (cut_first c bs) refl
  where
    by : slice_split (is_byte c) bs ≡ parts_by c bs → (d : Bool) → eqb b c ≡ d → (o : Option (List ℕ × List ℕ)) → cut_first c bs ≡ o
        → slice_split (is_byte c) (b ∷ bs) ≡ parts_by c (b ∷ bs)
    by rest true is o cut = rw is refl
    by rest false other (Some parts) cut = rw (other, rest, cut) refl
    by rest false other None cut = rw (other, rest, cut) refl

-- ---- the law

pub cuts_joined : AreCutsJoined
cuts_joined = record {
  first = λ c text prefix back. (
    λ cut. parts_of_first c text (prefix, back) cut,
    λ joined. ap (cut_first c) joined.0 ∙ first_of_parts c prefix back joined.1,
  );
  split = split_by_first;
  last = λ c text prefix back. (
    λ cut. parts_of_last c text (prefix, back) cut,
    λ joined. ap (cut_last c) joined.0 ∙ last_of_parts c prefix back (last_nowhere c back joined.1),
  );
}
