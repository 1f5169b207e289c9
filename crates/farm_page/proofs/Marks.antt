-- Texts in which each byte of a kind is followed by one of some texts.
use Rattle.std.proofs.Common.{◌≡◌, ℕ, ◌^◌, ◌<◌, List, [], ◌∷◌, ◌++◌, Bool, true, false, length, drop, eqb, append_assoc, append-nil, ◌≤◌, refl, ap, sym, ◌∙◌, inl, inr}
use Rattle.std.specs.Prelude.{Result, Ok, Err, OnErr, OnOk, nat_eq, ◌==◌, if◌then◌else◌}
use Rattle.std.specs.Char.{is_ascii_digit}
use Rattle.std.specs.Fmt.{decimal}
use Rattle.std.specs.List.{list_all, list_any, starts_with}
use Rattle.std.proofs.lemmas.Bool.{and_from, and_parts, cond_both, false≢true, ne_eqb, or_cases, or_left, or_right}
use Rattle.std.proofs.lemmas.Bool.Decides.{Decides-eqb}
use Rattle.std.proofs.lemmas.List.{drop_all}
use Rattle.std.proofs.lemmas.List.Folds.{list_all-append}
use Rattle.std.proofs.lemmas.Slice.Eq.{starts_is}
use Rattle.text_pieces.proofs.Digits.{digits}
use Rattle.farm_page.specs.Escaping.{is_control, is_followed, opens_nothing, page_byte, page_text}
use Rattle.farm_page.specs.Markup.{entities, is_markup, tags}

starts_more : (s p t : List ℕ) → starts_with nat_eq s p ≡ true → starts_with nat_eq (s ++ t) p ≡ true
starts_more s p t begins =
    let whole = (starts_is Decides-eqb s p _ refl).0 begins in
    (starts_is Decides-eqb (s ++ t) p _ refl).1 (drop (length p) s ++ t) (ap (λ u. u ++ t) whole ∙ append_assoc p (drop (length p) s) t)

any_more : (s t : List ℕ) (nexts : List (List ℕ))
    → list_any (starts_with nat_eq s) nexts ≡ true → list_any (starts_with nat_eq (s ++ t)) nexts ≡ true
any_more s t [] begins = begins
any_more s t (p ∷ nexts) begins =
    elim (or_cases (starts_with nat_eq s p) (list_any (starts_with nat_eq s) nexts) begins) [
      | inl first ↦ or_left _ _ (starts_more s p t first)
      | inr later ↦ or_right _ _ (any_more s t nexts later)
    ]

head_more : (is_lead : Bool) (s t : List ℕ) (nexts : List (List ℕ))
    → (if is_lead then list_any (starts_with nat_eq s) nexts else true) ≡ true
    → (if is_lead then list_any (starts_with nat_eq (s ++ t)) nexts else true) ≡ true
head_more true s t nexts begins = any_more s t nexts begins
head_more false s t nexts begins = refl

-- one such text after another
is_followed-append : (lead : ℕ) (nexts : List (List ℕ)) (s t : List ℕ)
    → is_followed lead nexts s ≡ true → is_followed lead nexts t ≡ true → is_followed lead nexts (s ++ t) ≡ true
is_followed-append lead nexts [] t left right = right
is_followed-append lead nexts (b ∷ s) t left right =
    let parts = and_parts (if b == lead then list_any (starts_with nat_eq s) nexts else true) (is_followed lead nexts s) left in
    and_from _ _ (head_more (b == lead) s t nexts parts.0) (is_followed-append lead nexts s t parts.1 right)

-- a text without such a byte
followed_nowhere : (lead : ℕ) (nexts : List (List ℕ)) (test : ℕ → Bool) (text : List ℕ)
    → test lead ≡ false → list_all test text ≡ true → is_followed lead nexts text ≡ true
followed_nowhere lead nexts test [] out all = refl
followed_nowhere lead nexts test (b ∷ text) out all =
    let parts = and_parts (test b) (list_all test text) all in
    let other : eqb b lead ≡ false = ne_eqb b lead (λ e. false≢true (sym out ∙ ap test (sym e) ∙ parts.0)) in
    rw (other, followed_nowhere lead nexts test text out parts.1) refl

-- ---- markup

is_markup-append : (s t : List ℕ) → is_markup s ≡ true → is_markup t ≡ true → is_markup (s ++ t) ≡ true
is_markup-append s t left right =
    let a = and_parts (is_followed 60 tags s) (is_followed 38 entities s) left in
    let b = and_parts (is_followed 60 tags t) (is_followed 38 entities t) right in
    and_from _ _ (is_followed-append 60 tags s t a.0 b.0) (is_followed-append 38 entities s t a.1 b.1)

pub is_markup-decimal : (n : ℕ) → n < 2 ^ 64 → is_markup (decimal n) ≡ true
is_markup-decimal n small =
    and_from _ _ (followed_nowhere 60 tags is_ascii_digit (decimal n) refl (digits n small))
    (followed_nowhere 38 entities is_ascii_digit (decimal n) refl (digits n small))

is_markup-page_byte : (b : ℕ) → is_markup (page_byte b) ≡ true
is_markup-page_byte b =
    let P : List ℕ → Type 0 = λ t. is_markup t ≡ true in
    cond_both (b == 60) _ _ P (λ e. refl) (λ no_tag.
    cond_both (b == 62) _ _ P (λ e. refl) (λ n.
    cond_both (b == 38) _ _ P (λ e. refl) (λ no_entity.
    cond_both (b == 34) _ _ P (λ e. refl) (λ n.
    cond_both (b == 39) _ _ P (λ e. refl) (λ n.
    cond_both (is_control b) _ _ P (λ e. refl) (λ n.
    rw (no_tag, no_entity) refl))))))

pub is_markup-page_text : (text : List ℕ) → is_markup (page_text text) ≡ true
is_markup-page_text [] = refl
is_markup-page_text (b ∷ text) = is_markup-append (page_byte b) (page_text text) (is_markup-page_byte b) (is_markup-page_text text)

-- after a text was added, or none
pub still_markup : {E : Type 0} (r : Result (Unit {0}) E) (old text new : List ℕ) → is_markup old ≡ true → is_markup text ≡ true
    → OnOk r (new ≡ old ++ text) → OnErr r (new ≡ old) → is_markup new ≡ true
still_markup (Ok u) old text new before added ok err = rw ok (is_markup-append old text before added)
still_markup (Err e) old text new before added ok err = rw err before

-- ---- a text by itself

opens_nothing-page_byte : (b : ℕ) → list_all opens_nothing (page_byte b) ≡ true
opens_nothing-page_byte b =
    let P : List ℕ → Type 0 = λ t. list_all opens_nothing t ≡ true in
    cond_both (b == 60) _ _ P (λ e. refl) (λ no_less.
    cond_both (b == 62) _ _ P (λ e. refl) (λ no_greater.
    cond_both (b == 38) _ _ P (λ e. refl) (λ n.
    cond_both (b == 34) _ _ P (λ e. refl) (λ no_double.
    cond_both (b == 39) _ _ P (λ e. refl) (λ no_single.
    cond_both (is_control b) _ _ P (λ e. refl) (λ n.
    rw (no_less, no_greater, no_double, no_single) refl))))))

pub opens_nothing-page_text : (text : List ℕ) → list_all opens_nothing (page_text text) ≡ true
opens_nothing-page_text [] = refl
opens_nothing-page_text (b ∷ text) =
    list_all-append opens_nothing (page_byte b) (page_text text)
    ∙ and_from _ _ (opens_nothing-page_byte b) (opens_nothing-page_text text)

pub entities-page_text : (text : List ℕ) → is_followed 38 entities (page_text text) ≡ true
entities-page_text text = (and_parts (is_followed 60 tags (page_text text)) _ (is_markup-page_text text)).1

-- the words of a whole text, once no byte of it is left
pub all_written : (words text : List ℕ) (i : ℕ) → words ++ page_text (drop i text) ≡ page_text text → length text ≤ i → words ≡ page_text text
all_written words text i written none_left =
    sym (append-nil words) ∙ ap (λ rest. words ++ page_text rest) (sym (drop_all i text none_left)) ∙ written

pub still_markup_if : (b : Bool) (old text new : List ℕ) → is_markup old ≡ true → is_markup text ≡ true
    → new ≡ (if b then old ++ text else old) → is_markup new ≡ true
still_markup_if true old text new before added is = rw is (is_markup-append old text before added)
still_markup_if false old text new before added is = rw is before
