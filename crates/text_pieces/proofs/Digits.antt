-- Decimal digits, and what they are read as.
use Rattle.std.proofs.Common.{◌≡◌, ℕ, ◌<◌, ◌≤◌, ◌^◌, List, [], ◌∷◌, Bool, true, false, not, ◌&&◌, ◌||◌, Some, None, Result, Ok, Err, eqb, get_or, length, refl, ap, ◌∙◌, sym, ltb, arith, subst, zero, suc}
use Rattle.std.specs.Result.{OkIff, result_ok}
use Rattle.std.specs.Char.{is_ascii_digit}
use Rattle.std.specs.Fmt.{decimal}
use Rattle.std.specs.List.{list_all}
use Rattle.std.specs.Str.{all_ascii_digits, IsUtf8}
use Rattle.std.specs.Str.Parse.{digits_value}
use Rattle.std.proofs.lemmas.Bool.{and_parts, eqb-true, lt-ltb, ltb-true, ne_eqb}
use Rattle.std.proofs.lemmas.Fmt.{IsAscii-from_digits, decimal-digits_value, decimal_digit, decimal_nonempty, digits_decimal, digits_value-decimal, first_decimal}
use Rattle.std.proofs.lemmas.Str.{IsUtf8-from_ascii}
use Rattle.std.proofs.lemmas.Str.Parse.{IsNumeralModel, numerals_by_value, tells_all_ascii_digits}
use Rattle.text_pieces.specs.Cuts.{cut_last}
use Rattle.text_pieces.specs.Laws.{AreNumbersReadBack, has_byte}
use Rattle.text_pieces.specs.Numbers.{are_digits, is_plain, number_below, plain_number_below}
use Rattle.text_pieces.proofs.Cutting.{last_nowhere, never, none_in, same}

pub own : IsNumeralModel (λ ds. all_ascii_digits ds ≡ true) (digits_value 10)
own = numerals_by_value _ tells_all_ascii_digits

pub digits_same : (bs : List ℕ) → list_all is_ascii_digit bs ≡ all_ascii_digits bs
digits_same [] = refl
digits_same (b ∷ bs) = ap (λ t. is_ascii_digit b && t) (digits_same bs)

-- what a text of digits parses as
pub number_read : {E : Type 0} (bound : ℕ) (bs : List ℕ) (r : Result ℕ E)
    → OkIff r ((all_ascii_digits bs ≡ true) × (0 < length bs) × (digits_value 10 bs < bound)) (digits_value 10 bs)
    → result_ok r ≡ number_below bound bs
number_read bound bs (Ok x) (facts, is) =
    let some : ltb 0 (length bs) ≡ true = lt-ltb 0 (length bs) facts.1 in
    let small : ltb (digits_value 10 bs) bound ≡ true = lt-ltb (digits_value 10 bs) bound facts.2 in
    rw (some, facts.0, small) (ap Some is)
number_read bound bs (Err e) refused = by (ltb 0 (length bs)) refl (all_ascii_digits bs) refl (ltb (digits_value 10 bs) bound) refl
  where
    by : (a : Bool) → ltb 0 (length bs) ≡ a → (b : Bool) → all_ascii_digits bs ≡ b → (d : Bool) → ltb (digits_value 10 bs) bound ≡ d → None ≡ number_below bound bs
    by true p true q true s = absurd (refused (q, ltb-true _ _ p, ltb-true _ _ s))
    by true p true q false s = rw (p, q, s)
    by true p false q d s = rw (p, q)
    by false p b q d s = rw p

-- what is no text is no number
pub no_number : (bound : ℕ) (bs : List ℕ) → (IsUtf8 bs → ⊥) → None ≡ number_below bound bs
no_number bound bs is_none = by (ltb 0 (length bs)) refl (all_ascii_digits bs) refl
  where
    by : (a : Bool) → ltb 0 (length bs) ≡ a → (b : Bool) → all_ascii_digits bs ≡ b → None ≡ number_below bound bs
    by true p true q = absurd (is_none (IsUtf8-from_ascii bs (IsAscii-from_digits bs (own.to bs q))))
    by true p false q = rw (p, q)
    by false p b q = rw p

-- ---- plain digits

pub plain_parts : (bs : List ℕ) → is_plain bs ≡ true
    → (0 < length bs) × (all_ascii_digits bs ≡ true) × ((not (eqb (get_or bs 0 0) 48) || eqb (length bs) 1) ≡ true)
plain_parts bs plain =
    let parts = and_parts (are_digits bs) _ plain in
    let some = and_parts (ltb 0 (length bs)) _ parts.0 in
    (ltb-true _ _ some.0, some.1, parts.1)

-- digits that do not begin with a zero, or are one, are read alike
pub plain_same : (bound : ℕ) (bs : List ℕ) → (not (eqb (get_or bs 0 0) 48) || eqb (length bs) 1) ≡ true → number_below bound bs ≡ plain_number_below bound bs
plain_same bound bs lead = by (are_digits bs) refl
  where
    by : (d : Bool) → are_digits bs ≡ d → number_below bound bs ≡ plain_number_below bound bs
    by true e = rw (e, lead) refl
    by false e = rw e refl

lead_of : (bs : List ℕ) → (not (eqb (get_or bs 0 0) 48) || eqb (length bs) 1) ≡ true → get_or bs 0 0 ≡ 48 → length bs ≡ 1
lead_of bs lead zero_first =
    let one : eqb (length bs) 1 ≡ true = subst (λ b. (not (eqb b 48) || eqb (length bs) 1) ≡ true) zero_first lead in
    eqb-true (length bs) 1 one

-- plain digits that are read are the number as it is written
pub plain_encoded : (bound : ℕ) (bs : List ℕ) (n : ℕ) → bound ≤ 2 ^ 64 → plain_number_below bound bs ≡ Some n → (bs ≡ decimal n) × (n < bound)
plain_encoded bound bs n wide e = by (is_plain bs) refl (ltb (digits_value 10 bs) bound) refl
  where
    by : (a : Bool) → is_plain bs ≡ a → (d : Bool) → ltb (digits_value 10 bs) bound ≡ d → (bs ≡ decimal n) × (n < bound)
    by true p true s =
        let low : digits_value 10 bs < bound = ltb-true _ _ s in
        let value : digits_value 10 bs ≡ n = same (digits_value 10 bs) n (rw (p, s) at e) in
        let facts = plain_parts bs p in
        let back : decimal (digits_value 10 bs) ≡ bs = decimal-digits_value own bs facts.1 facts.0 (lead_of bs facts.2) (omega (arith, low, wide)) in
        (sym back ∙ ap decimal value, omega (arith, low, value))
    by true p false s = absurd (never n (rw (p, s) at e))
    by false p d s = absurd (never n (rw p at e))

-- and the reading that allows zeros says the same
pub plain_allowed : (bound : ℕ) (bs : List ℕ) (n : ℕ) → plain_number_below bound bs ≡ Some n → number_below bound bs ≡ Some n
plain_allowed bound bs n e = by (is_plain bs) refl
  where
    by : (a : Bool) → is_plain bs ≡ a → number_below bound bs ≡ Some n
    by true p = plain_same bound bs (plain_parts bs p).2 ∙ e
    by false p = absurd (never n (rw p at e))

-- what `decimal` writes

pub starts_well : (n : ℕ) → n < 2 ^ 64 → (not (eqb (get_or (decimal n) 0 0) 48) || eqb (length (decimal n)) 1) ≡ true
starts_well zero small = rw (decimal_digit 0 (omega arith)) refl
starts_well (suc n) small =
    let first : 48 < get_or (decimal (suc n)) 0 0 = first_decimal (suc n) (omega arith) small in
    let other : eqb (get_or (decimal (suc n)) 0 0) 48 ≡ false = ne_eqb (get_or (decimal (suc n)) 0 0) 48 (λ e. omega (arith, e, first)) in
    rw other refl

pub digits : (n : ℕ) → n < 2 ^ 64 → list_all is_ascii_digit (decimal n) ≡ true
digits n small = digits_same (decimal n) ∙ digits_decimal own n small

pub number_decimal : (bound n : ℕ) → n < bound → n < 2 ^ 64 → number_below bound (decimal n) ≡ Some n
number_decimal bound n below small =
    rw (lt-ltb 0 _ (decimal_nonempty n small), digits_decimal own n small, digits_value-decimal own n small, lt-ltb n bound below) refl

pub plain : (n : ℕ) → n < 2 ^ 64 → is_plain (decimal n) ≡ true
plain n small = rw (lt-ltb 0 _ (decimal_nonempty n small), digits_decimal own n small) (starts_well n small)

pub plain_decimal : (bound n : ℕ) → n < bound → n < 2 ^ 64 → plain_number_below bound (decimal n) ≡ Some n
plain_decimal bound n below small = rw (plain n small, digits_value-decimal own n small, lt-ltb n bound below) refl

-- no byte of a number is of another kind
pub none_in_decimal : (c n : ℕ) → n < 2 ^ 64 → is_ascii_digit c ≡ false → has_byte c (decimal n) ≡ false
none_in_decimal c n small out = none_in c is_ascii_digit (decimal n) out (digits n small)

pub uncut : (c n : ℕ) → n < 2 ^ 64 → is_ascii_digit c ≡ false → cut_last c (decimal n) ≡ None
uncut c n small out = last_nowhere c (decimal n) (none_in_decimal c n small out)

-- ---- the law

pub read_back : AreNumbersReadBack
read_back = record {
  plain = λ bound digits n wide. (
    plain_encoded bound digits n wide,
    λ written. ap (plain_number_below bound) written.0 ∙ plain_decimal bound n written.1 (omega (arith, wide, written.1)),
  );
  same = plain_allowed;
}
