-- Each line of the text of a size as it is read, written.
use Rattle.std.proofs.Common.{◌≡◌, ℕ, ◌^◌, ◌<◌, List, ◌∷◌, ◌++◌, Bool, true, false, ◌&&◌, Option, Some, None, option_map, length, take, drop, ltb, append_assoc, refl, ap, sym, ◌∙◌, subst, arith}
use Rattle.std.specs.Prelude.{codes}
use Rattle.std.specs.Fmt.{decimal}
use Rattle.std.specs.Option.{option_map_or}
use Rattle.std.specs.Str.{bytes_eq}
use Rattle.std.proofs.lemmas.Bool.{and_parts, ltb-true}
use Rattle.std.proofs.lemmas.List.{take-append-drop}
use Rattle.std.proofs.lemmas.Slice.Eq.{bytes_eq-Decides}
use Rattle.pool_settings.specs.Names.{is_machine_name, is_name}
use Rattle.pool_report.specs.Law.{Encodes}
use Rattle.pool_report.specs.Lines.{ReportLine, after_word, count_after, line_of}
use Rattle.pool_report.proofs.Encoded.{lines_encoded}
use Rattle.size_report.specs.Grammar.{IsLevelOrNone}
use Rattle.size_report.specs.Lines.{SizeLine, above_most, above_most_in, add, add_in, first, keyed, level, level_in, no_machine, no_machine_in, on, on_in, shared, size_line_of, small, too_many, too_many_in}
use Rattle.size_report.specs.Text.{above_most_line, add_line, level_line, no_machine_line, on_line, too_many_line}
use Rattle.text_pieces.specs.Cuts.{cut_last}
use Rattle.text_pieces.specs.Lines.{ended}
use Rattle.text_pieces.specs.Numbers.{plain_number_below}
use Rattle.text_pieces.proofs.Cutting.{never, parts_of_last, same}
use Rattle.text_pieces.proofs.Digits.{plain_encoded}

-- The text is a line with its line feed, written as what it says.
abbrev pub IsLineOf : List ℕ → SizeLine → Type 0
IsLineOf text first = text ≡ ended (codes "size 1")
IsLineOf text level = (asked : Option ℕ) × IsLevelOrNone asked × (text ≡ level_line asked)
IsLineOf text add = (many : ℕ) × (many < 2 ^ 32) × (text ≡ add_line many)
IsLineOf text (on machine many) = text ≡ on_line machine many
IsLineOf text (above_most f need most) = (need < 2 ^ 32) × (most < 2 ^ 32) × (text ≡ above_most_line f need most)
IsLineOf text (no_machine f need) = (need < 2 ^ 32) × (text ≡ no_machine_line f need)
IsLineOf text (too_many many) = (many < 2 ^ 64) × (text ≡ too_many_line many)
IsLineOf text (shared line) = Encodes text line

-- ---- parts

after_parts : (word line rest : List ℕ) → after_word word line ≡ Some rest → line ≡ word ++ rest
after_parts word line rest e = by (bytes_eq (take (length word) line) word) refl
  where
    by : (d : Bool) → bytes_eq (take (length word) line) word ≡ d → line ≡ word ++ rest
    by true is =
        let back : drop (length word) line ≡ rest = same (drop (length word) line) rest (rw is at e) in
        sym (take-append-drop (length word) line) ∙ ap (λ prefix. prefix ++ drop (length word) line) ((bytes_eq-Decides (take (length word) line) word).0 is)
        ∙ ap (λ b. word ++ b) back
    by false other = absurd (never rest (rw other at e))

-- words, a name, words and a name
spaced : (prefix name middle back : List ℕ) → prefix ++ (name ++ (middle ++ back)) ≡ ((prefix ++ name) ++ middle) ++ back
spaced prefix name middle back = sym (append_assoc (prefix ++ name) middle back ∙ append_assoc prefix name (middle ++ back))

-- what stands before a word and a number
abbrev IsCounted : List ℕ → List ℕ → List ℕ × ℕ → Type 0
IsCounted word rest pair = (pair.1 < 2 ^ 64) × (rest ≡ pair.0 ++ (32 ∷ (word ++ (32 ∷ decimal pair.1))))

counted_parts : (word rest : List ℕ) (pair : List ℕ × ℕ) → count_after word rest ≡ Some pair → IsCounted word rest pair
counted_parts word rest pair e = outer (cut_last 32 rest) refl
  where
    worded : (parts inner : List ℕ × List ℕ) (n : ℕ) → cut_last 32 rest ≡ Some parts → plain_number_below (2 ^ 64) parts.1 ≡ Some n → cut_last 32 parts.0 ≡ Some inner
        → (d : Bool) → bytes_eq inner.1 word ≡ d → IsCounted word rest pair
    worded parts inner n cut number within false other = absurd (never pair (rw (cut, number, within, other) at e))
    worded parts inner n cut number within true holds =
        let tells : (inner.0, n) ≡ pair = same (inner.0, n) pair (rw (cut, number, within, holds) at e) in
        let digits = plain_encoded (2 ^ 64) parts.1 n (omega arith) number in
        let prefix : parts.0 ≡ inner.0 ++ (32 ∷ word) = (parts_of_last 32 parts.0 inner within).0 ∙ ap (λ w. inner.0 ++ (32 ∷ w)) ((bytes_eq-Decides inner.1 word).0 holds) in
        rw (← tells)
        (digits.1, (parts_of_last 32 rest parts cut).0 ∙ ap (λ t. t ++ (32 ∷ parts.1)) prefix ∙ ap (λ t. (inner.0 ++ (32 ∷ word)) ++ (32 ∷ t)) digits.0 ∙ append_assoc inner.0 (32 ∷ word) (32 ∷ decimal n))

    inside : (parts : List ℕ × List ℕ) (n : ℕ) → cut_last 32 rest ≡ Some parts → plain_number_below (2 ^ 64) parts.1 ≡ Some n
        → (o : Option (List ℕ × List ℕ)) → cut_last 32 parts.0 ≡ o → IsCounted word rest pair
    inside parts n cut number None none = absurd (never pair (rw (cut, number, none) at e))
    inside parts n cut number (Some inner) within = worded parts inner n cut number within (bytes_eq inner.1 word) refl

    counts : (parts : List ℕ × List ℕ) → cut_last 32 rest ≡ Some parts → (o : Option ℕ) → plain_number_below (2 ^ 64) parts.1 ≡ o → IsCounted word rest pair
    counts parts cut None none = absurd (never pair (rw (cut, none) at e))
    counts parts cut (Some n) number = inside parts n cut number (cut_last 32 parts.0) refl

    outer : (o : Option (List ℕ × List ℕ)) → cut_last 32 rest ≡ o → IsCounted word rest pair
    outer None none = absurd (never pair (rw none at e))
    outer (Some parts) cut = counts parts cut (plain_number_below (2 ^ 64) parts.1) refl

-- ---- each kind of line, from what comes after its first words

level_back : (rest : List ℕ) (told : SizeLine) → level_in rest ≡ Some told → IsLineOf (ended (codes "level " ++ rest)) told
level_back rest told e = by (bytes_eq rest (codes "-")) refl
  where
    some : bytes_eq rest (codes "-") ≡ false → (n : ℕ) → plain_number_below (2 ^ 32) rest ≡ Some n → (d : Bool) → ltb 0 n ≡ d → IsLineOf (ended (codes "level " ++ rest)) told
    some other n is false none = absurd (never told (rw (other, is, none) at e))
    some other n is true above =
        let tells : level ≡ told = same level told (rw (other, is, above) at e) in
        let number = plain_encoded (2 ^ 32) rest n (omega arith) is in
        rw (← tells) (Some n, (ltb-true 0 n above, number.1), ap (λ t. ended (codes "level " ++ t)) number.0)

    numbered : bytes_eq rest (codes "-") ≡ false → (o : Option ℕ) → plain_number_below (2 ^ 32) rest ≡ o → IsLineOf (ended (codes "level " ++ rest)) told
    numbered other None none = absurd (never told (rw (other, none) at e))
    numbered other (Some n) is = some other n is (ltb 0 n) refl

    by : (d : Bool) → bytes_eq rest (codes "-") ≡ d → IsLineOf (ended (codes "level " ++ rest)) told
    by true dash =
        let tells : level ≡ told = same level told (rw dash at e) in
        rw (← tells) (None, tt, ap (λ t. ended (codes "level " ++ t)) ((bytes_eq-Decides rest (codes "-")).0 dash))
    by false other = numbered other (plain_number_below (2 ^ 32) rest) refl

add_back : (rest : List ℕ) (told : SizeLine) → add_in rest ≡ Some told → IsLineOf (ended (codes "add " ++ rest)) told
add_back rest told e = by (plain_number_below (2 ^ 32) rest) refl
  where
    by : (o : Option ℕ) → plain_number_below (2 ^ 32) rest ≡ o → IsLineOf (ended (codes "add " ++ rest)) told
    by None none = absurd (never told (rw none at e))
    by (Some n) is =
        let tells : add ≡ told = same add told (rw is at e) in
        let number = plain_encoded (2 ^ 32) rest n (omega arith) is in
        rw (← tells) (n, number.1, ap (λ t. ended (codes "add " ++ t)) number.0)

on_back : (rest : List ℕ) (told : SizeLine) → on_in rest ≡ Some told → IsLineOf (ended (codes "on " ++ rest)) told
on_back rest told e = by (cut_last 32 rest) refl
  where
    named : (parts : List ℕ × List ℕ) (n : ℕ) → cut_last 32 rest ≡ Some parts → plain_number_below (2 ^ 32) parts.1 ≡ Some n
        → (d : Bool) → is_machine_name parts.0 ≡ d → IsLineOf (ended (codes "on " ++ rest)) told
    named parts n cut is false other = absurd (never told (rw (cut, is, other) at e))
    named parts n cut is true holds =
        let tells : on parts.0 n ≡ told = same (on parts.0 n) told (rw (cut, is, holds) at e) in
        let number = plain_encoded (2 ^ 32) parts.1 n (omega arith) is in
        rw (← tells)
        (ap ended (ap (λ t. codes "on " ++ t) ((parts_of_last 32 rest parts cut).0 ∙ ap (λ t. parts.0 ++ (32 ∷ t)) number.0) ∙ spaced (codes "on ") parts.0 (codes " ") (decimal n)))

    numbered : (parts : List ℕ × List ℕ) → cut_last 32 rest ≡ Some parts → (o : Option ℕ) → plain_number_below (2 ^ 32) parts.1 ≡ o → IsLineOf (ended (codes "on " ++ rest)) told
    numbered parts cut None none = absurd (never told (rw (cut, none) at e))
    numbered parts cut (Some n) is = named parts n cut is (is_machine_name parts.0) refl

    by : (o : Option (List ℕ × List ℕ)) → cut_last 32 rest ≡ o → IsLineOf (ended (codes "on " ++ rest)) told
    by None none = absurd (never told (rw none at e))
    by (Some parts) cut = numbered parts cut (plain_number_below (2 ^ 32) parts.1) refl

above_most_back : (rest : List ℕ) (told : SizeLine) → above_most_in rest ≡ Some told → IsLineOf (ended (codes "cannot 1 " ++ rest)) told
above_most_back rest told e = by (count_after (codes "most") rest) refl
  where
    tested : (outer inner : List ℕ × ℕ) → count_after (codes "most") rest ≡ Some outer → count_after (codes "need") outer.0 ≡ Some inner
        → (d : Bool) → (is_name inner.0 && (small inner.1 && small outer.1)) ≡ d → IsLineOf (ended (codes "cannot 1 " ++ rest)) told
    tested outer inner whole within false other = absurd (never told (rw (whole, within, other) at e))
    tested outer inner whole within true holds =
        let tells : above_most inner.0 inner.1 outer.1 ≡ told = same (above_most inner.0 inner.1 outer.1) told (rw (whole, within, holds) at e) in
        let fit = and_parts (small inner.1) (small outer.1) (and_parts (is_name inner.0) (small inner.1 && small outer.1) holds).1 in
        let back = counted_parts (codes "most") rest outer whole in
        let prefix = counted_parts (codes "need") outer.0 inner within in
        let needed = inner.0 ++ (codes " need " ++ decimal inner.1) in
        let shape : codes "cannot 1 " ++ rest ≡ ((codes "cannot 1 " ++ needed) ++ codes " most ") ++ decimal outer.1 =
        ap (λ t. codes "cannot 1 " ++ t) (back.1 ∙ ap (λ t. t ++ (codes " most " ++ decimal outer.1)) prefix.1) ∙ spaced (codes "cannot 1 ") needed (codes " most ") (decimal outer.1) in
        rw (← tells) (
          ltb-true inner.1 (2 ^ 32) fit.0,
          ltb-true outer.1 (2 ^ 32) fit.1,
          ap ended (shape ∙ ap (λ t. (t ++ codes " most ") ++ decimal outer.1) (spaced (codes "cannot 1 ") inner.0 (codes " need ") (decimal inner.1))),
        )

    inside : (outer : List ℕ × ℕ) → count_after (codes "most") rest ≡ Some outer → (o : Option (List ℕ × ℕ)) → count_after (codes "need") outer.0 ≡ o
        → IsLineOf (ended (codes "cannot 1 " ++ rest)) told
    inside outer whole None none = absurd (never told (rw (whole, none) at e))
    inside outer whole (Some inner) within = tested outer inner whole within (is_name inner.0 && (small inner.1 && small outer.1)) refl

    by : (o : Option (List ℕ × ℕ)) → count_after (codes "most") rest ≡ o → IsLineOf (ended (codes "cannot 1 " ++ rest)) told
    by None none = absurd (never told (rw none at e))
    by (Some outer) whole = inside outer whole (count_after (codes "need") outer.0) refl

no_machine_back : (rest : List ℕ) (told : SizeLine) → no_machine_in rest ≡ Some told → IsLineOf (ended (codes "cannot 2 " ++ rest)) told
no_machine_back rest told e = by (count_after (codes "need") rest) refl
  where
    tested : (pair : List ℕ × ℕ) → count_after (codes "need") rest ≡ Some pair → (d : Bool) → (is_name pair.0 && small pair.1) ≡ d
        → IsLineOf (ended (codes "cannot 2 " ++ rest)) told
    tested pair whole false other = absurd (never told (rw (whole, other) at e))
    tested pair whole true holds =
        let tells : no_machine pair.0 pair.1 ≡ told = same (no_machine pair.0 pair.1) told (rw (whole, holds) at e) in
        let fit = (and_parts (is_name pair.0) (small pair.1) holds).1 in
        let parts = counted_parts (codes "need") rest pair whole in
        rw (← tells) (
          ltb-true pair.1 (2 ^ 32) fit,
          ap ended (ap (λ t. codes "cannot 2 " ++ t) parts.1 ∙ spaced (codes "cannot 2 ") pair.0 (codes " need ") (decimal pair.1)),
        )

    by : (o : Option (List ℕ × ℕ)) → count_after (codes "need") rest ≡ o → IsLineOf (ended (codes "cannot 2 " ++ rest)) told
    by None none = absurd (never told (rw none at e))
    by (Some pair) whole = tested pair whole (is_name pair.0 && small pair.1) refl

too_many_back : (rest : List ℕ) (told : SizeLine) → too_many_in rest ≡ Some told → IsLineOf (ended (codes "cannot 3 add " ++ rest)) told
too_many_back rest told e = by (plain_number_below (2 ^ 64) rest) refl
  where
    by : (o : Option ℕ) → plain_number_below (2 ^ 64) rest ≡ o → IsLineOf (ended (codes "cannot 3 add " ++ rest)) told
    by None none = absurd (never told (rw none at e))
    by (Some n) is =
        let tells : too_many n ≡ told = same (too_many n) told (rw is at e) in
        let number = plain_encoded (2 ^ 64) rest n (omega arith) is in
        rw (← tells) (number.1, ap (λ t. ended (codes "cannot 3 add " ++ t)) number.0)

-- ---- lines

tried : (word line : List ℕ) (told : SizeLine) (inner : List ℕ → Option SizeLine) (other : Option SizeLine)
    → ((rest : List ℕ) → inner rest ≡ Some told → IsLineOf (ended (word ++ rest)) told)
    → (other ≡ Some told → IsLineOf (ended line) told)
    → option_map_or inner (after_word word line) other ≡ Some told → IsLineOf (ended line) told
tried word line told inner other here there e = by (after_word word line) refl
  where
    by : (o : Option (List ℕ)) → after_word word line ≡ o → IsLineOf (ended line) told
    by None none = there (rw none at e)
    by (Some rest) is = subst (λ t. IsLineOf (ended t) told) (sym (after_parts word line rest is)) (here rest (rw is at e))

shared_back : (line : List ℕ) (told : SizeLine) (o : Option ReportLine) → line_of line ≡ o → option_map (λ r. shared r) o ≡ Some told → IsLineOf (ended line) told
shared_back line told None none e = absurd (never told e)
shared_back line told (Some r) is e =
    let tells : shared r ≡ told = same (shared r) told e in
    rw (← tells) (lines_encoded line r is)

keyed_back : (line : List ℕ) (told : SizeLine) → keyed line ≡ Some told → IsLineOf (ended line) told
keyed_back line told =
    tried (codes "level ") line told level_in _ (λ rest. level_back rest told)
    (tried (codes "add ") line told add_in _ (λ rest. add_back rest told)
    (tried (codes "on ") line told on_in _ (λ rest. on_back rest told)
    (tried (codes "cannot 1 ") line told above_most_in _ (λ rest. above_most_back rest told)
    (tried (codes "cannot 2 ") line told no_machine_in _ (λ rest. no_machine_back rest told)
    (tried (codes "cannot 3 add ") line told too_many_in _ (λ rest. too_many_back rest told)
    (shared_back line told (line_of line) refl))))))

pub line_back : (line : List ℕ) (told : SizeLine) → size_line_of line ≡ Some told → IsLineOf (ended line) told
line_back line told e = by (bytes_eq line (codes "size 1")) refl
  where
    by : (d : Bool) → bytes_eq line (codes "size 1") ≡ d → IsLineOf (ended line) told
    by true holds = let tells : first ≡ told = same first told (rw holds at e) in rw (← tells) (ap ended ((bytes_eq-Decides line (codes "size 1")).0 holds))
    by false other = keyed_back line told (rw other at e)
