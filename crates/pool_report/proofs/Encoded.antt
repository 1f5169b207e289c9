-- Each line as it is read, written.
use Rattle.std.proofs.Common.{◌≡◌, ℕ, ◌+◌, ◌^◌, ◌<◌, List, ◌∷◌, ◌++◌, Bool, true, false, ◌&&◌, Option, Some, None, length, take, drop, ltb, append_assoc, refl, ap, sym, ◌∙◌, subst, arith}
use Rattle.std.specs.Prelude.{codes}
use Rattle.std.specs.Fmt.{decimal}
use Rattle.std.specs.Option.{option_map_or}
use Rattle.std.specs.Str.{bytes_eq}
use Rattle.std.proofs.lemmas.Bool.{and_parts, ltb-true, lt-ltb, le-ltb}
use Rattle.std.proofs.lemmas.List.{take-append-drop}
use Rattle.std.proofs.lemmas.Slice.Eq.{bytes_eq-Decides}
use Rattle.pool_settings.specs.Names.{is_name}
use Rattle.pool_report.specs.Law.{Encodes}
use Rattle.pool_report.specs.Lines.{ReportLine, after_word, backlog, backlog_in, count_after, head, idle_in, is_worker, keyed, last, line_of, needed, needed_in, no_plan, short, short_in, stranded, stranded_in, task, unserved_in, work_in}
use Rattle.text_pieces.specs.Lines.{ended}
use Rattle.text_pieces.specs.Cuts.{cut_last}
use Rattle.text_pieces.specs.Numbers.{plain_number_below}
use Rattle.text_pieces.proofs.Cutting.{never, parts_of_last, same}
use Rattle.text_pieces.proofs.Digits.{plain_encoded}

-- ---- parts

after_parts : (word line rest : List ℕ) → after_word word line ≡ Some rest → line ≡ word ++ rest
after_parts word line rest e = by (bytes_eq (take (length word) line) word) refl
  where
    by : (d : Bool) → bytes_eq (take (length word) line) word ≡ d → line ≡ word ++ rest
    by true is =
        let back : drop (length word) line ≡ rest = same (drop (length word) line) rest (rw is at e) in
        sym (take-append-drop (length word) line) ∙ ap (λ prefix. prefix ++ drop (length word) line) ((bytes_eq-Decides (take (length word) line) word).0 is)
        ∙ ap (λ b. word ++ b) back
    by false other = absurd (never rest (rw other at e))

-- words, a name, words and a name
spaced : (prefix name middle back : List ℕ) → prefix ++ (name ++ (middle ++ back)) ≡ ((prefix ++ name) ++ middle) ++ back
spaced prefix name middle back = sym (append_assoc (prefix ++ name) middle back ∙ append_assoc prefix name (middle ++ back))

backlog_encoded : (rest : List ℕ) (told : ReportLine) → backlog_in rest ≡ Some told → Encodes (ended (codes "backlog " ++ rest)) told
backlog_encoded rest told e = by (plain_number_below (2 ^ 32) rest) refl
  where
    by : (o : Option ℕ) → plain_number_below (2 ^ 32) rest ≡ o → Encodes (ended (codes "backlog " ++ rest)) told
    by None none = absurd (never told (rw none at e))
    by (Some k) is =
        let tells : backlog k ≡ told = same (backlog k) told (rw is at e) in
        let number = plain_encoded (2 ^ 32) rest k (omega arith) is in
        rw (← tells) (omega (arith, number.1), (λ h. omega (arith, h, number.1)), rw (lt-ltb k (2 ^ 32) number.1) (ap (λ t. ended (codes "backlog " ++ t)) number.0))

unserved_encoded : (rest : List ℕ) (told : ReportLine) → unserved_in rest ≡ Some told → Encodes (ended (codes "unserved " ++ rest)) told
unserved_encoded rest told e = by (plain_number_below (2 ^ 32) rest) refl
  where
    above : (w : ℕ) → plain_number_below (2 ^ 32) rest ≡ Some w → (d : Bool) → ltb 0 w ≡ d → Encodes (ended (codes "unserved " ++ rest)) told
    above w is false other = absurd (never told (rw (is, other) at e))
    above w is true holds =
        let some : 0 < w = ltb-true 0 w holds in
        let tells : backlog (2 ^ 32 + w) ≡ told = same (backlog (2 ^ 32 + w)) told (rw (is, holds) at e) in
        let number = plain_encoded (2 ^ 32) rest w (omega arith) is in
        rw (← tells)
        (omega (arith, number.1), (λ h. omega (arith, h, some)), rw (le-ltb (2 ^ 32 + w) (2 ^ 32) (omega arith)) (ap (λ t. ended (codes "unserved " ++ t)) (number.0 ∙ ap decimal (omega arith))))

    by : (o : Option ℕ) → plain_number_below (2 ^ 32) rest ≡ o → Encodes (ended (codes "unserved " ++ rest)) told
    by None none = absurd (never told (rw none at e))
    by (Some w) is = above w is (ltb 0 w) refl

work_encoded : (rest : List ℕ) (told : ReportLine) → work_in rest ≡ Some told → Encodes (ended (codes "work " ++ rest)) told
work_encoded rest told e = by (cut_last 32 rest) refl
  where
    cut : (parts : List ℕ × List ℕ) → cut_last 32 rest ≡ Some parts → (d : Bool) → (is_worker parts.0 && is_name parts.1) ≡ d → Encodes (ended (codes "work " ++ rest)) told
    cut parts is false other = absurd (never told (rw (is, other) at e))
    cut parts is true holds =
        let tells : task parts.0 (Some parts.1) ≡ told = same (task parts.0 (Some parts.1)) told (rw (is, holds) at e) in
        let names = and_parts (is_worker parts.0) (is_name parts.1) holds in
        rw (← tells) (names.0, names.1, ap ended (ap (λ t. codes "work " ++ t) ((parts_of_last 32 rest parts is).0) ∙ spaced (codes "work ") parts.0 (codes " ") parts.1))

    by : (o : Option (List ℕ × List ℕ)) → cut_last 32 rest ≡ o → Encodes (ended (codes "work " ++ rest)) told
    by None none = absurd (never told (rw none at e))
    by (Some parts) is = cut parts is (is_worker parts.0 && is_name parts.1) refl

idle_encoded : (rest : List ℕ) (told : ReportLine) → idle_in rest ≡ Some told → Encodes (ended (codes "idle " ++ rest)) told
idle_encoded rest told e = by (is_worker rest) refl
  where
    by : (d : Bool) → is_worker rest ≡ d → Encodes (ended (codes "idle " ++ rest)) told
    by false other = absurd (never told (rw other at e))
    by true holds =
        let tells : task rest None ≡ told = same (task rest None) told (rw holds at e) in
        rw (← tells) (holds, tt, refl)

counted_parts : (word rest : List ℕ) (pair : List ℕ × ℕ) → count_after word rest ≡ Some pair
    → (pair.1 < 2 ^ 64) × (rest ≡ pair.0 ++ (32 ∷ (word ++ (32 ∷ decimal pair.1))))
counted_parts word rest pair e = outer (cut_last 32 rest) refl
  where
    worded : (parts inner : List ℕ × List ℕ) (n : ℕ) → cut_last 32 rest ≡ Some parts → plain_number_below (2 ^ 64) parts.1 ≡ Some n → cut_last 32 parts.0 ≡ Some inner
        → (d : Bool) → bytes_eq inner.1 word ≡ d → (pair.1 < 2 ^ 64) × (rest ≡ pair.0 ++ (32 ∷ (word ++ (32 ∷ decimal pair.1))))
    worded parts inner n cut number within false other = absurd (never pair (rw (cut, number, within, other) at e))
    worded parts inner n cut number within true holds =
        let tells : (inner.0, n) ≡ pair = same (inner.0, n) pair (rw (cut, number, within, holds) at e) in
        let digits = plain_encoded (2 ^ 64) parts.1 n (omega arith) number in
        let prefix : parts.0 ≡ inner.0 ++ (32 ∷ word) = (parts_of_last 32 parts.0 inner within).0 ∙ ap (λ w. inner.0 ++ (32 ∷ w)) ((bytes_eq-Decides inner.1 word).0 holds) in
        rw (← tells)
        (digits.1, (parts_of_last 32 rest parts cut).0 ∙ ap (λ t. t ++ (32 ∷ parts.1)) prefix ∙ ap (λ t. (inner.0 ++ (32 ∷ word)) ++ (32 ∷ t)) digits.0 ∙ append_assoc inner.0 (32 ∷ word) (32 ∷ decimal n))

    inside : (parts : List ℕ × List ℕ) (n : ℕ) → cut_last 32 rest ≡ Some parts → plain_number_below (2 ^ 64) parts.1 ≡ Some n
        → (o : Option (List ℕ × List ℕ)) → cut_last 32 parts.0 ≡ o → (pair.1 < 2 ^ 64) × (rest ≡ pair.0 ++ (32 ∷ (word ++ (32 ∷ decimal pair.1))))
    inside parts n cut number None none = absurd (never pair (rw (cut, number, none) at e))
    inside parts n cut number (Some inner) within = worded parts inner n cut number within (bytes_eq inner.1 word) refl

    counts : (parts : List ℕ × List ℕ) → cut_last 32 rest ≡ Some parts → (o : Option ℕ) → plain_number_below (2 ^ 64) parts.1 ≡ o
        → (pair.1 < 2 ^ 64) × (rest ≡ pair.0 ++ (32 ∷ (word ++ (32 ∷ decimal pair.1))))
    counts parts cut None none = absurd (never pair (rw (cut, none) at e))
    counts parts cut (Some n) number = inside parts n cut number (cut_last 32 parts.0) refl

    outer : (o : Option (List ℕ × List ℕ)) → cut_last 32 rest ≡ o → (pair.1 < 2 ^ 64) × (rest ≡ pair.0 ++ (32 ∷ (word ++ (32 ∷ decimal pair.1))))
    outer None none = absurd (never pair (rw none at e))
    outer (Some parts) cut = counts parts cut (plain_number_below (2 ^ 64) parts.1) refl

short_encoded : (rest : List ℕ) (told : ReportLine) → short_in rest ≡ Some told → Encodes (ended (codes "short need " ++ rest)) told
short_encoded rest told e = by (count_after (codes "have") rest) refl
  where
    sums : (pair : List ℕ × ℕ) → count_after (codes "have") rest ≡ Some pair → (o : Option ℕ) → plain_number_below (2 ^ 64) pair.0 ≡ o → Encodes (ended (codes "short need " ++ rest)) told
    sums pair is None none = absurd (never told (rw (is, none) at e))
    sums pair is (Some need) number =
        let tells : short ≡ told = same short told (rw (is, number) at e) in
        let digits = plain_encoded (2 ^ 64) pair.0 need (omega arith) number in
        let parts = counted_parts (codes "have") rest pair is in
        rw (← tells) (
          need,
          pair.1,
          digits.1,
          parts.0,
          ap ended (ap (λ t. codes "short need " ++ t) (parts.1 ∙ ap (λ t. t ++ (codes " have " ++ decimal pair.1)) digits.0)
              ∙ spaced (codes "short need ") (decimal need) (codes " have ") (decimal pair.1)),
        )

    by : (o : Option (List ℕ × ℕ)) → count_after (codes "have") rest ≡ o → Encodes (ended (codes "short need " ++ rest)) told
    by None none = absurd (never told (rw none at e))
    by (Some pair) is = sums pair is (plain_number_below (2 ^ 64) pair.0) refl

needed_encoded : (rest : List ℕ) (told : ReportLine) → needed_in rest ≡ Some told → Encodes (ended (codes "in " ++ rest)) told
needed_encoded rest told e = by (count_after (codes "need") rest) refl
  where
    named : (pair : List ℕ × ℕ) → count_after (codes "need") rest ≡ Some pair → (d : Bool) → is_name pair.0 ≡ d → Encodes (ended (codes "in " ++ rest)) told
    named pair is false other = absurd (never told (rw (is, other) at e))
    named pair is true holds =
        let tells : needed pair.0 ≡ told = same (needed pair.0) told (rw (is, holds) at e) in
        let parts = counted_parts (codes "need") rest pair is in
        rw (← tells) (pair.1, holds, parts.0, ap ended (ap (λ t. codes "in " ++ t) parts.1 ∙ spaced (codes "in ") pair.0 (codes " need ") (decimal pair.1)))

    by : (o : Option (List ℕ × ℕ)) → count_after (codes "need") rest ≡ o → Encodes (ended (codes "in " ++ rest)) told
    by None none = absurd (never told (rw none at e))
    by (Some pair) is = named pair is (is_name pair.0) refl

stranded_encoded : (rest : List ℕ) (told : ReportLine) → stranded_in rest ≡ Some told → Encodes (ended (codes "stranded " ++ rest)) told
stranded_encoded rest told e = by (cut_last 32 rest) refl
  where
    named : (parts : List ℕ × List ℕ) (w : ℕ) → cut_last 32 rest ≡ Some parts → plain_number_below (2 ^ 32) parts.1 ≡ Some w
        → (d : Bool) → is_name parts.0 ≡ d → Encodes (ended (codes "stranded " ++ rest)) told
    named parts w cut number false other = absurd (never told (rw (cut, number, other) at e))
    named parts w cut number true holds =
        let tells : stranded parts.0 ≡ told = same (stranded parts.0) told (rw (cut, number, holds) at e) in
        let digits = plain_encoded (2 ^ 32) parts.1 w (omega arith) number in
        rw (← tells) (
          w,
          holds,
          digits.1,
          ap ended (ap (λ t. codes "stranded " ++ t) ((parts_of_last 32 rest parts cut).0 ∙ ap (λ t. parts.0 ++ (32 ∷ t)) digits.0)
              ∙ spaced (codes "stranded ") parts.0 (codes " ") (decimal w)),
        )

    counts : (parts : List ℕ × List ℕ) → cut_last 32 rest ≡ Some parts → (o : Option ℕ) → plain_number_below (2 ^ 32) parts.1 ≡ o → Encodes (ended (codes "stranded " ++ rest)) told
    counts parts cut None none = absurd (never told (rw (cut, none) at e))
    counts parts cut (Some w) number = named parts w cut number (is_name parts.0) refl

    by : (o : Option (List ℕ × List ℕ)) → cut_last 32 rest ≡ o → Encodes (ended (codes "stranded " ++ rest)) told
    by None none = absurd (never told (rw none at e))
    by (Some parts) cut = counts parts cut (plain_number_below (2 ^ 32) parts.1) refl

-- ---- lines

tried : (word line : List ℕ) (told : ReportLine) (inner : List ℕ → Option ReportLine) (other : Option ReportLine)
    → ((rest : List ℕ) → inner rest ≡ Some told → Encodes (ended (word ++ rest)) told)
    → (other ≡ Some told → Encodes (ended line) told)
    → option_map_or inner (after_word word line) other ≡ Some told → Encodes (ended line) told
tried word line told inner other here there e = by (after_word word line) refl
  where
    by : (o : Option (List ℕ)) → after_word word line ≡ o → Encodes (ended line) told
    by None none = there (rw none at e)
    by (Some rest) is = subst (λ t. Encodes (ended t) told) (sym (after_parts word line rest is)) (here rest (rw is at e))

keyed_encoded : (line : List ℕ) (told : ReportLine) → keyed line ≡ Some told → Encodes (ended line) told
keyed_encoded line told =
    tried (codes "backlog ") line told backlog_in _ (λ rest. backlog_encoded rest told)
    (tried (codes "unserved ") line told unserved_in _ (λ rest. unserved_encoded rest told)
    (tried (codes "work ") line told work_in _ (λ rest. work_encoded rest told)
    (tried (codes "idle ") line told idle_in _ (λ rest. idle_encoded rest told)
    (tried (codes "short need ") line told short_in _ (λ rest. short_encoded rest told)
    (tried (codes "in ") line told needed_in _ (λ rest. needed_encoded rest told)
    (tried (codes "stranded ") line told stranded_in _ (λ rest. stranded_encoded rest told)
    (λ none. absurd (never told none))))))))

pub lines_encoded : (line : List ℕ) (told : ReportLine) → line_of line ≡ Some told → Encodes (ended line) told
lines_encoded line told e = first (bytes_eq line (codes "report 1")) refl
  where
    is_text : (word : List ℕ) → bytes_eq line word ≡ true → ended line ≡ ended word
    is_text word holds = ap ended ((bytes_eq-Decides line word).0 holds)

    third : bytes_eq line (codes "report 1") ≡ false → bytes_eq line (codes "noplan") ≡ false → (d : Bool) → bytes_eq line (codes "end") ≡ d → Encodes (ended line) told
    third a b true holds = let tells : last ≡ told = same last told (rw (a, b, holds) at e) in rw (← tells) (is_text (codes "end") holds)
    third a b false other = keyed_encoded line told (rw (a, b, other) at e)

    second : bytes_eq line (codes "report 1") ≡ false → (d : Bool) → bytes_eq line (codes "noplan") ≡ d → Encodes (ended line) told
    second a true holds = let tells : no_plan ≡ told = same no_plan told (rw (a, holds) at e) in rw (← tells) (is_text (codes "noplan") holds)
    second a false other = third a other (bytes_eq line (codes "end")) refl

    first : (d : Bool) → bytes_eq line (codes "report 1") ≡ d → Encodes (ended line) told
    first true holds = let tells : head ≡ told = same head told (rw holds at e) in rw (← tells) (is_text (codes "report 1") holds)
    first false other = second other (bytes_eq line (codes "noplan")) refl
