-- A text that comes byte by byte.
use Rattle.std.proofs.Common.{◌≡◌, ◌≢◌, append_assoc, subst, ℕ, ◌+◌, ◌-◌, ◌*◌, ◌<◌, ◌≤◌, List, [], ◌∷◌, ◌++◌, Bool, true, false, not, Ok, Err, length, refl, ap, ◌∙◌, sym, arith, length-append, ltb}
use Rattle.std.specs.List.{slice_split}
use Rattle.std.proofs.lemmas.Bool.{and_parts, false≢true}
use Rattle.std.proofs.lemmas.Bool.Decides.{nat_tests}
use Rattle.byte_io.specs.Sides.{Met, Undisturbed}
use Rattle.gear_status.specs.Status.{Line, at_end, is_period, is_too_long, line_meaning, meaning_from, put, status, without_return}
use Rattle.text_pieces.specs.Lines.{is_line_feed}
use Rattle.text_pieces.proofs.Lines.{first_part}
use Rattle.gear_status.specs.Stream.{AnswersStatus, EndsWithPiece, IsPart, Part, has_no_line_feed, is_verdict, meaning_with}
use Rattle.gear_status.specs.declared.error.StatusError.{StatusError}
use Rattle.gear_status.specs.declared.error.StatusError.TheVariants.{BadLine, BadNumber, LineTooLong, Memory, ReadFault, TooManyLines, Truncated}

not_true : (b : Bool) → not b ≡ true → b ≡ false
not_true false h = refl
not_true true h = sym h

nothing_after : (xs : List ℕ) → xs ++ [] ≡ xs
nothing_after [] = refl
nothing_after (x ∷ xs) = ap (λ t. x ∷ t) (nothing_after xs)

-- bytes with no line feed go before the first part
pub open_prefix : (xs ys head : List ℕ) (tail : List (List ℕ)) → has_no_line_feed xs ≡ true → slice_split is_line_feed ys ≡ head ∷ tail
    → slice_split is_line_feed (xs ++ ys) ≡ (xs ++ head) ∷ tail
open_prefix [] ys head tail o e = e
open_prefix (x ∷ xs) ys head tail o e =
    let parts = and_parts (not (is_line_feed x)) (has_no_line_feed xs) o in
    let other : is_line_feed x ≡ false = not_true (is_line_feed x) parts.0 in
    rw (other, open_prefix xs ys head tail parts.1 e)

fits : (line : List ℕ) → length line ≤ 4096 → is_too_long line ≡ false
fits line h = grind (arith, nat_tests)

exceeds : (line : List ℕ) → 4096 < length line → is_too_long line ≡ true
exceeds line h = grind (arith, nat_tests)

-- at a line feed the line is judged, and the text goes on after it
pub at_feed : (n : ℕ) (line rest : List ℕ) (load : List Line) → has_no_line_feed line ≡ true → length line ≤ 4096
    → meaning_from n (slice_split is_line_feed (line ++ 10 ∷ rest)) load
    ≡ at_end n line load (λ more. meaning_from (n + 1) (slice_split is_line_feed rest) more)
at_feed n line rest load o short =
    let next = first_part rest in
    let parts : slice_split is_line_feed (line ++ 10 ∷ rest) ≡ line ∷ slice_split is_line_feed rest =
    open_prefix line (10 ∷ rest) [] (slice_split is_line_feed rest) o refl ∙ ap (λ t. t ∷ slice_split is_line_feed rest) (nothing_after line) in
    let short_line = fits line short in
    rw (parts, next.2, short_line)

-- a line that has 4,096 bytes and gets another is too long
long_first : (n : ℕ) (line : List ℕ) (tail : List (List ℕ)) (load : List Line) → is_too_long line ≡ true
    → meaning_from n (line ∷ tail) load ≡ Err (LineTooLong n)
long_first n line [] load long = rw long
long_first n line (next ∷ tail) load long = rw long

pub too_long : (n b : ℕ) (line rest : List ℕ) (load : List Line) → has_no_line_feed line ≡ true → length line ≡ 4096 → is_line_feed b ≡ false
    → meaning_from n (slice_split is_line_feed (line ++ b ∷ rest)) load ≡ Err (LineTooLong n)
too_long n b line rest load o full other =
    let next = first_part rest in
    let from_here : slice_split is_line_feed (b ∷ rest) ≡ (b ∷ next.0) ∷ next.1 = rw (other, next.2) in
    let parts = open_prefix line (b ∷ rest) (b ∷ next.0) next.1 o from_here in
    ap (λ ps. meaning_from n ps load) parts
    ∙ long_first n (line ++ b ∷ next.0) next.1 load (exceeds (line ++ b ∷ next.0) (omega (arith, length-append line (b ∷ next.0))))

-- what has come of a text whose last line has not come whole is no load and no fault yet
pub not_whole : (n : ℕ) (line : List ℕ) (load : List Line) → has_no_line_feed line ≡ true → length line ≤ 4096
    → meaning_from n (slice_split is_line_feed (line ++ [])) load ≡ Err Truncated
not_whole n line load o short =
    let parts : slice_split is_line_feed (line ++ []) ≡ line ∷ [] =
    open_prefix line [] [] [] o refl ∙ ap (λ t. t ∷ []) (nothing_after line) in
    let short_line = fits line short in
    rw (parts, short_line)

-- the four things that may come of a line
module _ (n : ℕ) (line rest : List ℕ) (load : List Line) (o : has_no_line_feed line ≡ true) (short : length line ≤ 4096) where
  pub feed_period : is_period line ≡ true → meaning_from n (slice_split is_line_feed (line ++ 10 ∷ rest)) load ≡ Ok load
  feed_period period = at_feed n line rest load o short ∙ rw period

  pub feed_many : is_period line ≡ false → 65536 < n → meaning_from n (slice_split is_line_feed (line ++ 10 ∷ rest)) load ≡ Err TooManyLines
  feed_many period many =
      let late : ltb 65536 n ≡ true = grind (arith, nat_tests) in
      at_feed n line rest load o short ∙ rw (period, late)

  pub feed_fault : (f : StatusError) → is_period line ≡ false → n ≤ 65536 → line_meaning n (without_return line) ≡ Err f
      → meaning_from n (slice_split is_line_feed (line ++ 10 ∷ rest)) load ≡ Err f
  feed_fault f period few bad =
      let early : ltb 65536 n ≡ false = grind (arith, nat_tests) in
      at_feed n line rest load o short ∙ rw (period, early, bad)

  pub feed_line : (l : Line) → is_period line ≡ false → n ≤ 65536 → line_meaning n (without_return line) ≡ Ok l
      → meaning_from n (slice_split is_line_feed (line ++ 10 ∷ rest)) load ≡ meaning_from (n + 1) (slice_split is_line_feed rest) (put load l)
  feed_line l period few good =
      let early : ltb 65536 n ≡ false = grind (arith, nat_tests) in
      at_feed n line rest load o short ∙ rw (period, early, good)

-- a line that ends takes up room
pub more_room : (n : ℕ) (line : List ℕ) → n ≤ 65536 → length line ≤ 4096
    → ((65537 - (n + 1)) * 4097 + (4097 - 0)) + 1 ≤ (65537 - n) * 4097 + (4097 - length line)
more_room n line few short = omega arith

-- before a verdict, what has come of the text is a text that is cut off
pub undecided : (bytes : List ℕ) (p : Part) → IsPart p → ((rest : List ℕ) → status (bytes ++ rest) ≡ meaning_with p rest) → status bytes ≡ Err Truncated
undecided bytes p part ahead =
    subst (λ t. status t ≡ Err Truncated) (nothing_after bytes) (ahead [] ∙ not_whole p.number p.line p.load part.open_line part.short)

-- the fault of a piece is that of the text
pub faulty : (bytes piece : List ℕ) (p : Part) (f : StatusError) → ((rest : List ℕ) → status (bytes ++ rest) ≡ meaning_with p rest)
    → ((rest : List ℕ) → meaning_with p (piece ++ rest) ≡ Err f) → status (bytes ++ piece) ≡ Err f
faulty bytes piece p f ahead bad =
    subst (λ t. status (bytes ++ t) ≡ Err f) (nothing_after piece) (ahead (piece ++ []) ∙ bad [])

-- and so is its load
pub complete : (bytes piece : List ℕ) (p : Part) (load : List Line) → ((rest : List ℕ) → status (bytes ++ rest) ≡ meaning_with p rest)
    → ((rest : List ℕ) → meaning_with p (piece ++ rest) ≡ Ok load) → status (bytes ++ piece) ≡ Ok load
complete bytes piece p load ahead done =
    subst (λ t. status (bytes ++ t) ≡ Ok load) (nothing_after piece) (ahead (piece ++ []) ∙ done [])

-- a piece that decides nothing leads on
pub led_on : (bytes piece : List ℕ) (p q : Part) → ((rest : List ℕ) → status (bytes ++ rest) ≡ meaning_with p rest)
    → ((rest : List ℕ) → meaning_with p (piece ++ rest) ≡ meaning_with q rest) → (rest : List ℕ) → status ((bytes ++ piece) ++ rest) ≡ meaning_with q rest
led_on bytes piece p q ahead on rest =
    subst (λ t. status t ≡ meaning_with q rest) (sym (append_assoc bytes piece rest)) (ahead (piece ++ rest) ∙ on rest)

-- what a piece's fault lets a call answer
pub fault_answer : (met : Met) (f : StatusError) → is_verdict f ≡ true → (f ≢ Memory → status met.bytes ≡ Err f)
    → EndsWithPiece met → Undisturbed met → AnswersStatus met (Err f)
fault_answer met Memory v e last calm = (last, calm)
fault_answer met Truncated v e last calm = absurd (false≢true v)
fault_answer met ReadFault v e last calm = absurd (false≢true v)
fault_answer met (BadLine n) v e last calm = (e (λ p. cc), last, calm)
fault_answer met (BadNumber n) v e last calm = (e (λ p. cc), last, calm)
fault_answer met (LineTooLong n) v e last calm = (e (λ p. cc), last, calm)
fault_answer met TooManyLines v e last calm = (e (λ p. cc), last, calm)
