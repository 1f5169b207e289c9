-- Each line of the text of a size as it is written, read.
use Rattle.std.proofs.Common.{◌≡◌, ℕ, ◌^◌, ◌<◌, List, [], ◌∷◌, ◌++◌, Bool, true, false, Option, Some, None, IfSome, option_map, append_assoc, refl, ap, sym, subst, ◌∙◌, arith}
use Rattle.std.specs.Prelude.{codes}
use Rattle.std.specs.Fmt.{decimal}
use Rattle.std.specs.Str.{bytes_eq}
use Rattle.std.proofs.lemmas.Bool.{lt-ltb}
use Rattle.std.proofs.lemmas.List.{append_cancel_right}
use Rattle.pool_settings.specs.Names.{is_machine_name, is_name}
use Rattle.pool_report.specs.Law.{TellsLine, is_one_line}
use Rattle.pool_report.specs.Lines.{ReportLine, count_after, last, line_of, needed, short, task}
use Rattle.pool_report.specs.Report.{Needed, needed_line, short_line, task_line}
use Rattle.pool_report.proofs.Written.{joined, lines_read, machine_line, name_line, number_line}
use Rattle.size_report.specs.Lines.{SizeLine, above_most, above_most_in, add, first, level, level_in, no_machine, no_machine_in, on, on_in, shared, size_line_of, too_many}
use Rattle.size_report.specs.Text.{above_most_line, add_line, level_line, no_machine_line, on_line, too_many_line}
use Rattle.text_pieces.specs.Cuts.{cut_last}
use Rattle.text_pieces.specs.Lines.{ended}
use Rattle.text_pieces.proofs.Cutting.{last_of_parts}
use Rattle.text_pieces.proofs.Digits.{plain_decimal, uncut}

-- The text is one line with its line feed, and tells this.
abbrev pub Tells : List ℕ → SizeLine → Type 0
Tells text told = (line : List ℕ) × (text ≡ ended line) × (is_one_line line ≡ true) × (size_line_of line ≡ Some told)

pub head_told : Tells (ended (codes "size 1")) first
head_told = (codes "size 1", refl, refl, refl)

level_read : (n : ℕ) → 0 < n → n < 2 ^ 32 → level_in (decimal n) ≡ Some level
level_read n some small = by (bytes_eq (decimal n) (codes "-")) refl
  where
    by : (b : Bool) → bytes_eq (decimal n) (codes "-") ≡ b → level_in (decimal n) ≡ Some level
    by true is = rw is refl
    by false other = rw (other, plain_decimal (2 ^ 32) n small (omega (arith, small)), lt-ltb 0 n some) refl

pub level_told : (asked : Option ℕ) → IfSome asked (λ n. 0 < n) → IfSome asked (λ n. n < 2 ^ 32) → Tells (level_line asked) level
level_told None some small = (codes "level -", refl, refl, refl)
level_told (Some n) some small = (codes "level " ++ decimal n, refl, joined (codes "level ") (decimal n) refl (number_line n (omega (arith, small))), level_read n some small)

-- ---- lines with a number and a name

count_need : (f : List ℕ) (n : ℕ) → n < 2 ^ 64 → count_after (codes "need") (f ++ codes " need " ++ decimal n) ≡ Some (f, n)
count_need f n small =
    let shape : f ++ codes " need " ++ decimal n ≡ (f ++ codes " need") ++ 32 ∷ decimal n = append_assoc f (codes " need ") (decimal n) ∙ sym (append_assoc f (codes " need") (32 ∷ decimal n)) in
    let outer = last_of_parts 32 (f ++ codes " need") (decimal n) (uncut 32 n small refl) in
    let inner : cut_last 32 (f ++ codes " need") ≡ Some (f, codes "need") = last_of_parts 32 f (codes "need") refl in
    rw (shape, outer, plain_decimal (2 ^ 64) n small small, inner) refl

count_most : (f : List ℕ) (n : ℕ) → n < 2 ^ 64 → count_after (codes "most") (f ++ codes " most " ++ decimal n) ≡ Some (f, n)
count_most f n small =
    let shape : f ++ codes " most " ++ decimal n ≡ (f ++ codes " most") ++ 32 ∷ decimal n = append_assoc f (codes " most ") (decimal n) ∙ sym (append_assoc f (codes " most") (32 ∷ decimal n)) in
    let outer = last_of_parts 32 (f ++ codes " most") (decimal n) (uncut 32 n small refl) in
    let inner : cut_last 32 (f ++ codes " most") ≡ Some (f, codes "most") = last_of_parts 32 f (codes "most") refl in
    rw (shape, outer, plain_decimal (2 ^ 64) n small small, inner) refl

on_read : (m : List ℕ) (n : ℕ) → is_machine_name m ≡ true → n < 2 ^ 32 → on_in (m ++ codes " " ++ decimal n) ≡ Some (on m n)
on_read m n named small =
    let shape : m ++ codes " " ++ decimal n ≡ m ++ 32 ∷ decimal n = append_assoc m (codes " ") (decimal n) in
    let cut = last_of_parts 32 m (decimal n) (uncut 32 n (omega (arith, small)) refl) in
    rw (shape, cut, plain_decimal (2 ^ 32) n small (omega (arith, small)), named) refl

above_read : (f : List ℕ) (n most : ℕ) → is_name f ≡ true → n < 2 ^ 32 → most < 2 ^ 32
    → above_most_in (f ++ codes " need " ++ decimal n ++ codes " most " ++ decimal most) ≡ Some (above_most f n most)
above_read f n most named small few =
    rw (count_most (f ++ codes " need " ++ decimal n) most (omega (arith, few)), count_need f n (omega (arith, small)), named, lt-ltb n (2 ^ 32) small, lt-ltb most (2 ^ 32) few) refl

nobody_read : (f : List ℕ) (n : ℕ) → is_name f ≡ true → n < 2 ^ 32 → no_machine_in (f ++ codes " need " ++ decimal n) ≡ Some (no_machine f n)
nobody_read f n named small = rw (count_need f n (omega (arith, small)), named, lt-ltb n (2 ^ 32) small) refl

pub add_told : (n : ℕ) → n < 2 ^ 32 → Tells (add_line n) add
add_told n small = (
  codes "add " ++ decimal n,
  refl,
  joined (codes "add ") (decimal n) refl (number_line n (omega (arith, small))),
  rw (plain_decimal (2 ^ 32) n small (omega (arith, small))) refl,
)

pub on_told : (m : List ℕ) (n : ℕ) → is_machine_name m ≡ true → n < 2 ^ 32 → Tells (on_line m n) (on m n)
on_told m n named small = (
  codes "on " ++ m ++ codes " " ++ decimal n,
  refl,
  joined (codes "on " ++ m ++ codes " ") (decimal n) (joined (codes "on " ++ m) (codes " ") (joined (codes "on ") m refl (machine_line m named)) refl)
      (number_line n (omega (arith, small))),
  on_read m n named small,
)

needing : (prefix f : List ℕ) (n : ℕ) → is_one_line prefix ≡ true → is_name f ≡ true → n < 2 ^ 64 → is_one_line (prefix ++ f ++ codes " need " ++ decimal n) ≡ true
needing prefix f n line named small =
    joined (prefix ++ f ++ codes " need ") (decimal n) (joined (prefix ++ f) (codes " need ") (joined prefix f line (name_line f named)) refl) (number_line n small)

pub above_told : (f : List ℕ) (n most : ℕ) → is_name f ≡ true → n < 2 ^ 32 → most < 2 ^ 32 → Tells (above_most_line f n most) (above_most f n most)
above_told f n most named small few = (
  codes "cannot 1 " ++ f ++ codes " need " ++ decimal n ++ codes " most " ++ decimal most,
  refl,
  joined (codes "cannot 1 " ++ f ++ codes " need " ++ decimal n ++ codes " most ") (decimal most)
      (joined (codes "cannot 1 " ++ f ++ codes " need " ++ decimal n) (codes " most ") (needing (codes "cannot 1 ") f n refl named (omega (arith, small))) refl)
      (number_line most (omega (arith, few))),
  above_read f n most named small few,
)

pub nobody_told : (f : List ℕ) (n : ℕ) → is_name f ≡ true → n < 2 ^ 32 → Tells (no_machine_line f n) (no_machine f n)
nobody_told f n named small = (
  codes "cannot 2 " ++ f ++ codes " need " ++ decimal n,
  refl,
  needing (codes "cannot 2 ") f n refl named (omega (arith, small)),
  nobody_read f n named small,
)

pub too_many_told : (n : ℕ) → n < 2 ^ 64 → Tells (too_many_line n) (too_many n)
too_many_told n small = (
  codes "cannot 3 add " ++ decimal n,
  refl,
  joined (codes "cannot 3 add ") (decimal n) refl (number_line n small),
  rw (plain_decimal (2 ^ 64) n small small) refl,
)

-- ---- lines as a report has them

shared_told : (line : List ℕ) (told : ReportLine) → TellsLine (ended line) told → size_line_of line ≡ option_map (λ r. shared r) (line_of line) → Tells (ended line) (shared told)
shared_told line told is keyed =
    let same : is.0 ≡ line = sym (append_cancel_right line is.0 (10 ∷ []) is.1) in
    (line, refl, subst (λ t. is_one_line t ≡ true) same is.2, keyed ∙ ap (option_map (λ r. shared r)) (subst (λ t. line_of t ≡ Some told) same is.3))

pub work_told : (machine : List ℕ) (number : ℕ) (f : List ℕ) → is_machine_name machine ≡ true → number < 2 ^ 64 → is_name f ≡ true
    → Tells (task_line (machine ++ codes "/" ++ decimal number) (Some f)) (shared (task (machine ++ codes "/" ++ decimal number) (Some f)))
work_told machine number f named small known =
    shared_told (codes "work " ++ (machine ++ codes "/" ++ decimal number) ++ codes " " ++ f) (task (machine ++ codes "/" ++ decimal number) (Some f))
    (lines_read.workers (record { machine = machine; number = number; function = Some f }) (named, small, known)) refl

pub sums_told : (n have : ℕ) → n < 2 ^ 64 → have < 2 ^ 64 → Tells (short_line n have) (shared short)
sums_told n have few many = shared_told (codes "short need " ++ decimal n ++ codes " have " ++ decimal have) short (lines_read.sums n have few many) refl

pub needed_told : (n : Needed) → is_name n.function ≡ true → n.need < 2 ^ 64 → Tells (needed_line n) (shared (needed n.function))
needed_told n named small = shared_told (codes "in " ++ n.function ++ codes " need " ++ decimal n.need) (needed n.function) (lines_read.needs n named small) refl

pub end_told : Tells (ended (codes "end")) (shared last)
end_told = (codes "end", refl, refl, refl)
