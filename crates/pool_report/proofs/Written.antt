-- Each line as it is written, read.
use Rattle.std.proofs.Common.{◌≡◌, ◌≢◌, ℕ, ◌-◌, ◌^◌, ◌<◌, List, [], ◌∷◌, ◌++◌, Bool, true, false, not, Option, Some, None, eqb, append_assoc, refl, ap, sym, ◌∙◌, inl, inr, arith}
use Rattle.std.specs.Prelude.{codes}
use Rattle.std.specs.Char.{is_ascii_digit}
use Rattle.std.specs.Fmt.{decimal}
use Rattle.std.specs.List.{list_all}
use Rattle.std.proofs.lemmas.Bool.{and_from, and_parts, cases_lt, false≢true, le-ltb, lt-ltb, ne_eqb}
use Rattle.std.proofs.lemmas.List.Folds.{list_all-append}
use Rattle.pool_settings.specs.Names.{is_machine_name, is_machine_name_byte, is_name, is_name_byte}
use Rattle.text_pieces.specs.Cuts.{cut_last}
use Rattle.pool_report.specs.Law.{AreLinesRead, HasName, IsNamed, TellsLine, is_one_line}
use Rattle.pool_report.specs.Lines.{backlog, idle_in, is_worker, needed, needed_in, short, short_in, stranded, stranded_in, task, work_in}
use Rattle.pool_report.specs.Report.{Needed, Stranded, Worker, backlog_line, needed_line, short_line, stranded_line, task_line, worker_line, name_of_worker}
use Rattle.text_pieces.proofs.Cutting.{last_nowhere, last_of_parts, none_in}
use Rattle.text_pieces.proofs.Digits.{digits, plain, plain_decimal, uncut}

pub no_space : (name : List ℕ) → is_name name ≡ true → cut_last 32 name ≡ None
no_space name named = last_nowhere 32 name (none_in 32 is_name_byte name refl (and_parts _ (list_all is_name_byte name) named).1)

-- ---- no line feed

one_line_of : (p : ℕ → Bool) (xs : List ℕ) → p 10 ≡ false → list_all p xs ≡ true → is_one_line xs ≡ true
one_line_of p [] out all = refl
one_line_of p (x ∷ xs) out all =
    let parts = and_parts (p x) (list_all p xs) all in
    let other : eqb x 10 ≡ false = ne_eqb x 10 (λ e. false≢true (sym out ∙ ap p (sym e) ∙ parts.0)) in
    rw (other, one_line_of p xs out parts.1) refl

pub joined : (xs ys : List ℕ) → is_one_line xs ≡ true → is_one_line ys ≡ true → is_one_line (xs ++ ys) ≡ true
joined xs ys left right = list_all-append (λ b. not (eqb b 10)) xs ys ∙ and_from _ _ left right

pub number_line : (n : ℕ) → n < 2 ^ 64 → is_one_line (decimal n) ≡ true
number_line n small = one_line_of is_ascii_digit (decimal n) refl (digits n small)

pub name_line : (name : List ℕ) → is_name name ≡ true → is_one_line name ≡ true
name_line name named = one_line_of is_name_byte name refl (and_parts _ (list_all is_name_byte name) named).1

pub machine_line : (name : List ℕ) → is_machine_name name ≡ true → is_one_line name ≡ true
machine_line name named = one_line_of is_machine_name_byte name refl (and_parts _ (list_all is_machine_name_byte name) named).1

-- ---- lines

needs_read : (f : List ℕ) (n : ℕ) → is_name f ≡ true → n < 2 ^ 64 → needed_in (f ++ codes " need " ++ decimal n) ≡ Some (needed f)
needs_read f n named small =
    let shape : f ++ codes " need " ++ decimal n ≡ (f ++ codes " need") ++ 32 ∷ decimal n = append_assoc f (codes " need ") (decimal n) ∙ sym (append_assoc f (codes " need") (32 ∷ decimal n)) in
    let outer = last_of_parts 32 (f ++ codes " need") (decimal n) (uncut 32 n small refl) in
    let inner : cut_last 32 (f ++ codes " need") ≡ Some (f, codes "need") = last_of_parts 32 f (codes "need") refl in
    rw (shape, outer, plain_decimal (2 ^ 64) n small small, inner, named) refl

sums_read : (need have : ℕ) → need < 2 ^ 64 → have < 2 ^ 64 → short_in (decimal need ++ codes " have " ++ decimal have) ≡ Some short
sums_read need have few many =
    let shape : decimal need ++ codes " have " ++ decimal have ≡ (decimal need ++ codes " have") ++ 32 ∷ decimal have =
    append_assoc (decimal need) (codes " have ") (decimal have) ∙ sym (append_assoc (decimal need) (codes " have") (32 ∷ decimal have)) in
    let outer = last_of_parts 32 (decimal need ++ codes " have") (decimal have) (uncut 32 have many refl) in
    let inner : cut_last 32 (decimal need ++ codes " have") ≡ Some (decimal need, codes "have") = last_of_parts 32 (decimal need) (codes "have") refl in
    rw (shape, outer, plain_decimal (2 ^ 64) have many many, inner, plain_decimal (2 ^ 64) need few few) refl

leftovers_read : (f : List ℕ) (n : ℕ) → is_name f ≡ true → n < 2 ^ 32 → stranded_in (f ++ codes " " ++ decimal n) ≡ Some (stranded f)
leftovers_read f n named small =
    let shape : f ++ codes " " ++ decimal n ≡ f ++ 32 ∷ decimal n = append_assoc f (codes " ") (decimal n) in
    let cut = last_of_parts 32 f (decimal n) (uncut 32 n (omega arith) refl) in
    rw (shape, cut, plain_decimal (2 ^ 32) n small (omega arith), named) refl

worker_shaped : (m : List ℕ) (n : ℕ) → is_machine_name m ≡ true → n < 2 ^ 64 → is_worker (m ++ codes "/" ++ decimal n) ≡ true
worker_shaped m n named small =
    let shape : m ++ codes "/" ++ decimal n ≡ m ++ 47 ∷ decimal n = append_assoc m (codes "/") (decimal n) in
    let cut = last_of_parts 47 m (decimal n) (uncut 47 n small refl) in
    rw (shape, cut, named, plain n small) refl

work_read : (name f : List ℕ) → is_worker name ≡ true → is_name f ≡ true → work_in (name ++ codes " " ++ f) ≡ Some (task name (Some f))
work_read name f worker named =
    let shape : name ++ codes " " ++ f ≡ name ++ 32 ∷ f = append_assoc name (codes " ") f in
    let cut = last_of_parts 32 name f (no_space f named) in
    rw (shape, cut, worker, named) refl

idle_read : (name : List ℕ) → is_worker name ≡ true → idle_in name ≡ Some (task name None)
idle_read name worker = rw worker refl

task_told : (name : List ℕ) (f : Option (List ℕ)) → is_worker name ≡ true → is_one_line name ≡ true → HasName f → TellsLine (task_line name f) (task name f)
task_told name None worker line named = (codes "idle " ++ name, refl, joined (codes "idle ") name refl line, idle_read name worker)
task_told name (Some f) worker line named = (
  codes "work " ++ name ++ codes " " ++ f,
  refl,
  joined (codes "work " ++ name ++ codes " ") f (joined (codes "work " ++ name) (codes " ") (joined (codes "work ") name refl line) refl) (name_line f named),
  work_read name f worker named,
)

worker_told : (w : Worker) → IsNamed w → TellsLine (worker_line w) (task (name_of_worker w) w.function)
worker_told w named =
    task_told (name_of_worker w) w.function (worker_shaped w.machine w.number named.0 named.1)
    (joined (w.machine ++ codes "/") (decimal w.number) (joined w.machine (codes "/") (machine_line w.machine named.0) refl) (number_line w.number named.1)) named.2

counts_told : (k : ℕ) → k < 2 ^ 33 → k ≢ 2 ^ 32 → TellsLine (backlog_line k) (backlog k)
counts_told k small other = elim (cases_lt k (2 ^ 32)) [
  | inl below ↦ (
    codes "backlog " ++ decimal k,
    rw (lt-ltb k (2 ^ 32) below) refl,
    joined (codes "backlog ") (decimal k) refl (number_line k (omega arith)),
    rw (plain_decimal (2 ^ 32) k below (omega arith)) refl,
  )
  | inr above ↦ (
    codes "unserved " ++ decimal (k - 2 ^ 32),
    rw (le-ltb k (2 ^ 32) above) refl,
    joined (codes "unserved ") (decimal (k - 2 ^ 32)) refl (number_line (k - 2 ^ 32) (omega arith)),
    rw (plain_decimal (2 ^ 32) (k - 2 ^ 32) (omega arith) (omega arith), lt-ltb 0 (k - 2 ^ 32) (omega (arith, other))) (ap (λ n. Some (backlog n)) (omega arith)),
  )
]

sums_told : (need have : ℕ) → need < 2 ^ 64 → have < 2 ^ 64 → TellsLine (short_line need have) short
sums_told need have few many = (
  codes "short need " ++ decimal need ++ codes " have " ++ decimal have,
  refl,
  joined (codes "short need " ++ decimal need ++ codes " have ") (decimal have)
      (joined (codes "short need " ++ decimal need) (codes " have ") (joined (codes "short need ") (decimal need) refl (number_line need few)) refl) (number_line have many),
  sums_read need have few many,
)

needs_told : (n : Needed) → is_name n.function ≡ true → n.need < 2 ^ 64 → TellsLine (needed_line n) (needed n.function)
needs_told n named small = (
  codes "in " ++ n.function ++ codes " need " ++ decimal n.need,
  refl,
  joined (codes "in " ++ n.function ++ codes " need ") (decimal n.need)
      (joined (codes "in " ++ n.function) (codes " need ") (joined (codes "in ") n.function refl (name_line n.function named)) refl) (number_line n.need small),
  needs_read n.function n.need named small,
)

leftovers_told : (s : Stranded) → is_name s.function ≡ true → s.waiting < 2 ^ 32 → TellsLine (stranded_line s) (stranded s.function)
leftovers_told s named small = (
  codes "stranded " ++ s.function ++ codes " " ++ decimal s.waiting,
  refl,
  joined (codes "stranded " ++ s.function ++ codes " ") (decimal s.waiting)
      (joined (codes "stranded " ++ s.function) (codes " ") (joined (codes "stranded ") s.function refl (name_line s.function named)) refl) (number_line s.waiting (omega arith)),
  leftovers_read s.function s.waiting named small,
)

pub lines_read : AreLinesRead
lines_read = record {
  first = (codes "report 1", refl, refl, refl);
  counts = counts_told;
  none = (codes "noplan", refl, refl, refl);
  workers = worker_told;
  sums = sums_told;
  needs = needs_told;
  leftovers = leftovers_told;
  end = (codes "end", refl, refl, refl);
}
