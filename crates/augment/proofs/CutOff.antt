-- functions that are left short, and the workers who may do them
use Rattle.std.proofs.Common.{◌≡◌, ℕ, zero, suc, ◌+◌, ◌-◌, ◌<◌, ◌≤◌, ◌⊎◌, Bool, true, false, cond, eqb, ltb, List, [], ◌∷◌, length, get_or, set, count_by, sum_by, refl, sym, ap, ◌∙◌, subst, arith, inl, inr}
use Rattle.std.specs.List.{list_any}
use Rattle.std.proofs.lemmas.Bool.{cases_Bool, cases_eq, cases_lt, ltb-true, ltb-false, lt-ltb}
use Rattle.std.proofs.lemmas.List.{get_or_past, get_or-set_same, get_or-set_other, length-set}
use Rattle.std.proofs.lemmas.List.Sums.{sum_by-cons}
use Rattle.augment.specs.declared.search.Tree.{Tree}
use Rattle.round_arena.specs.declared.tables.Pairs.{Pairs}
use Rattle.round_arena.specs.Planning.{neighbours}
use Rattle.round_arena.specs.declared.tables.Tables.{Tables}
use Rattle.round_arena.specs.Plan.{IsAssigned, IsGraph, IsPair, Represents, count_on}
use Rattle.round_arena.specs.Round.{SamePairs}
use Rattle.augment.specs.Moves.{IsStuck, one_if_equal}
use Rattle.augment.specs.Most.{AreCutOff, AreWithinNeeds, IsCutOff, IsPassedBy, IsPassedByUpTo, IsServedOrMarked, LacksJust, MarksReached, lacking}
use Rattle.augment.specs.Searching.{IsStaffed}
use Rattle.augment.specs.Short.{marked}
use Rattle.augment.proofs.Flips.{one_if_equal-same, one_if_equal-other}
use Rattle.augment.proofs.Rounds.{SamePairs-trans}
use Rattle.augment.proofs.Sets.{Finds-from_any, IsClosed-marked, any-from_mark, marked-below, marked-rises, marks, marks-marked, sum_by-marks}
use Rattle.augment.proofs.Totals.{total, total-add, total-cong, total-le, total-one_if_equal-past, total-range, total-zeros}

-- 1 for true
abbrev bit : Bool → ℕ
bit b = cond b 1 0

-- the number for true, else 0
abbrev if_so : Bool → ℕ → ℕ
if_so b m = cond b m 0

bit_below : (a b : Bool) → (a ≡ true → b ≡ true) → bit a ≤ bit b
bit_below false b i = omega arith
bit_below true b i = (let one : bit b ≡ 1 = ap bit (i refl) in omega (arith, one))

if_so_none : (b : Bool) → if_so b 0 ≡ 0
if_so_none true = refl
if_so_none false = refl

if_so_most : (b : Bool) (m : ℕ) → if_so b m ≤ m
if_so_most true m = omega arith
if_so_most false m = omega arith

if_so_below : (b : Bool) (m n : ℕ) → m ≤ n → if_so b m ≤ if_so b n
if_so_below true m n le = le
if_so_below false m n le = omega arith

if_so_parts : (b : Bool) (a c d : ℕ) → a ≡ c + d → if_so b a ≡ if_so b c + if_so b d
if_so_parts true a c d e = e
if_so_parts false a c d e = refl

-- a test that passes at no more places than another
pub count_below : {X Y : Type 0} (p : X → Bool) (q : Y → Bool) (d : X) (e : Y) (xs : List X) (ys : List Y) → length xs ≡ length ys
    → ((k : ℕ) → k < length xs → p (get_or xs k d) ≡ true → q (get_or ys k e) ≡ true) → count_by p xs ≤ count_by q ys
count_below p q d e [] ys size h = omega arith
count_below p q d e (x ∷ xs) [] size h = absurd (omega (arith, size))
count_below p q d e (x ∷ xs) (y ∷ ys) size h =
    let rest : count_by p xs ≤ count_by q ys = count_below p q d e xs ys (omega (arith, size)) (λ k l t. h (suc k) (omega (arith, l)) t) in
    let here : bit (p x) ≤ bit (q y) = bit_below (p x) (q y) (h 0 (omega arith)) in
    omega (arith, sum_by-cons (λ z. bit (p z)) x xs, sum_by-cons (λ z. bit (q z)) y ys, rest, here)

-- where it passes at as many, it passes at the same
count_same : (p q : ℕ → Bool) (xs ys : List ℕ) → length xs ≡ length ys
    → ((k : ℕ) → k < length xs → p (get_or xs k 0) ≡ true → q (get_or ys k 0) ≡ true) → count_by q ys ≤ count_by p xs
    → (k : ℕ) → k < length xs → q (get_or ys k 0) ≡ true → p (get_or xs k 0) ≡ true
count_same p q [] ys size h many k l t = absurd (omega (arith, l))
count_same p q (x ∷ xs) [] size h many k l t = absurd (omega (arith, size))
count_same p q (x ∷ xs) (y ∷ ys) size h many zero l t =
    let rest : count_by p xs ≤ count_by q ys = count_below p q 0 0 xs ys (omega (arith, size)) (λ k l t. h (suc k) (omega (arith, l)) t) in
    let there : bit (q y) ≡ 1 = ap bit t in
    elim (cases_Bool (p x)) [
      | inl is ↦ is
      | inr is_not ↦
          let here : bit (p x) ≡ 0 = ap bit is_not in
          absurd (omega (arith, sum_by-cons (λ z. bit (p z)) x xs, sum_by-cons (λ z. bit (q z)) y ys, rest, here, there, many))
    ]
count_same p q (x ∷ xs) (y ∷ ys) size h many (suc k) l t =
    let here : bit (p x) ≤ bit (q y) = bit_below (p x) (q y) (h 0 (omega arith)) in
    let fewer : count_by q ys ≤ count_by p xs = omega (arith, sum_by-cons (λ z. bit (p z)) x xs, sum_by-cons (λ z. bit (q z)) y ys, here, many) in
    count_same p q xs ys (omega (arith, size)) (λ k l t. h (suc k) (omega (arith, l)) t) fewer k (omega (arith, l)) t

-- the number is marked
abbrev is_marked : List ℕ → ℕ → Bool
is_marked place f = ltb 0 (get_or place f 0)

pub marked_within : (place : List ℕ) (f : ℕ) → 0 < get_or place f 0 → f < length place
marked_within place f mark = elim (cases_lt f (length place)) [ inl inside ↦ inside | inr past ↦ absurd (omega (arith, mark, get_or_past place f 0 past)) ]

-- one worker counts for the number that he is on
at_one : (n x : ℕ) (p : ℕ → Bool) → (n ≤ x → p x ≡ false) → total n (λ f. if_so (p f) (one_if_equal x f)) ≡ bit (p x)
at_one zero x p past = sym (ap bit (past (omega arith)))
at_one (suc n) x p past = elim (cases_eq x n) [
  | inl same ↦
      let before : total n (λ f. if_so (p f) (one_if_equal x f)) ≤ total n (one_if_equal x) = total-le n (λ f. if_so (p f) (one_if_equal x f)) (one_if_equal x) (λ f l. if_so_most (p f) (one_if_equal x f)) in
      let none : total n (one_if_equal x) ≡ 0 = total-one_if_equal-past n x (omega (arith, same)) in
      let last : if_so (p n) (one_if_equal x n) ≡ bit (p x) = ap (if_so (p n)) (one_if_equal-same x n same) ∙ ap (λ (m : ℕ). bit (p m)) (sym same) in
      omega (arith, before, none, last)
  | inr other ↦
      let before : total n (λ f. if_so (p f) (one_if_equal x f)) ≡ bit (p x) = at_one n x p (λ l. past (omega (arith, l, other))) in
      let last : if_so (p n) (one_if_equal x n) ≡ 0 = ap (if_so (p n)) (one_if_equal-other x n other) ∙ if_so_none (p n) in
      omega (arith, before, last)
]

-- the workers on marked functions are those of each of them
pub on_marked : (n : ℕ) (place owner : List ℕ) → length place ≤ n → count_by (is_marked place) owner ≡ total n (λ f. if_so (is_marked place f) (count_on owner f))
on_marked n place [] size = sym (total-cong n (λ f. if_so (is_marked place f) 0) (λ _. 0) (λ f l. if_so_none (is_marked place f)) ∙ total-zeros n)
on_marked n place (x ∷ xs) size =
    let split : total n (λ f. if_so (is_marked place f) (count_on (x ∷ xs) f)) ≡ total n (λ f. if_so (is_marked place f) (one_if_equal x f) + if_so (is_marked place f) (count_on xs f)) =
    total-cong n (λ f. if_so (is_marked place f) (count_on (x ∷ xs) f)) (λ f. if_so (is_marked place f) (one_if_equal x f) + if_so (is_marked place f) (count_on xs f))
    (λ f l. if_so_parts (is_marked place f) (count_on (x ∷ xs) f) (one_if_equal x f) (count_on xs f) (sum_by-cons (λ g. cond (eqb g f) 1 0) x xs)) in
    let add = total-add n (λ f. if_so (is_marked place f) (one_if_equal x f)) (λ f. if_so (is_marked place f) (count_on xs f)) in
    let here = at_one n x (is_marked place) (λ past. ap (ltb 0) (get_or_past place x 0 (omega (arith, past, size)))) in
    omega (arith, split, add, here, on_marked n place xs size, sum_by-cons (λ g. bit (is_marked place g)) x xs)

-- who may do a marked function stays on the marked ones, where no function falls
pub cut_stays : (pairs : Pairs) (functions : ℕ) (before after place : List ℕ) → AreCutOff pairs before functions place → length after ≡ length before → IsAssigned functions pairs after
    → ((f : ℕ) → f < functions → count_on before f ≤ count_on after f) → AreCutOff pairs after functions place
cut_stays pairs functions before after place cut size assigned grows =
    let was : count_by (is_marked place) before ≡ total functions (λ f. if_so (is_marked place f) (count_on before f)) = on_marked functions place before (omega (arith, cut.size)) in
    let is : count_by (is_marked place) after ≡ total functions (λ f. if_so (is_marked place f) (count_on after f)) = on_marked functions place after (omega (arith, cut.size)) in
    let more : total functions (λ f. if_so (is_marked place f) (count_on before f)) ≤ total functions (λ f. if_so (is_marked place f) (count_on after f)) =
    total-le functions (λ f. if_so (is_marked place f) (count_on before f)) (λ f. if_so (is_marked place f) (count_on after f)) (λ f l. if_so_below (is_marked place f) (count_on before f) (count_on after f) (grows f l)) in
    let back : (w : ℕ) → w < length after → is_marked place (get_or after w 0) ≡ true → is_marked place (get_or before w 0) ≡ true =
    λ w l t.
    let mark : 0 < get_or place (get_or after w 0) 0 = ltb-true 0 (get_or place (get_or after w 0) 0) t in
    let inside : get_or after w 0 < functions = omega (arith, marked_within place (get_or after w 0) mark, cut.size) in
    lt-ltb 0 (get_or place (get_or before w 0) 0) (cut.closed (get_or after w 0) inside mark w (omega (arith, l, size)) (assigned.permitted w l inside)) in
    record {
      size = cut.size;
      closed = λ f inside mark w l pair.
          let old : 0 < get_or place (get_or before w 0) 0 = cut.closed f inside mark w (omega (arith, l, size)) pair in
          ltb-true 0 (get_or place (get_or after w 0) 0)
          (count_same (is_marked place) (is_marked place) after before size back (omega (arith, was, is, more)) w l (lt-ltb 0 (get_or place (get_or before w 0) 0) old));
    }

-- who may do a function that a stuck search has reached is on one of those
pub stuck_closed : (pairs : Pairs) (owner count need : List ℕ) (t : Tree) (root f w : ℕ) → IsStuck pairs owner count need t root → f < length need → 0 < get_or t.place.now f 0 → IsPair pairs w f → 0 < get_or t.place.now (get_or owner w 0) 0
stuck_closed pairs owner count need t root f w s below mark pair =
    let m : ℕ = pair.0 in
    let of_function = pair.1 in
    let of_machine = pair.2 in
    let closed = IsClosed-marked pairs owner count need t root f s below mark of_function.0 of_function.1 of_function.2 in
    let passed : get_or t.passed.now m false ≡ true = ap (λ z. get_or t.passed.now z false) (sym of_function.3) ∙ closed in
    let reached = s.tree_holds.passed m passed of_machine.0 of_machine.1 of_machine.2 in
    omega (arith, reached.1, ap (λ z. get_or t.place.now (get_or owner z 0) 0) of_machine.3)

-- the functions that it has reached are marked too
pub cut_more : (pairs : Pairs) (owner count need : List ℕ) (t : Tree) (root : ℕ) (old new : List ℕ) → IsStuck pairs owner count need t root → AreCutOff pairs owner (length need) old → MarksReached old new t.place.now → AreCutOff pairs owner (length need) new
cut_more pairs owner count need t root old new s cut marks_new = record {
  size = marks_new.size ∙ cut.size;
  closed = λ f inside mark w l pair. elim (marks_new.only f mark) [
    | inl was ↦ marks_new.kept (get_or owner w 0) (cut.closed f inside was w l pair)
    | inr reached ↦ marks_new.reached (get_or owner w 0) (stuck_closed pairs owner count need t root f w s inside reached pair)
  ];
}

-- and the one that it began with
pub root_reached : (pairs : Pairs) (owner count need : List ℕ) (t : Tree) (root : ℕ) → IsStuck pairs owner count need t root → 0 < get_or t.place.now root 0
root_reached pairs owner count need t root s =
    omega (arith, s.tree_holds.placed 0 s.some, ap (λ z. get_or t.place.now z 0) s.first)

-- what was marked stays so
pub mark_stays : (old : List ℕ) (at g : ℕ) → 0 < get_or old g 0 → 0 < get_or (set old at 1) g 0
mark_stays old at g mark = elim (cases_eq g at) [
  | inl same ↦ (let here : get_or (set old at 1) g 0 ≡ 1 = ap (λ k. get_or (set old at 1) k 0) same ∙ get_or-set_same old at 1 0 (omega (arith, same, marked_within old g mark)) in omega (arith, here))
  | inr other ↦ omega (arith, mark, get_or-set_other old at g 1 0 other)
]

-- a function that is cut off is marked
pub cut_one : (pairs : Pairs) (owner old : List ℕ) (functions root : ℕ) → AreCutOff pairs owner functions old → root < functions → IsCutOff pairs owner old root → AreCutOff pairs owner functions (set old root 1)
cut_one pairs owner old functions root cut inside alone = record {
  size = length-set old root 1 ∙ cut.size;
  closed = λ f below mark w l pair. elim (cases_eq f root) [
    | inl same ↦ mark_stays old root (get_or owner w 0) (alone w l (subst (λ (g : ℕ). IsPair pairs w g) same pair))
    | inr other ↦ mark_stays old root (get_or owner w 0) (cut.closed f below (omega (arith, mark, get_or-set_other old root f 1 0 other)) w l pair)
  ];
}

-- what the marked functions need beyond their workers is what is lacking in all
pub served_most : (permits : ℕ → ℕ → Bool) (machines : List ℕ) (pairs : Pairs) (owner need place : List ℕ) → Represents permits machines pairs (length need) → length machines ≡ length owner → IsAssigned (length need) pairs owner
    → AreWithinNeeds need owner → AreCutOff pairs owner (length need) place → ((f : ℕ) → f < length need → IsServedOrMarked need owner place f)
    → LacksJust permits machines (length need) (λ f. get_or need f 0) (lacking need owner) (marked place (length need))
served_most permits machines pairs owner need place r staff assigned within cut served =
    let n : ℕ = length need in
    let list : List ℕ = marks place n in
    let may : ℕ → Bool = λ m. list_any (permits m) list in
    let there : (w : ℕ) → w < length machines → may (get_or machines w 0) ≡ true → is_marked place (get_or owner w 0) ≡ true =
    λ w l t.
    let f = Finds-from_any (permits (get_or machines w 0)) place n t in
    lt-ltb 0 (get_or place (get_or owner w 0) 0) (cut.closed f.at f.below f.mark w (omega (arith, l, staff)) (r.listed w f.at l f.below f.passes)) in
    let back : (w : ℕ) → w < length owner → is_marked place (get_or owner w 0) ≡ true → may (get_or machines w 0) ≡ true =
    λ w l t.
    let mark : 0 < get_or place (get_or owner w 0) 0 = ltb-true 0 (get_or place (get_or owner w 0) 0) t in
    let inside : get_or owner w 0 < n = omega (arith, marked_within place (get_or owner w 0) mark, cut.size) in
    any-from_mark (permits (get_or machines w 0)) place n (get_or owner w 0) inside mark (r.permitted w (get_or owner w 0) inside (assigned.permitted w l inside)) in
    let few : neighbours permits machines list ≤ count_by (is_marked place) owner = count_below may (is_marked place) 0 0 machines owner staff there in
    let many : count_by (is_marked place) owner ≤ neighbours permits machines list = count_below (is_marked place) may 0 0 owner machines (sym staff) back in
    let on = on_marked n place owner (omega (arith, cut.size)) in
    let wants = sum_by-marks (λ f. get_or need f 0) place n in
    let lacks = total-range n (λ f. get_or need f 0 - count_on owner f) in
    let add = total-add n (λ f. if_so (is_marked place f) (count_on owner f)) (λ f. get_or need f 0 - count_on owner f) in
    let each : total n (λ f. if_so (is_marked place f) (count_on owner f) + (get_or need f 0 - count_on owner f)) ≡ total n (λ f. if_so (is_marked place f) (get_or need f 0)) =
    total-cong n (λ f. if_so (is_marked place f) (count_on owner f) + (get_or need f 0 - count_on owner f)) (λ f. if_so (is_marked place f) (get_or need f 0))
    (λ f l. one (is_marked place f) (count_on owner f) (get_or need f 0) (within f l) (λ unmarked. met f unmarked (served f l))) in
    record {
      rising = marked-rises place n;
      within = marked-below place n;
      exact = subst (λ (z : List ℕ). neighbours permits machines z + lacking need owner ≡ sum_by (λ f. get_or need f 0) z) (marks-marked place n) (omega (arith, few, many, on, wants, lacks, add, each));
    }
  where
    one : (b : Bool) (count wanted : ℕ) → count ≤ wanted → (b ≡ false → wanted ≤ count) → if_so b count + (wanted - count) ≡ if_so b wanted
    one true count wanted within enough = omega (arith, within)
    one false count wanted within enough = omega (arith, enough refl)

    met : (f : ℕ) → is_marked place f ≡ false → IsServedOrMarked need owner place f → get_or need f 0 ≤ count_on owner f
    met f unmarked (inl enough) = enough
    met f unmarked (inr mark) = absurd (omega (arith, mark, ltb-false 0 (get_or place f 0) unmarked))

-- one worker more of a machine
pub passed_more : (pairs : Pairs) (owner place : List ℕ) (m end : ℕ) → IsPassedByUpTo pairs owner place m end → 0 < get_or place (get_or owner (get_or pairs.workers.items.now end 0) 0) 0 → IsPassedByUpTo pairs owner place m (end + 1)
passed_more pairs owner place m end h here k low high = elim (cases_eq k end) [
  | inl same ↦ subst (λ (z : ℕ). 0 < get_or place (get_or owner (get_or pairs.workers.items.now z 0) 0) 0) (sym same) here
  | inr other ↦ h k low (omega (arith, high, other))
]

-- each machine that may do the function, up to place `end` of the list of machines, has its workers on marked functions
abbrev pub ArePassedByUpTo : Pairs → List ℕ → List ℕ → ℕ → ℕ → Type 0
ArePassedByUpTo pairs owner place f end =
    (k : ℕ) → get_or pairs.machines.first.now f 0 ≤ k → k < end → IsPassedBy pairs owner place (get_or pairs.machines.items.now k 0)

pub are_passed_more : (pairs : Pairs) (owner place : List ℕ) (f end : ℕ) → ArePassedByUpTo pairs owner place f end → IsPassedBy pairs owner place (get_or pairs.machines.items.now end 0) → ArePassedByUpTo pairs owner place f (end + 1)
are_passed_more pairs owner place f end h here k low high = elim (cases_eq k end) [
  | inl same ↦ subst (λ (z : ℕ). IsPassedBy pairs owner place (get_or pairs.machines.items.now z 0)) (sym same) here
  | inr other ↦ h k low (omega (arith, high, other))
]

-- so the function is cut off
pub cut_off : (pairs : Pairs) (owner place : List ℕ) (f end : ℕ) → get_or pairs.machines.first.now (f + 1) 0 ≤ end → ArePassedByUpTo pairs owner place f end → IsCutOff pairs owner place f
cut_off pairs owner place f end all h w l pair =
    let of_function = pair.1 in
    let of_machine = pair.2 in
    let passed = h of_function.0 of_function.1 (omega (arith, of_function.2, all)) in
    let here : IsPassedBy pairs owner place pair.0 = subst (λ (m : ℕ). IsPassedBy pairs owner place m) of_function.3 passed in
    omega (arith, here of_machine.0 of_machine.1 of_machine.2, ap (λ z. get_or place (get_or owner z 0) 0) of_machine.3)

-- the marks so far of what a search has reached
pub record MarksUpTo (old new place : List ℕ) (end : ℕ) : Type 0 where
  pub size : length new ≡ length old
  pub kept : (f : ℕ) → 0 < get_or old f 0 → 0 < get_or new f 0
  pub reached : (f : ℕ) → f < end → 0 < get_or place f 0 → 0 < get_or new f 0
  pub only : (f : ℕ) → 0 < get_or new f 0 → (0 < get_or old f 0) ⊎ (0 < get_or place f 0)

pub marks_none : (old place : List ℕ) → MarksUpTo old old place 0
marks_none old place = record { size = refl; kept = λ f mark. mark; reached = λ f below mark. absurd (omega (arith, below)); only = λ f mark. inl mark }

pub marks_this : (old new place : List ℕ) (end : ℕ) → MarksUpTo old new place end → end < length new → 0 < get_or place end 0 → MarksUpTo old (set new end 1) place (end + 1)
marks_this old new place end h inside reached = record {
  size = length-set new end 1 ∙ h.size;
  kept = λ f mark. mark_stays new end f (h.kept f mark);
  reached = λ f below mark. elim (cases_eq f end) [
    | inl same ↦ (let here : get_or (set new end 1) f 0 ≡ 1 = ap (λ k. get_or (set new end 1) k 0) same ∙ get_or-set_same new end 1 0 inside in omega (arith, here))
    | inr other ↦ mark_stays new end f (h.reached f (omega (arith, below, other)) mark)
  ];
  only = λ f mark. elim (cases_eq f end) [
    | inl same ↦ inr (omega (arith, reached, ap (λ k. get_or place k 0) same))
    | inr other ↦ h.only f (omega (arith, mark, get_or-set_other new end f 1 0 other))
  ];
}

pub marks_other : (old new place : List ℕ) (end : ℕ) → MarksUpTo old new place end → get_or place end 0 ≤ 0 → MarksUpTo old new place (end + 1)
marks_other old new place end h missed = record {
  size = h.size;
  kept = h.kept;
  reached = λ f below mark. elim (cases_eq f end) [
    | inl same ↦ absurd (omega (arith, mark, missed, ap (λ k. get_or place k 0) same))
    | inr other ↦ h.reached f (omega (arith, below, other)) mark
  ];
  only = h.only;
}

pub marks_all : (old new place : List ℕ) (end : ℕ) → MarksUpTo old new place end → length place ≤ end → MarksReached old new place
marks_all old new place end h all = record {
  size = h.size;
  kept = h.kept;
  reached = λ f mark. h.reached f (omega (arith, marked_within place f mark, all)) mark;
  only = h.only;
}

-- how far the serving has come: the functions before this place of the order are served or marked
pub record IsGoing (start : Tables) (need : List ℕ) (t : Tables) (tree : Tree) (place : List ℕ) (done : ℕ) : Type 0 where
  pub same : SamePairs start t
  pub graph : IsGraph (length need) (length t.owner.now) t.pairs
  pub staffed : IsStaffed t.pairs need t.owner.now t.count.now tree
  pub within : AreWithinNeeds need t.owner.now
  pub cut : AreCutOff t.pairs t.owner.now (length need) place
  pub served : (j : ℕ) → j < done → IsServedOrMarked need t.owner.now place (get_or start.order.now j 0)

served_next : (need owner place order : List ℕ) (done : ℕ) → ((j : ℕ) → j < done → IsServedOrMarked need owner place (get_or order j 0)) → IsServedOrMarked need owner place (get_or order done 0) → (j : ℕ) → j < done + 1 → IsServedOrMarked need owner place (get_or order j 0)
served_next need owner place order done before here j below = elim (cases_eq j done) [
  | inl same ↦ subst (λ (k : ℕ). IsServedOrMarked need owner place (get_or order k 0)) (sym same) here
  | inr other ↦ before j (omega (arith, below, other))
]

-- the next function has enough workers
pub going_by : (start : Tables) (need : List ℕ) (t : Tables) (tree : Tree) (place : List ℕ) (done : ℕ) → IsGoing start need t tree place done → get_or need (get_or start.order.now done 0) 0 ≤ count_on t.owner.now (get_or start.order.now done 0) → IsGoing start need t tree place (done + 1)
going_by start need t tree place done h enough = record {
  same = h.same;
  graph = h.graph;
  staffed = h.staffed;
  within = h.within;
  cut = h.cut;
  served = served_next need t.owner.now place start.order.now done h.served (inl enough);
}

-- or was served as far as it goes
pub going_on : (start : Tables) (need : List ℕ) (t u : Tables) (tree tree_now : Tree) (place place_now : List ℕ) (done : ℕ) → IsGoing start need t tree place done → SamePairs t u → IsStaffed t.pairs need u.owner.now u.count.now tree_now
    → AreWithinNeeds need u.owner.now → AreCutOff t.pairs u.owner.now (length need) place_now → ((j : ℕ) → j < done → get_or start.order.now j 0 < length need) → IsServedOrMarked need u.owner.now place_now (get_or start.order.now done 0)
    → ((g : ℕ) → g < length need → IsServedOrMarked need t.owner.now place g → IsServedOrMarked need u.owner.now place_now g) → IsGoing start need u tree_now place_now (done + 1)
going_on start need t u tree tree_now place place_now done h same staffed within cut known here kept = record {
  same = SamePairs-trans start t u h.same same;
  graph = subst (λ (p : Pairs). IsGraph (length need) (length u.owner.now) p) (sym same.pairs) (subst (λ (n : ℕ). IsGraph (length need) n t.pairs) (sym same.staff) h.graph);
  staffed = subst (λ (p : Pairs). IsStaffed p need u.owner.now u.count.now tree_now) (sym same.pairs) staffed;
  within = within;
  cut = subst (λ (p : Pairs). AreCutOff p u.owner.now (length need) place_now) (sym same.pairs) cut;
  served = served_next need u.owner.now place_now start.order.now done (λ j below. kept (get_or start.order.now j 0) (known j below) (h.served j below)) here;
}
