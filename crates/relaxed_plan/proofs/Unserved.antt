-- Stranded functions are short all together, and after them each set that is short has a function that some live worker may do.
use Rattle.std.proofs.Common.{◌≡◌, ℕ, ◌<◌, ◌≤◌, Bool, true, false, cond, not, eqb, ltb, ◌||◌, ◌&&◌, List, [], ◌∷◌, ◌++◌, filter, map, length, get_or, sum_by, append-nil, refl, sym, ap, ◌∙◌, inl, inr, arith}
use Rattle.std.specs.List.{AllByRecursion, list_any, range_with_len}
use Rattle.std.specs.List.Sorted.{IsStrictlyIncreasing}
use Rattle.std.proofs.lemmas.Bool.{and_parts, cases_Bool, cases_lt, false≢true, ltb-true}
use Rattle.std.proofs.lemmas.List.Elements.{All-filter}
use Rattle.std.proofs.lemmas.List.Folds.{list_any-append}
use Rattle.std.proofs.lemmas.List.FromFn.{get_or-map-range_with_len}
use Rattle.std.proofs.lemmas.List.Kept.{IsStrictlyIncreasing-filter}
use Rattle.std.proofs.lemmas.List.Sums.{sum_by-cons}
use Rattle.plan_model.specs.InputRefusals.{rising_of}
use Rattle.plan_model.specs.Planning.{Instance, IsInstance, IsShort, functions, is_stranded, may_do, need, neighbours, top_level}
use Rattle.plan_model.proofs.Hall.{count_by-map, sum_by-le_each}
use Rattle.plan_model.proofs.Needs.{need_is}
use Rattle.plan_model.proofs.Ranges.{range-below, range-rises}
use Rattle.relaxed_plan.specs.Least.{least_count}
use Rattle.relaxed_plan.specs.Relaxed.{LetsOff, is_among, least_left, let_off_of}
use Rattle.relaxed_plan.specs.Stranded.{lacks_all, served_count, stranded_of}
use Rattle.relaxed_plan.proofs.Left.{IsInstance-let_off, among-kept, below_all, length-left, let_off-rising, let_off-twice}
use Rattle.relaxed_plan.proofs.Counts.{least_count-falls, short-has_least}

abbrev one_if : Bool → ℕ
one_if b = cond b 1 0

-- what is kept passes the test
kept : (p : ℕ → Bool) (xs : List ℕ) → AllByRecursion (λ x. p x ≡ true) (filter p xs)
kept p [] = tt
kept p (x ∷ xs) = elim (cases_Bool (p x)) [ inl is ↦ rw is (is, kept p xs) | inr is ↦ rw is (kept p xs) ]

-- nobody of these workers may do any of these functions
abbrev Without : (ℕ → ℕ → Bool) → List (ℕ × ℕ) → List ℕ → Type 0
Without may live set = AllByRecursion (λ f. list_any (λ worker. may worker.1 f) live ≡ false) set

or_parts : (a b : Bool) → (a || b) ≡ false → (a ≡ false) × (b ≡ false)
or_parts true b e = absurd (false≢true (sym e))
or_parts false b e = (refl, e)

without-one : (may : ℕ → ℕ → Bool) (worker : ℕ × ℕ) (live : List (ℕ × ℕ)) (set : List ℕ) → Without may (worker ∷ live) set → (list_any (may worker.1) set ≡ false) × Without may live set
without-one may worker live [] none = (refl, tt)
without-one may worker live (f ∷ set) none =
    let here = or_parts (may worker.1 f) (list_any (λ w. may w.1 f) live) none.0 in
    let rest = without-one may worker live set none.1 in
    (rw here.0 rest.0, (here.1, rest.1))

no_neighbours : (may : ℕ → ℕ → Bool) (live : List (ℕ × ℕ)) (set : List ℕ) → Without may live set → neighbours may (map (λ worker. worker.1) live) set ≡ 0
no_neighbours may [] set none = refl
no_neighbours may (worker ∷ live) set none =
    let parts = without-one may worker live set none in
    let rest = no_neighbours may live set parts.1 in
    let first : one_if (list_any (may worker.1) set) ≡ 0 = rw parts.0 refl in
    omega (arith, first, rest, sum_by-cons (λ machine. one_if (list_any (may machine) set)) worker.1 (map (λ w. w.1) live))

-- a function with a least number needs somebody
needs_some : (i : Instance) (level f : ℕ) → 0 < get_or i.least f 0 → 0 < need i level f
needs_some i level f some = elim (cases_lt (length i.live) (need i level f)) [
  | inl above ↦ omega (arith, above)
  | inr few ↦ omega (arith, some, (need_is i level f few).0)
]

not-true : (b : Bool) → not b ≡ true → b ≡ false
not-true true e = absurd (false≢true e)
not-true false e = refl

lacking : (i : Instance) (set : List ℕ) → AllByRecursion (λ f. lacks_all i f ≡ true) set → Without (may_do i) i.live set
lacking i [] each = tt
lacking i (f ∷ set) each =
    let parts = and_parts (ltb 0 (get_or i.least f 0)) (is_stranded i f) each.0 in
    (not-true (list_any (λ worker. may_do i worker.1 f) i.live) parts.1, lacking i set each.1)

needing : (i : Instance) (level : ℕ) (set : List ℕ) → 0 < length set → AllByRecursion (λ f. lacks_all i f ≡ true) set → 0 < sum_by (need i level) set
needing i level [] some each = absurd (omega (arith, some))
needing i level (f ∷ set) some each =
    let parts = and_parts (ltb 0 (get_or i.least f 0)) (is_stranded i f) each.0 in
    omega (arith, needs_some i level f (ltb-true 0 (get_or i.least f 0) parts.0), sum_by-cons (need i level) f set)

pub lacking-rises : (i : Instance) (n : ℕ) → IsStrictlyIncreasing (filter (lacks_all i) (range_with_len 0 n))
lacking-rises i n = IsStrictlyIncreasing-filter (lacks_all i) (range_with_len 0 n) (range-rises n)

-- stranded functions are short all together
pub short-stranded : (i : Instance) → 0 < length (stranded_of i) → IsShort i top_level (stranded_of i)
short-stranded i some =
    let each = kept (lacks_all i) (functions i) in
    let nobody = no_neighbours (may_do i) i.live (stranded_of i) (lacking i (stranded_of i) each) in
    record {
      rising = lacking-rises i (length i.least);
      within = All-filter (lacks_all i) (λ f. f < length i.least) (functions i) (λ k d below. range-below (length i.least) k d below);
      short = omega (arith, nobody, needing i top_level (stranded_of i) some each);
    }

-- the first set and the stranded functions are short in turn
abbrev pub Starts : Instance → List ℕ → List ℕ → Type 0
Starts i short these = (later : List (List ℕ)) × LetsOff i short later these × (length later ≤ 1)

starts : (i : Instance) (short set these : List ℕ) → IsShort i top_level short → (0 < length set → IsShort (let_off_of i short) top_level set) → these ≡ rising_of (length i.least) (short ++ set) → Starts i short these
starts i short [] these lacks more all = ([], record { in_turn = (lacks, tt); all = all }, omega arith)
starts i short (f ∷ set) these lacks more all = (
  (f ∷ set) ∷ [],
  record {
    in_turn = (lacks, (more (omega arith), tt));
    all = all ∙ ap (λ (t : List ℕ). rising_of (length i.least) (short ++ t)) (sym (append-nil (f ∷ set)));
  },
  omega arith,
)

pub with_stranded : (i : Instance) (short these : List ℕ) → IsShort i top_level short → these ≡ rising_of (length i.least) (short ++ stranded_of (let_off_of i short)) → Starts i short these
with_stranded i short these lacks all = starts i short (stranded_of (let_off_of i short)) these lacks (short-stranded (let_off_of i short)) all

-- who has a least number after that is a function that some live worker may do
left_served : (a s : Bool) (m : ℕ) → one_if (ltb 0 (cond (a || (ltb 0 (cond a 0 m) && s)) 0 m)) ≤ one_if (ltb 0 m && not s)
left_served true s m = omega arith
left_served false s m = elim (cases_Bool (ltb 0 m)) [
  | inl is ↦ rw is (by s)
  | inr is ↦ rw (is, is) (omega arith)
]
  where
    by : (s : Bool) → one_if (ltb 0 (cond s 0 m)) ≤ one_if (not s)
    by true = omega arith
    by false = elim (cases_Bool (ltb 0 m)) [ inl is ↦ rw is (omega arith) | inr is ↦ rw is (omega arith) ]

pub served-left : (i : Instance) (short these : List ℕ) → these ≡ rising_of (length i.least) (short ++ stranded_of (let_off_of i short)) → least_count (let_off_of i these) ≤ served_count i
served-left i short these all =
    let n = length i.least in
    let set = short ++ stranded_of (let_off_of i short) in
    let same : least_count (let_off_of i these) ≡ least_count (let_off_of i set) = ap least_count (ap (let_off_of i) all ∙ let_off-rising i set) in
    let counted = count_by-map (λ m. ltb 0 m) (least_left i.least set) (functions i) in
    let each = sum_by-le_each (λ f. one_if (ltb 0 (least_left i.least set f))) (λ f. one_if (ltb 0 (get_or i.least f 0) && not (is_stranded i f))) (functions i) (below_all (λ f. one_if (ltb 0 (least_left i.least set f)) ≤ one_if (ltb 0 (get_or i.least f 0) && not (is_stranded i f))) n one) in
    omega (arith, same, counted, each)
  where
    among : (f : ℕ) → f < length i.least → is_among (short ++ stranded_of (let_off_of i short)) f ≡ (is_among short f || (ltb 0 (least_left i.least short f) && is_stranded i f))
    among f below =
        let left = let_off_of i short in
        list_any-append (λ g. eqb g f) short (stranded_of left)
        ∙ ap (λ b. is_among short f || b) (among-kept (lacks_all left) (length left.least) f (omega (arith, below, length-left i short)))
        ∙ ap (λ m. is_among short f || (ltb 0 m && is_stranded i f)) (get_or-map-range_with_len (least_left i.least short) 0 (length i.least) f f 0 below (omega arith))

    one : (f : ℕ) → f < length i.least → one_if (ltb 0 (least_left i.least (short ++ stranded_of (let_off_of i short)) f)) ≤ one_if (ltb 0 (get_or i.least f 0) && not (is_stranded i f))
    one f below = rw (among f below) (left_served (is_among short f) (is_stranded i f) (get_or i.least f 0))

-- each further set leaves fewer
pub fewer_left : (i : Instance) (these set both : List ℕ) → IsInstance i → IsShort (let_off_of i these) top_level set → both ≡ rising_of (length i.least) (these ++ set) → least_count (let_off_of i both) < least_count (let_off_of i these)
fewer_left i these set both valid lacks joined =
    let left = let_off_of i these in
    let same : let_off_of i both ≡ let_off_of left set = ap (let_off_of i) joined ∙ let_off-rising i (these ++ set) ∙ sym (let_off-twice i these set) in
    omega (arith, ap least_count same, least_count-falls left set (short-has_least left set (IsInstance-let_off i these valid) lacks))
