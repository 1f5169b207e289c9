-- What is left of a problem if functions are let off.
use Rattle.std.proofs.Common.{◌≡◌, ℕ, ◌<◌, Bool, true, false, cond, ◌||◌, eqb, List, [], ◌∷◌, ◌++◌, map, filter, length, get_or, All, refl, sym, ap, ◌∙◌, subst, arith}
use Rattle.std.specs.List.{AllByRecursion, list_any, range_with_len}
use Rattle.std.specs.List.Sorted.{IsStrictlyIncreasing}
use Rattle.std.proofs.Math.Bool.{and-true}
use Rattle.std.proofs.lemmas.Bool.{eq-eqb, eqb-true}
use Rattle.std.proofs.lemmas.List.{ext_get_or}
use Rattle.std.proofs.lemmas.List.Elements.{recursion_from_All}
use Rattle.std.proofs.lemmas.List.Folds.{list_any-append, list_any_at}
use Rattle.std.proofs.lemmas.List.FromFn.{get_or-map-range_with_len, length-map-range_with_len, length-range_with_len}
use Rattle.std.proofs.lemmas.List.Kept.{IsStrictlyIncreasing-filter}
use Rattle.std.proofs.lemmas.Map.Views.{any-filter_same}
use Rattle.plan_model.specs.InputRefusals.{IsTaken, instance, rising_of}
use Rattle.plan_model.specs.Planning.{Instance, IsInstance}
use Rattle.plan_model.proofs.Ranges.{at_place, range-below, range-rises}
use Rattle.plan_model.proofs.Same.{filter_same}
use Rattle.relaxed_plan.specs.Relaxed.{is_among, least_left, let_off_of}
use Rattle.relaxed_plan.proofs.Rows.{rows_same}

-- two tests, or two numbers for each, that agree below n
pub below_all : (P : ℕ → Type 0) (n : ℕ) → ((f : ℕ) → f < n → P f) → AllByRecursion P (range_with_len 0 n)
below_all P n same = recursion_from_All P (range_with_len 0 n) (λ k d below. same (get_or (range_with_len 0 n) k d) (range-below n k d below))

filter-below : (p q : ℕ → Bool) (n : ℕ) → ((f : ℕ) → f < n → p f ≡ q f) → filter p (range_with_len 0 n) ≡ filter q (range_with_len 0 n)
filter-below p q n same = filter_same p q (range_with_len 0 n) (below_all (λ f. p f ≡ q f) n same)

map_same : (g h : ℕ → ℕ) (xs : List ℕ) → AllByRecursion (λ x. g x ≡ h x) xs → map g xs ≡ map h xs
map_same g h [] same = refl
map_same g h (x ∷ xs) same = rw same.0 (ap (λ t. h x ∷ t) (map_same g h xs same.1))

map-below : (g h : ℕ → ℕ) (n : ℕ) → ((f : ℕ) → f < n → g f ≡ h f) → map g (range_with_len 0 n) ≡ map h (range_with_len 0 n)
map-below g h n same = map_same g h (range_with_len 0 n) (below_all (λ f. g f ≡ h f) n same)

-- a function is among those that a test keeps if it passes
pub among-kept : (q : ℕ → Bool) (n f : ℕ) → f < n → is_among (filter q (range_with_len 0 n)) f ≡ q f
among-kept q n f below =
    let kept = any-filter_same (λ g. eqb g f) q (q f) (λ g same. ap q (eqb-true g f same)) (range_with_len 0 n) in
    let there : list_any (λ g. eqb g f) (range_with_len 0 n) ≡ true = list_any_at (λ g. eqb g f) (range_with_len 0 n) f 0 (omega (arith, below, length-range_with_len 0 n)) (eq-eqb _ _ (at_place n f below)) in
    kept ∙ rw there (and-true (q f))

-- and among those that a list names, in rising order, if the list names it
among-rising : (n : ℕ) (row : List ℕ) (f : ℕ) → f < n → is_among (rising_of n row) f ≡ is_among row f
among-rising n row = among-kept (is_among row) n

pub rising-rises : (n : ℕ) (row : List ℕ) → IsStrictlyIncreasing (rising_of n row)
rising-rises n row = IsStrictlyIncreasing-filter (is_among row) (range_with_len 0 n) (range-rises n)

pub rising-again : (n : ℕ) (a b : List ℕ) → rising_of n (rising_of n a ++ b) ≡ rising_of n (a ++ b)
rising-again n a b = filter-below (is_among (rising_of n a ++ b)) (is_among (a ++ b)) n (λ f below.
    list_any-append (λ g. eqb g f) (rising_of n a) b ∙ ap (λ x. x || is_among b f) (among-rising n a f below) ∙ sym (list_any-append (λ g. eqb g f) a b))

-- the problem with these least numbers
abbrev with_least : Instance → List ℕ → Instance
with_least i least = record { live = i.live; may = i.may; least = least; most = i.most; waiting = i.waiting }

pub let_off-rising : (i : Instance) (set : List ℕ) → let_off_of i (rising_of (length i.least) set) ≡ let_off_of i set
let_off-rising i set = ap (with_least i) (map-below (least_left i.least (rising_of (length i.least) set)) (least_left i.least set) (length i.least) (λ f below.
    ap (λ (b : Bool). cond b 0 (get_or i.least f 0)) (among-rising (length i.least) set f below)))

pub least-none : (least : List ℕ) → map (least_left least []) (range_with_len 0 (length least)) ≡ least
least-none least =
    let many = length-map-range_with_len (least_left least []) 0 (length least) in
    ext_get_or 0 (map (least_left least []) (range_with_len 0 (length least))) least many
    (λ k below. get_or-map-range_with_len (least_left least []) 0 (length least) k k 0 (omega (arith, below, many)) (omega arith))

pub let_off-none : (i : Instance) → let_off_of i [] ≡ i
let_off-none i = ap (with_least i) (least-none i.least)

-- who lets off some functions and then others lets off all of them
left-twice : (a b : Bool) (n : ℕ) → cond b 0 (cond a 0 n) ≡ cond (a || b) 0 n
left-twice true true n = refl
left-twice true false n = refl
left-twice false true n = refl
left-twice false false n = refl

left_first : (i : Instance) (a b : List ℕ) (f : ℕ) → f < length i.least → least_left (let_off_of i a).least b f ≡ least_left i.least (a ++ b) f
left_first i a b f below =
    ap (λ (x : ℕ). cond (is_among b f) 0 x) (get_or-map-range_with_len (least_left i.least a) 0 (length i.least) f f 0 below (omega arith))
    ∙ left-twice (is_among a f) (is_among b f) (get_or i.least f 0)
    ∙ ap (λ (x : Bool). cond x 0 (get_or i.least f 0)) (sym (list_any-append (λ g. eqb g f) a b))

pub let_off-twice : (i : Instance) (a b : List ℕ) → let_off_of (let_off_of i a) b ≡ let_off_of i (a ++ b)
let_off-twice i a b = ap (with_least i) (
    ap (λ m. map (least_left (let_off_of i a).least b) (range_with_len 0 m)) (length-map-range_with_len (least_left i.least a) 0 (length i.least))
    ∙ map-below (least_left (let_off_of i a).least b) (least_left i.least (a ++ b)) (length i.least) (left_first i a b))

-- an instance stays one, and is taken as it is
pub length-left : (i : Instance) (set : List ℕ) → length (let_off_of i set).least ≡ length i.least
length-left i set = length-map-range_with_len (least_left i.least set) 0 (length i.least)

pub IsInstance-let_off : (i : Instance) (set : List ℕ) → IsInstance i → IsInstance (let_off_of i set)
IsInstance-let_off i set valid =
    let many = length-left i set in
    record {
      slots = valid.slots;
      machines = valid.machines;
      rows = valid.rows;
      within = subst (λ n. All (λ row. All (λ f. f < n) row) i.may) (sym many) valid.within;
      bounded = valid.bounded ∙ sym many;
      paired = valid.paired ∙ sym many;
      counted = valid.counted;
      limits = record { machines = valid.limits.machines; functions = omega (arith, many, valid.limits.functions); workers = valid.limits.workers; slots = valid.limits.slots };
    }

pub taken-let_off : (i : Instance) (set : List ℕ) → IsInstance i → IsTaken (let_off_of i set)
taken-let_off i set valid =
    let left = IsInstance-let_off i set valid in
    record {
      order = left.slots;
      numbers = record { machines = left.machines; functions = left.within; bounded = left.bounded; paired = left.paired };
      limits = left.limits;
    }

pub made-let_off : (i : Instance) (set : List ℕ) → IsInstance i → instance i.live i.may (let_off_of i set).least i.most i.waiting ≡ let_off_of i set
made-let_off i set valid =
    let left = IsInstance-let_off i set valid in
    ap (λ (rows : List (List ℕ)). record { live = i.live; may = rows; least = (let_off_of i set).least; most = i.most; waiting = i.waiting }) (rows_same (length (let_off_of i set).least) i.may left.rows left.within)
