-- The input of now, by its parts.
use Rattle.std.proofs.Common.{◌≡◌, ℕ, zero, suc, ◌+◌, ◌<◌, ◌≤◌, Bool, true, false, not, List, [], ◌∷◌, ◌++◌, length, map, get_or, take, drop, subst, refl, sym, ap, ◌∙◌, arith, length-append, append_assoc}
use Rattle.std.specs.Prelude.{replicate, sum, filter, slice_index_or}
use Rattle.std.specs.List.{enumerate_from}
use Rattle.std.specs.Prelude.{IsTrue, nat_eq, slice_get, Some}
use Rattle.std.proofs.lemmas.Option.{slice_get_within, get_or_from_slice_get}
use Rattle.std.specs.Bool.{Decides}
use Rattle.std.proofs.lemmas.Bool.{eqb-true, eq-eqb, false≢true}
use Rattle.std.proofs.lemmas.List.Sums.{sum_by-cons}
use Rattle.std.proofs.lemmas.List.{drop_more, take_more, take_all, length-take, length-drop, nil_from_length, append-nil}
use Rattle.std.specs.Prelude.{Option, None, IfSome}
use Rattle.std.specs.Option.{option_copied}
use Rattle.std.specs.Borrow.{Bor}
use Rattle.level_search.specs.Steady.{IsSteady}
use Rattle.plan_model.specs.declared.answer.Answer.{Answer}
use Rattle.worker_state.specs.declared.slot.Slot.TheVariants.{Empty}
use Rattle.plan_model.specs.Planning.{Instance}
use Rattle.pool_settings.specs.Settings.{Settings}
use Rattle.pool_settings.specs.Slots.{owners, owners_from, live_workers, slots as slot_count}
use Rattle.pool_settings.specs.Planning.{instance_of}
use Rattle.worker_state.specs.declared.slot.Slot.{Slot}
use Rattle.worker_state.specs.Slots.{is_live}
use Rattle.pool_core.specs.Walk.{live_from}

length-copies : (n x : ℕ) → length (replicate n x) ≡ n
length-copies zero x = refl
length-copies (suc n) x = ap suc (length-copies n x)

pub length-owners_from : (m : ℕ) (ns : List ℕ) → length (owners_from m ns) ≡ sum ns
length-owners_from m [] = refl
length-owners_from m (n ∷ ns) =
    length-append (replicate n m) (owners_from (m + 1) ns) ∙ omega (arith, length-copies n m, length-owners_from (m + 1) ns, sum_by-cons (λ (x : ℕ). x) n ns)

-- the mark at the place after a prefix
mark_at : (prefix marks : List Bool) (mark : Bool) → slice_index_or (prefix ++ mark ∷ marks) (length prefix) false ≡ mark
mark_at [] marks mark = refl
mark_at (b ∷ prefix) marks mark = mark_at prefix marks mark

walk_from : (prefix : List Bool) (machines : List ℕ) (slots : List Slot) → length slots ≡ length machines
    → filter (λ worker. slice_index_or (prefix ++ map is_live slots) worker.0 false) (enumerate_from (length prefix) machines) ≡ live_from (length prefix) machines slots
walk_from prefix [] slots e = refl
walk_from prefix (machine ∷ machines) [] e = absurd (omega arith)
walk_from prefix (machine ∷ machines) (slot ∷ slots) e =
    let here : slice_index_or (prefix ++ is_live slot ∷ map is_live slots) (length prefix) false ≡ is_live slot = mark_at prefix (map is_live slots) (is_live slot) in
    let next : length (prefix ++ is_live slot ∷ []) ≡ length prefix + 1 = length-append prefix (is_live slot ∷ []) in
    let later : filter (λ worker. slice_index_or (prefix ++ is_live slot ∷ map is_live slots) worker.0 false) (enumerate_from (length prefix + 1) machines) ≡ live_from (length prefix + 1) machines slots =
    subst (λ (n : ℕ). filter (λ worker. slice_index_or (prefix ++ is_live slot ∷ map is_live slots) worker.0 false) (enumerate_from n machines) ≡ live_from n machines slots) next
    (subst (λ (all : List Bool). filter (λ worker. slice_index_or all worker.0 false) (enumerate_from (length (prefix ++ is_live slot ∷ [])) machines) ≡ live_from (length (prefix ++ is_live slot ∷ [])) machines slots) (append_assoc prefix (is_live slot ∷ []) (map is_live slots)) (walk_from (prefix ++ is_live slot ∷ []) machines slots (omega arith))) in
    rw (here, later) refl

-- what stands at a place that is there, whatever stands for one that is not
pub same_place : {X : Type 0} (xs : List X) (i : ℕ) (d e : X) → i < length xs → get_or xs i d ≡ get_or xs i e
same_place [] i d e h = absurd (omega arith)
same_place (x ∷ xs) zero d e h = refl
same_place (x ∷ xs) (suc i) d e h = same_place xs i d e (omega arith)

pub same_worker : (a b c d : ℕ) → a ≡ c → b ≡ d → (let w : ℕ × ℕ = (a, b) in w) ≡ (let v : ℕ × ℕ = (c, d) in v)
same_worker a b c d e f = ap (λ (x : ℕ). let w : ℕ × ℕ = (x, b) in w) e ∙ ap (λ (x : ℕ). let w : ℕ × ℕ = (c, x) in w) f

-- one step of a walk
pub walk_live : (machines : List ℕ) (slots : List Slot) (n : ℕ) → n < length machines → n < length slots → is_live (get_or slots n (Empty 0)) ≡ true
    → live_from n (drop n machines) (drop n slots) ≡ (n, get_or machines n 0) ∷ live_from (n + 1) (drop (n + 1) machines) (drop (n + 1) slots)
walk_live machines slots n a b live = rw (drop_more machines n 0 a, drop_more slots n (Empty 0) b, live) refl

pub walk_empty : (machines : List ℕ) (slots : List Slot) (n : ℕ) → n < length machines → n < length slots → is_live (get_or slots n (Empty 0)) ≡ false
    → live_from n (drop n machines) (drop n slots) ≡ live_from (n + 1) (drop (n + 1) machines) (drop (n + 1) slots)
walk_empty machines slots n a b live = rw (drop_more machines n 0 a, drop_more slots n (Empty 0) b, live) refl

-- a live worker that is listed
pub walk_meets : (machines : List ℕ) (slots : List Slot) (listed all : List (ℕ × ℕ)) (next n : ℕ) → n < length machines → n < length slots → is_live (get_or slots n (Empty 0)) ≡ true
    → take next listed ++ live_from n (drop n machines) (drop n slots) ≡ all → slice_get listed next ≡ Some (n, get_or machines n 0)
    → (next + 1 ≤ length listed) × (take (next + 1) listed ++ live_from (n + 1) (drop (n + 1) machines) (drop (n + 1) slots) ≡ all)
walk_meets machines slots listed all next n a b live so_far here =
    let within = slice_get_within listed next (n, get_or machines n 0) here in
    let found = get_or_from_slice_get listed next (n, get_or machines n 0) (0, 0) here in
    let rest = live_from (n + 1) (drop (n + 1) machines) (drop (n + 1) slots) in
    let more : take (next + 1) listed ≡ take next listed ++ (n, get_or machines n 0) ∷ [] = take_more listed next (0, 0) within ∙ ap (λ (w : ℕ × ℕ). take next listed ++ w ∷ []) found in (
      omega (arith, within),
      ap (λ (prefix : List (ℕ × ℕ)). prefix ++ rest) more ∙ append_assoc (take next listed) ((n, get_or machines n 0) ∷ []) rest
          ∙ ap (λ (back : List (ℕ × ℕ)). take next listed ++ back) (sym (walk_live machines slots n a b live)) ∙ so_far,
    )

-- an empty slot
pub walk_passes : (machines : List ℕ) (slots : List Slot) (listed all : List (ℕ × ℕ)) (next n : ℕ) → n < length machines → n < length slots → is_live (get_or slots n (Empty 0)) ≡ false
    → take next listed ++ live_from n (drop n machines) (drop n slots) ≡ all
    → take next listed ++ live_from (n + 1) (drop (n + 1) machines) (drop (n + 1) slots) ≡ all
walk_passes machines slots listed all next n a b live so_far =
    ap (λ (back : List (ℕ × ℕ)). take next listed ++ back) (sym (walk_empty machines slots n a b live)) ∙ so_far

get_after : {X : Type 0} (xs ys : List X) (y : X) → slice_get (xs ++ y ∷ ys) (length xs) ≡ Some y
get_after [] ys y = refl
get_after (x ∷ xs) ys y = get_after xs ys y

-- a live worker that is not listed
pub walk_misses : (machines : List ℕ) (slots : List Slot) (listed all : List (ℕ × ℕ)) (next n : ℕ) → n < length machines → n < length slots → next ≤ length listed → is_live (get_or slots n (Empty 0)) ≡ true
    → take next listed ++ live_from n (drop n machines) (drop n slots) ≡ all → listed ≡ all → slice_get listed next ≡ Some (n, get_or machines n 0)
walk_misses machines slots listed all next n a b within live so_far same =
    let rest = live_from (n + 1) (drop (n + 1) machines) (drop (n + 1) slots) in
    let long : length (take next listed) ≡ next = omega (arith, within, length-take next listed) in
    let parts_are : listed ≡ take next listed ++ (n, get_or machines n 0) ∷ rest = same ∙ sym so_far ∙ ap (λ (back : List (ℕ × ℕ)). take next listed ++ back) (walk_live machines slots n a b live) in
    ap (λ (xs : List (ℕ × ℕ)). slice_get xs next) parts_are
    ∙ subst (λ (i : ℕ). slice_get (take next listed ++ (n, get_or machines n 0) ∷ rest) i ≡ Some (n, get_or machines n 0)) long (get_after (take next listed) rest (n, get_or machines n 0))

-- the end of a walk
pub walk_over : (machines : List ℕ) (slots : List Slot) (prefix all : List (ℕ × ℕ)) (n : ℕ) → length machines ≤ n → prefix ++ live_from n (drop n machines) (drop n slots) ≡ all → prefix ≡ all
walk_over machines slots prefix all n over so_far =
    let none : drop n machines ≡ [] = nil_from_length (drop n machines) (omega (arith, over, length-drop n machines)) in
    sym (append-nil prefix) ∙ ap (λ (ms : List ℕ). prefix ++ live_from n ms (drop n slots)) (sym none) ∙ so_far

-- all that a walk met are listed where the list ends with it
pub walk_end : (listed live : List (ℕ × ℕ)) (next : ℕ) → next ≤ length listed → take next listed ≡ live
    → (IsTrue (nat_eq next (length listed)) → listed ≡ live) × (listed ≡ live → IsTrue (nat_eq next (length listed)))
walk_end listed live next within met = (
  λ ends. sym (take_all next listed (omega (arith, eqb-true next (length listed) ends))) ∙ met,
  λ same. eq-eqb next (length listed) (let e = ap length (same ∙ sym met) in omega (arith, within, e, length-take next listed)),
)

-- what is not told apart by `!=` is the same, and what is told apart is not
pub is_same : {P : Type 0} (p r : Bool) → Decides p P → r ≡ not p → r ≡ false → P
is_same true r decides is none = decides.0 refl
is_same false r decides is none = absurd (false≢true (sym none ∙ is))

pub differs : {P : Type 0} (p r : Bool) → Decides p P → r ≡ not p → r ≡ true → P → ⊥
differs p r decides is told same = false≢true (sym (is ∙ ap not (decides.1 same)) ∙ told)

-- the workers whose slots are live
pub walked : (p : Settings) (slots : List Slot) → length slots ≡ slot_count p → live_workers p (map is_live slots) ≡ live_from 0 (owners p) slots
walked p slots e = walk_from [] (owners p) slots (e ∙ sym (length-owners_from 0 p.workers))

abbrev parts : List (ℕ × ℕ) → List (List ℕ) → List ℕ → List ℕ → List ℕ → Instance
parts live may least most waiting = record { live = live; may = may; least = least; most = most; waiting = waiting }

pub is_instance : (i : Instance) (p : Settings) (slots : List Slot) (waiting : List ℕ) → length slots ≡ slot_count p
    → i.live ≡ live_from 0 (owners p) slots → i.may ≡ p.may → i.least ≡ p.least → i.most ≡ p.most → i.waiting ≡ waiting
    → i ≡ instance_of p (map is_live slots) waiting
is_instance i p slots waiting e live may least most jobs =
    let live_is : i.live ≡ live_workers p (map is_live slots) = live ∙ sym (walked p slots e) in
    same i (instance_of p (map is_live slots) waiting) live_is may least most jobs
  where
    same : (a b : Instance) → a.live ≡ b.live → a.may ≡ b.may → a.least ≡ b.least → a.most ≡ b.most → a.waiting ≡ b.waiting → a ≡ b
    same a b l m n o w =
        ap (λ (x : List (ℕ × ℕ)). parts x a.may a.least a.most a.waiting) l
        ∙ ap (λ (x : List (List ℕ)). parts b.live x a.least a.most a.waiting) m
        ∙ ap (λ (x : List ℕ). parts b.live b.may x a.most a.waiting) n
        ∙ ap (λ (x : List ℕ). parts b.live b.may b.least x a.waiting) o
        ∙ ap (λ (x : List ℕ). parts b.live b.may b.least b.most x) w

pub live_of : (i : Instance) (p : Settings) (slots : List Slot) (waiting : List ℕ) → length slots ≡ slot_count p → i ≡ instance_of p (map is_live slots) waiting → i.live ≡ live_from 0 (owners p) slots
live_of i p slots waiting e h = ap (λ (x : Instance). x.live) h ∙ walked p slots e

-- what a search says of the plan that it was lent it says of the plan
pub steady_of : (i : Instance) (answer : Answer) (lent : Option (Bor (List (ℕ × Option ℕ)))) (previous : Option (List (ℕ × Option ℕ))) → option_copied lent ≡ previous → IfSome lent (λ plan. IsSteady i plan.now answer) → IfSome previous (λ plan. IsSteady i plan answer)
steady_of i answer None previous e h = subst (λ (o : Option (List (ℕ × Option ℕ))). IfSome o (λ plan. IsSteady i plan answer)) e tt
steady_of i answer (Some lent) previous e h = subst (λ (o : Option (List (ℕ × Option ℕ))). IfSome o (λ plan. IsSteady i plan answer)) e h
