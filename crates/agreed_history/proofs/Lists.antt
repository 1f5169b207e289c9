-- Names in lists, and what an event more adds.
use Rattle.std.proofs.Common.{◌≡◌, ℕ, zero, suc, ◌+◌, ◌==◌, ◌||◌, ◌&&◌, Bool, not, true, false, true≢false, List, [], ◌∷◌, ◌++◌, length, map, refl, sym, ap, ◌∙◌, subst, arith}
use Rattle.std.specs.Prelude.{cond}
use Rattle.std.specs.List.{AllByRecursion, filter}
use Rattle.std.proofs.lemmas.Bool.Decides.{nat_tests}
use Rattle.std.proofs.lemmas.List.{append-nil}
use Rattle.std.proofs.lemmas.List.Elements.{filter-append}
use lib.ListN.{set}
use Rattle.worker_state.specs.declared.slot.WorkerName.{WorkerName}
use Rattle.pool_core.specs.declared.event.Event.{Event}
use Rattle.pool_core.specs.declared.event.Event.TheVariants as event
use Rattle.agreed_history.specs.declared.known.Entry.{Entry}
use Rattle.agreed_history.specs.declared.known.Entry.TheVariants.{Happened, ChapterEnd}
use Rattle.agreed_history.specs.declared.known.Past.{Past}
use Rattle.agreed_history.specs.Agreed.{name_of, has, without, AreOnce, is_same, is_late, is_own, is_of, events_in, did_by}

pub off : false ≡ true → ⊥
off e = true≢false (sym e)

num_self : (k : ℕ) → (k == k) ≡ true
num_self k = grind (arith, nat_tests)

num_same : (k x : ℕ) → (k == x) ≡ true → k ≡ x
num_same k x e = grind (arith, nat_tests)

num_turned : (a b : ℕ) → (a == b) ≡ (b == a)
num_turned a b = grind (arith, nat_tests)

and_left : (a b : Bool) → (a && b) ≡ true → a ≡ true
and_left true b e = refl
and_left false b e = e

and_right : (a b : Bool) → (a && b) ≡ true → b ≡ true
and_right true b e = e
and_right false b e = absurd (off e)

pub eq_self : (k : WorkerName) → (is_same k k) ≡ true
eq_self k = rw (num_self k.slot, num_self k.generation) refl

pub same_by : (k x : WorkerName) → (is_same k x) ≡ true → k ≡ x
same_by k x e =
    let s = num_same k.slot x.slot (and_left (k.slot == x.slot) (k.generation == x.generation) e) in
    let g = num_same k.generation x.generation (and_right (k.slot == x.slot) (k.generation == x.generation) e) in
    λ i. record { slot = s i; generation = g i }

turned : (a b : WorkerName) → (is_same a b) ≡ (is_same b a)
turned a b = ap (λ (t : Bool). t && (a.generation == b.generation)) (num_turned a.slot b.slot) ∙ ap (λ (t : Bool). (b.slot == a.slot) && t) (num_turned a.generation b.generation)

pub or_none : (a b : Bool) → (a || b) ≡ false → (a ≡ false) × (b ≡ false)
or_none true b e = absurd (true≢false e)
or_none false b e = (refl, e)

pub or_false : (a b : Bool) → a ≡ false → b ≡ false → (a || b) ≡ false
or_false a b x y = rw (x, y) refl

pub has_append : (k : WorkerName) (xs ys : List WorkerName) → has k (xs ++ ys) ≡ (has k xs || has k ys)
has_append k [] ys = refl
has_append k (x ∷ xs) ys = cases (is_same k x) (has_append k xs ys)
  where
    cases : (b : Bool) → has k (xs ++ ys) ≡ (has k xs || has k ys) → (b || has k (xs ++ ys)) ≡ ((b || has k xs) || has k ys)
    cases true h = refl
    cases false h = h

less_by : (k j x : WorkerName) (xs rest : List WorkerName) (b : Bool) → has k (x ∷ xs) ≡ false → has k rest ≡ false → has k (cond b xs (x ∷ rest)) ≡ false
less_by k j x xs rest true h more = (or_none (is_same k x) (has k xs) h).1
less_by k j x xs rest false h more = or_false (is_same k x) (has k rest) (or_none (is_same k x) (has k xs) h).0 more

-- whoever does not stand in the list does not stand in what is left of it
pub without_less : (k j : WorkerName) (xs : List WorkerName) → has k xs ≡ false → has k (without j xs) ≡ false
without_less k j [] h = refl
without_less k j (x ∷ xs) h = less_by k j x xs (without j xs) (is_same j x) h (without_less k j xs (or_none (is_same k x) (has k xs) h).1)

gone_by : (k x : WorkerName) (xs rest : List WorkerName) (b : Bool) → (is_same k x) ≡ b → has x xs ≡ false → has k rest ≡ false → has k (cond b xs (x ∷ rest)) ≡ false
gone_by k x xs rest true e once more = subst (λ (j : WorkerName). has j xs ≡ false) (sym (same_by k x e)) once
gone_by k x xs rest false e once more = or_false (is_same k x) (has k rest) e more

-- who is left out, where each stands once, stands there no more
pub without_gone : (k : WorkerName) (xs : List WorkerName) → AreOnce xs → has k (without k xs) ≡ false
without_gone k [] once = refl
without_gone k (x ∷ xs) once = gone_by k x xs (without k xs) (is_same k x) refl once.0 (without_gone k xs once.1)

once_by : (x : WorkerName) (xs rest : List WorkerName) (b : Bool) → AreOnce xs → has x rest ≡ false → AreOnce rest → AreOnce (cond b xs (x ∷ rest))
once_by x xs rest true once less more = once
once_by x xs rest false once less more = (less, more)

pub without_once : (k : WorkerName) (xs : List WorkerName) → AreOnce xs → AreOnce (without k xs)
without_once k [] once = once
without_once k (x ∷ xs) once = once_by x xs (without k xs) (is_same k x) once.1 (without_less x k xs once.0) (without_once k xs once.1)

else_by : (k j x : WorkerName) (xs rest : List WorkerName) (b : Bool) → (is_same j x) ≡ b → (is_same k j) ≡ false → has k rest ≡ has k xs → has k (cond b xs (x ∷ rest)) ≡ (is_same k x || has k xs)
else_by k j x xs rest true e ne more = sym (ap (λ (t : Bool). t || has k xs) (ap (λ (i : WorkerName). (is_same k i)) (sym (same_by j x e)) ∙ ne))
else_by k j x xs rest false e ne more = ap (λ (t : Bool). (is_same k x) || t) more

-- anybody else stands in what is left if it stood in the whole
pub without_else : (k j : WorkerName) (xs : List WorkerName) → (is_same k j) ≡ false → has k (without j xs) ≡ has k xs
without_else k j [] ne = refl
without_else k j (x ∷ xs) ne = else_by k j x xs (without j xs) (is_same j x) refl ne (without_else k j xs ne)

pub once_more : (k : WorkerName) (xs : List WorkerName) → AreOnce xs → has k xs ≡ false → AreOnce (xs ++ k ∷ [])
once_more k [] once new = (refl, tt)
once_more k (x ∷ xs) once new =
    let n = or_none (is_same k x) (has k xs) new in
    (has_append x xs (k ∷ []) ∙ or_false (has x xs) (has x (k ∷ [])) once.0 (or_false (is_same x k) false (other k x n.0) refl), once_more k xs once.1 n.1)
  where
    other : (a b : WorkerName) → (is_same a b) ≡ false → (is_same b a) ≡ false
    other a b e = turned b a ∙ e

pub all_more : {X : Type 0} (P : X → Type 0) (xs : List X) (x : X) → AllByRecursion P xs → P x → AllByRecursion P (xs ++ x ∷ [])
all_more P [] x all p = (p, tt)
all_more P (y ∷ ys) x all p = (all.0, all_more P ys x all.1 p)

pub all_other : {X : Type 0} (P Q : X → Type 0) (xs : List X) → AllByRecursion P xs → ((x : X) → P x → Q x) → AllByRecursion Q xs
all_other P Q [] all f = tt
all_other P Q (x ∷ xs) all f = (f x all.0, all_other P Q xs all.1 f)

-- the same of the elements whose name stands among the names
pub all_named : (P Q : Past → Type 0) (xs : List Past) → AllByRecursion P xs → ((x : Past) → has x.who (map name_of xs) ≡ true → P x → Q x) → AllByRecursion Q xs
all_named P Q [] all f = tt
all_named P Q (x ∷ xs) all f =
    (f x (rw (eq_self x.who) refl) all.0, all_named P Q xs all.1 (λ y in' p. f y (or_right (is_same y.who x.who) (has y.who (map name_of xs)) in') p))
  where
    or_right : (a b : Bool) → b ≡ true → (a || b) ≡ true
    or_right true b e = refl
    or_right false b e = e

-- what an entry adds to what a session did
events_append : (xs ys : List Entry) → events_in (xs ++ ys) ≡ events_in xs ++ events_in ys
events_append [] ys = refl
events_append (Happened e ∷ xs) ys = ap (λ (l : List Event). e ∷ l) (events_append xs ys)
events_append (ChapterEnd ∷ xs) ys = events_append xs ys

pub did_more : (k : WorkerName) (log : List Entry) (e : Entry) → did_by k (log ++ e ∷ []) ≡ did_by k log ++ did_by k (e ∷ [])
did_more k log e = ap (filter (is_own k)) (events_append log (e ∷ [])) ∙ filter-append (is_own k) (events_in log) (events_in (e ∷ []))

none_of : (k : WorkerName) (e : Entry) → is_of k e ≡ false → did_by k (e ∷ []) ≡ []
none_of k (Happened e) none = ap (λ (b : Bool). cond b (e ∷ []) []) none
none_of k ChapterEnd none = refl

-- an entry of another adds nothing
pub did_same : (k : WorkerName) (log : List Entry) (e : Entry) → is_of k e ≡ false → did_by k (log ++ e ∷ []) ≡ did_by k log
did_same k log e none = did_more k log e ∙ (ap (λ (l : List Event). did_by k log ++ l) (none_of k e none) ∙ append-nil (did_by k log))

-- an event of a session is one of no other
pub by_one : (j k : WorkerName) (e : Event) → is_own k e ≡ true → is_own j e ≡ true → j ≡ k
by_one j k (event.Join slot) a b = absurd (off a)
by_one j k (event.Load load) a b = absurd (off a)
by_one j k (event.Round answer) a b = absurd (off a)
by_one j k (event.Grab w handle function now) a b = same_by j w b ∙ sym (same_by k w a)
by_one j k (event.Begin w ticket) a b = same_by j w b ∙ sym (same_by k w a)
by_one j k (event.Reported w ticket end) a b = same_by j w b ∙ sym (same_by k w a)
by_one j k (event.Lost w cause) a b =
    same_by j w (and_left (is_same j w) (not (is_late cause)) b) ∙ sym (same_by k w (and_left (is_same k w) (not (is_late cause)) a))

pub set_twice : {A : Type 0} (l : List A) (i : ℕ) (a b : A) → set (set l i a) i b ≡ set l i b
set_twice [] i a b = refl
set_twice (x ∷ xs) zero a b = refl
set_twice (x ∷ xs) (suc i) a b = ap (λ l. x ∷ l) (set_twice xs i a b)

length_by : (x : WorkerName) (xs rest : List WorkerName) (k : WorkerName) (b : Bool) → (is_same k x) ≡ b → (b || has k xs) ≡ true → (has k xs ≡ true → length rest + 1 ≡ length xs) → length (cond b xs (x ∷ rest)) + 1 ≡ length (x ∷ xs)
length_by x xs rest k true e is more = omega arith
length_by x xs rest k false e is more = omega (arith, more is)

-- who stands in the list is one of it
pub length_without : (k : WorkerName) (xs : List WorkerName) → has k xs ≡ true → length (without k xs) + 1 ≡ length xs
length_without k [] is = absurd (off is)
length_without k (x ∷ xs) is = length_by x xs (without k xs) k (is_same k x) refl is (length_without k xs)
