-- What a table holds, and of which jobs, once a job was taken out, put in, held or given back.
use Rattle.std.proofs.Common.{◌≡◌, ℕ, suc, ◌+◌, ◌<◌, ◌≤◌, ⊎_elim, Bool, true, false, true≢false, not, cond, List, [], ◌∷◌, ◌++◌, length, get_or, set, take, drop}
use Rattle.std.proofs.Common.{refl, sym, ap, ◌∙◌, subst, arith, length-append}
use Rattle.std.specs.Prelude.{Option, Some, None, is_some, unwrap_or, count_by, map, position, remove, nat_lt}
use Rattle.std.specs.List.{position_or_len}
use Rattle.std.specs.Option.{option_and_then, option_map_or}
use Rattle.std.specs.Str.{bytes_eq}
use Rattle.std.proofs.lemmas.Bool.{cases_lt, lt-ltb, ltb-false, ltb-true}
use Rattle.std.proofs.lemmas.List.{take_all, drop_all, length-map, length-set, append-nil}
use Rattle.std.proofs.lemmas.List.Edits.{length-remove}
use Rattle.std.proofs.lemmas.List.Folds.{find_at}
use Rattle.std.proofs.lemmas.List.Sums.{sum_by-cons, sum_by-remove, sum_by-set, sum_by_push, passes_at_first}
use Rattle.std.proofs.lemmas.Option.{slice_get-get_or, slice_get_past}
use Rattle.std.proofs.lemmas.Slice.Eq.{bytes_eq-Decides}
use Rattle.worker_state.specs.declared.slot.WorkerName.{WorkerName}
use Rattle.unserved_jobs.specs.declared.job.UnservedJob.{UnservedJob}
use Rattle.unserved_jobs.specs.Unserved.{is_of, is_held, is_free, is_held_by, held_count, known, holder_of, left_now, without, with_room, after_left}
use Rattle.unserved_jobs.specs.Unserved.{hold_ms, free_hold_ms, next_hold_ms, once_held, given_back, EachOnce, IsTable}

-- how much one element adds to a count, by whether it passes
abbrev one_if : Bool → ℕ
one_if b = cond b 1 0

one_at_most : (b : Bool) → one_if b ≤ 1
one_at_most true = omega arith
one_at_most false = omega arith

none_if_not : (b : Bool) → not b ≡ true → one_if b ≡ 0
none_if_not true h = absurd (true≢false (sym h))
none_if_not false h = refl

module _ {X : Type 0} where
  -- nothing is taken out past the end
  pub remove_past : (xs : List X) (i : ℕ) → length xs ≤ i → remove xs i ≡ xs
  remove_past xs i h =
      let after : length xs ≤ suc i = omega (arith, h) in
      ap (λ (ys : List X). ys ++ drop (suc i) xs) (take_all i xs h) ∙ (ap (λ (ys : List X). xs ++ ys) (drop_all (suc i) xs after) ∙ append-nil xs)

module _ {X : Type 0} (p : X → Bool) where
  none_step : (b : Bool) (xs : List X) → suc (length xs) ≤ cond (not b) (1 + position_or_len p xs) 0 → (length xs ≤ position_or_len p xs → count_by p xs ≡ 0) → cond b 1 0 + count_by p xs ≡ 0
  none_step true xs h again = absurd (omega (arith, h))
  none_step false xs h again = let e : count_by p xs ≡ 0 = again (omega (arith, h)) in omega (arith, e)

  -- none passes if the first that does is past the end
  pub none_pass : (xs : List X) → length xs ≤ position_or_len p xs → count_by p xs ≡ 0
  none_pass [] h = refl
  none_pass (x ∷ xs) h = sum_by-cons (λ y. cond (p y) 1 0) x xs ∙ none_step (p x) xs h (none_pass xs)

  all_step : (b : Bool) (xs : List X) → suc (length xs) ≤ cond (not (not b)) (1 + position_or_len (λ x. not (p x)) xs) 0 → (length xs ≤ position_or_len (λ x. not (p x)) xs → count_by p xs ≡ length xs) → cond b 1 0 + count_by p xs ≡ suc (length xs)
  all_step false xs h again = absurd (omega (arith, h))
  all_step true xs h again = let e : count_by p xs ≡ length xs = again (omega (arith, h)) in omega (arith, e)

  -- all pass if the first that does not is past the end
  pub all_pass : (xs : List X) → length xs ≤ position_or_len (λ x. not (p x)) xs → count_by p xs ≡ length xs
  all_pass [] h = refl
  all_pass (x ∷ xs) h = sum_by-cons (λ y. cond (p y) 1 0) x xs ∙ all_step (p x) xs h (all_pass xs)

  -- one fewer passes without the first that does
  pub count_without_first : (xs : List X) (d : X) → position_or_len p xs < length xs → count_by p (remove xs (position_or_len p xs)) + 1 ≡ count_by p xs
  count_without_first xs d h =
      let one = ap one_if (passes_at_first p xs d h) in
      omega (arith, one, sum_by-remove (λ y. cond (p y) 1 0) xs (position_or_len p xs) d h)

  -- no more pass without one of them
  pub count_less : (xs : List X) (i : ℕ) → count_by p (remove xs i) ≤ count_by p xs
  count_less [] i = omega (arith, ap (count_by p) (remove_past {X = X} [] i (omega arith)))
  count_less (x ∷ xs) i =
      ⊎_elim
      (λ (within : i < length (x ∷ xs)). omega (arith, sum_by-remove (λ y. cond (p y) 1 0) (x ∷ xs) i x within))
      (λ (past : length (x ∷ xs) ≤ i). omega (arith, ap (count_by p) (remove_past (x ∷ xs) i past)))
      (cases_lt i (length (x ∷ xs)))

  -- no more pass once each was changed, if that makes none pass that did not
  pub count_mapped : (f : X → X) → ((x : X) → cond (p (f x)) 1 0 ≤ cond (p x) 1 0) → (xs : List X) → count_by p (map f xs) ≤ count_by p xs
  count_mapped f h [] = omega arith
  count_mapped f h (x ∷ xs) = omega (arith, sum_by-cons (λ y. cond (p y) 1 0) (f x) (map f xs), sum_by-cons (λ y. cond (p y) 1 0) x xs, h x, count_mapped f h xs)

  place_step : (xs : List X) (i : ℕ) (b : Bool) → nat_lt (position_or_len p xs) (length xs) ≡ b → Some i ≡ cond b (Some (position_or_len p xs)) None → (position_or_len p xs ≡ i) × (i < length xs)
  place_step xs i true e found =
      let at : position_or_len p xs ≡ i = sym (ap (λ (o : Option ℕ). unwrap_or o i) found) in
      let within : position_or_len p xs < length xs = ltb-true (position_or_len p xs) (length xs) e in
      (at, omega (arith, at, within))
  place_step xs i false e found = absurd (true≢false (ap is_some found))

  -- what `position` finds is the first place, and inside the list
  pub place_some : (xs : List X) (i : ℕ) → Some i ≡ position p xs → (position_or_len p xs ≡ i) × (i < length xs)
  place_some xs i found = place_step xs i (nat_lt (position_or_len p xs) (length xs)) refl found

  past_step : (xs : List X) (b : Bool) → nat_lt (position_or_len p xs) (length xs) ≡ b → None ≡ cond b (Some (position_or_len p xs)) None → length xs ≤ position_or_len p xs
  past_step xs true e found = absurd (true≢false (sym (ap is_some found)))
  past_step xs false e found = ltb-false (position_or_len p xs) (length xs) e

  -- if it finds nothing, the first place is past the end
  pub place_none : (xs : List X) → None ≡ position p xs → length xs ≤ position_or_len p xs
  place_none xs found = past_step xs (nat_lt (position_or_len p xs) (length xs)) refl found

-- what is known of a job stands at its place
known_at : (job : List ℕ) (jobs : List UnservedJob) (d : UnservedJob) → position_or_len (is_of job) jobs < length jobs → known job jobs ≡ Some (get_or jobs (position_or_len (is_of job) jobs) d)
known_at job jobs d h = find_at (is_of job) jobs ∙ slice_get-get_or jobs (position_or_len (is_of job) jobs) d h

unknown_past : (job : List ℕ) (jobs : List UnservedJob) → length jobs ≤ position_or_len (is_of job) jobs → known job jobs ≡ None
unknown_past job jobs h = find_at (is_of job) jobs ∙ slice_get_past jobs (position_or_len (is_of job) jobs) h

-- how many it adds that somebody holds a job of which this is known
abbrev held_one : Option UnservedJob → ℕ
held_one before = cond (is_some (holder_of before)) 1 0

-- how many are held without a job, and with it
held_without : (job : List ℕ) (jobs : List UnservedJob) → held_count (without job jobs) + held_one (known job jobs) ≡ held_count jobs
held_without job [] = refl
held_without job (x ∷ xs) =
    let jobs = x ∷ xs in
    let place = position_or_len (is_of job) (x ∷ xs) in
    ⊎_elim
    (λ (within : place < length jobs). omega (arith, ap held_one (known_at job jobs x within), sum_by-remove (λ y. cond (is_held y) 1 0) jobs place x within))
    (λ (past : length jobs ≤ place). omega (arith, ap held_one (unknown_past job jobs past), ap held_count (remove_past jobs place past)))
    (cases_lt place (length jobs))

-- nobody gives a job back to make room
held_without_free : (jobs : List UnservedJob) → held_count (remove jobs (position_or_len is_free jobs)) ≡ held_count jobs
held_without_free [] = refl
held_without_free (x ∷ xs) =
    let jobs = x ∷ xs in
    let place = position_or_len is_free (x ∷ xs) in
    ⊎_elim
    (λ (within : place < length jobs). omega (arith, sum_by-remove (λ y. cond (is_held y) 1 0) jobs place x within, none_if_not (is_held (get_or jobs place x)) (passes_at_first is_free jobs x within)))
    (λ (past : length jobs ≤ place). ap held_count (remove_past jobs place past))
    (cases_lt place (length jobs))

-- of more jobs than are held, one is held by nobody
some_free : (jobs : List UnservedJob) → held_count jobs < length jobs → position_or_len is_free jobs < length jobs
some_free jobs h =
    ⊎_elim
    (λ (within : position_or_len is_free jobs < length jobs). within)
    (λ (past : length jobs ≤ position_or_len is_free jobs). absurd (omega (arith, h, all_pass is_held jobs past)))
    (cases_lt (position_or_len is_free jobs) (length jobs))

-- there is room for one more
length-with_room : (jobs : List UnservedJob) → length jobs ≤ 256 → held_count jobs ≤ 64 → length (with_room jobs) ≤ 255
length-with_room jobs few held = step (nat_lt (length jobs) 256) refl
  where
    step : (b : Bool) → nat_lt (length jobs) 256 ≡ b → length (cond b jobs (remove jobs (position_or_len is_free jobs))) ≤ 255
    step true e = omega (arith, ltb-true (length jobs) 256 e)
    step false e =
        let full : 256 ≤ length jobs = ltb-false (length jobs) 256 e in
        let within : position_or_len is_free jobs < length jobs = some_free jobs (omega (arith, full, held)) in
        omega (arith, few, length-remove jobs (position_or_len is_free jobs) within)

held-with_room : (jobs : List UnservedJob) → held_count (with_room jobs) ≡ held_count jobs
held-with_room jobs = step (nat_lt (length jobs) 256)
  where
    step : (b : Bool) → held_count (cond b jobs (remove jobs (position_or_len is_free jobs))) ≡ held_count jobs
    step true = refl
    step false = held_without_free jobs

count-with_room : (p : UnservedJob → Bool) (jobs : List UnservedJob) → count_by p (with_room jobs) ≤ count_by p jobs
count-with_room p jobs = step (nat_lt (length jobs) 256)
  where
    step : (b : Bool) → count_by p (cond b jobs (remove jobs (position_or_len is_free jobs))) ≤ count_by p jobs
    step true = omega arith
    step false = count_less p jobs (position_or_len is_free jobs)

-- once a job is taken out, it is not there
gone : (job : List ℕ) (jobs : List UnservedJob) → EachOnce jobs → count_by (is_of job) (without job jobs) ≡ 0
gone job [] once = refl
gone job (x ∷ xs) once =
    let jobs = x ∷ xs in
    let place = position_or_len (is_of job) (x ∷ xs) in
    ⊎_elim
    (λ (within : place < length jobs). omega (arith, once job, count_without_first (is_of job) jobs x within))
    (λ (past : length jobs ≤ place). ap (count_by (is_of job)) (remove_past jobs place past) ∙ none_pass (is_of job) jobs past)
    (cases_lt place (length jobs))

same_job : (left : UnservedJob) (job : List ℕ) → is_of job left ≡ true → left.handle ≡ job
same_job left job h = (bytes_eq-Decides left.handle job).0 h

-- a job that is not there is put in
once_more : (jobs : List UnservedJob) (left : UnservedJob) → EachOnce jobs → count_by (is_of left.handle) jobs ≡ 0 → EachOnce (jobs ++ left ∷ [])
once_more jobs left once new job = omega (arith, sum_by_push (λ y. cond (is_of job y) 1 0) jobs left, step (is_of job left) refl)
  where
    step : (b : Bool) → is_of job left ≡ b → count_by (is_of job) jobs + cond b 1 0 ≤ 1
    step true e =
        let none : count_by (is_of job) jobs ≡ 0 = subst (λ (h : List ℕ). count_by (is_of h) jobs ≡ 0) (same_job left job e) new in
        omega (arith, none)
    step false e = omega (arith, once job)

length-without : (job : List ℕ) (jobs : List UnservedJob) → length (without job jobs) ≤ length jobs
length-without job jobs =
    ⊎_elim
    (λ (within : position_or_len (is_of job) jobs < length jobs). omega (arith, length-remove jobs (position_or_len (is_of job) jobs) within))
    (λ (past : length jobs ≤ position_or_len (is_of job) jobs). omega (arith, ap (length {A = UnservedJob}) (remove_past jobs (position_or_len (is_of job) jobs) past)))
    (cases_lt (position_or_len (is_of job) jobs) (length jobs))

-- a table stays one if a job is taken out
pub table_without : (job : List ℕ) (jobs : List UnservedJob) → IsTable jobs → IsTable (without job jobs)
table_without job jobs t = record {
  few = omega (arith, length-without job jobs, t.few);
  few_held = omega (arith, count_less is_held jobs (position_or_len (is_of job) jobs), t.few_held);
  each_once = λ other. omega (arith, t.each_once other, count_less (is_of other) jobs (position_or_len (is_of job) jobs));
}

-- how many are held once a job was left
pub held-after_left : (job : List ℕ) (now_ms : ℕ) (jobs : List UnservedJob) → held_count (after_left job now_ms jobs) ≡ held_count jobs
held-after_left job now_ms jobs =
    omega (
      arith,
      sum_by_push (λ y. cond (is_held y) 1 0) (with_room (without job jobs)) (left_now job now_ms (known job jobs)),
      held-with_room (without job jobs),
      held_without job jobs,
    )

-- a table stays one if a job was left
pub table-after_left : (job : List ℕ) (now_ms : ℕ) (jobs : List UnservedJob) → IsTable jobs → IsTable (after_left job now_ms jobs)
table-after_left job now_ms jobs t =
    let left = left_now job now_ms (known job jobs) in
    let rest = without job jobs in
    let w = table_without job jobs t in
    let none : count_by (is_of job) (with_room rest) ≡ 0 = omega (arith, gone job jobs t.each_once, count-with_room (is_of job) rest) in
    record {
      few = omega (arith, length-with_room rest w.few w.few_held, length-append (with_room rest) (left ∷ []));
      few_held = omega (arith, held-after_left job now_ms jobs, t.few_held);
      each_once = once_more (with_room rest) left (λ other. omega (arith, w.each_once other, count-with_room (is_of other) rest)) none;
    }

-- a table stays one if one of its jobs is held, unless too many are
pub table_set : (jobs : List UnservedJob) (place : ℕ) (old new : UnservedJob) → place < length jobs → old ≡ get_or jobs place old → new.handle ≡ old.handle → held_count jobs < 64 → IsTable jobs → IsTable (set jobs place new)
table_set jobs place old new within there same few t = record {
  few = omega (arith, length-set jobs place new, t.few);
  few_held = omega (arith, few, sum_by-set (λ y. cond (is_held y) 1 0) jobs place new old within, one_at_most (is_held new));
  each_once = λ job.
      let handles : new.handle ≡ (get_or jobs place old).handle = same ∙ ap (λ (left : UnservedJob). left.handle) there in
      let was = ap (λ (handle : List ℕ). one_if (bytes_eq handle job)) handles in
      omega (arith, t.each_once job, was, sum_by-set (λ y. cond (is_of job y) 1 0) jobs place new old within);
}

fewer_held : (left : UnservedJob) (b : Bool) → cond (is_held (cond b (record left { held_by = None }) left)) 1 0 ≤ cond (is_held left) 1 0
fewer_held left true = omega arith
fewer_held left false = omega arith

same_handle : (job : List ℕ) (left : UnservedJob) (b : Bool) → cond (is_of job (cond b (record left { held_by = None }) left)) 1 0 ≤ cond (is_of job left) 1 0
same_handle job left true = omega arith
same_handle job left false = omega arith

-- a table stays one if a worker gives back what it holds
pub table_given_back : (worker : WorkerName) (jobs : List UnservedJob) → IsTable jobs → IsTable (map (given_back worker) jobs)
table_given_back worker jobs t = record {
  few = omega (arith, length-map jobs (given_back worker), t.few);
  few_held = omega (arith, count_mapped is_held (given_back worker) (λ left. fewer_held left (is_held_by worker left)) jobs, t.few_held);
  each_once = λ job. omega (arith, t.each_once job, count_mapped (is_of job) (given_back worker) (λ left. same_handle job left (is_held_by worker left)) jobs);
}

-- the items of a vector once a call wrote the slice that it lent
pub written_back : (change : UnservedJob → UnservedJob) (jobs new : List UnservedJob) (len : ℕ) → len ≡ length jobs → new ≡ map change jobs → take len (new ++ drop (length new) jobs) ≡ map change jobs
written_back change jobs new len long is =
    let same : length new ≡ length jobs = ap (length {A = UnservedJob}) is ∙ length-map jobs change in
    let after : length jobs ≤ length new = omega (arith, same) in
    let all : length new ≤ len = omega (arith, same, long) in
    ap (λ (ys : List UnservedJob). take len (new ++ ys)) (drop_all (length new) jobs after) ∙ (ap (take len) (append-nil new) ∙ (take_all len new all ∙ is))

-- What is known of a job, by what `position` found in a slice of these jobs.
pub known_none : (job : List ℕ) (jobs slice : List UnservedJob) (found : Option ℕ) → slice ≡ jobs → found ≡ position (is_of job) slice → found ≡ None → known job jobs ≡ None
known_none job jobs slice found same is none = unknown_past job jobs (place_none (is_of job) jobs (sym none ∙ (is ∙ ap (position (is_of job)) same)))

pub place_of_known : (job : List ℕ) (jobs slice : List UnservedJob) (found : Option ℕ) (place : ℕ) → slice ≡ jobs → found ≡ position (is_of job) slice → found ≡ Some place → (position_or_len (is_of job) jobs ≡ place) × (place < length jobs)
place_of_known job jobs slice found place same is some = place_some (is_of job) jobs place (sym some ∙ (is ∙ ap (position (is_of job)) same))

pub known_some : (job : List ℕ) (jobs : List UnservedJob) (place : ℕ) (left : UnservedJob) → (position_or_len (is_of job) jobs ≡ place) × (place < length jobs) → left ≡ get_or jobs place left → known job jobs ≡ Some left
known_some job jobs place left at is =
    let within : position_or_len (is_of job) jobs < length jobs = omega (arith, at.0, at.1) in
    known_at job jobs left within ∙ ap Some (ap (λ (i : ℕ). get_or jobs i left) at.0 ∙ sym is)

-- one job is known, and no other
pub known_same : (job : List ℕ) (jobs : List UnservedJob) (one other : UnservedJob) → known job jobs ≡ Some one → known job jobs ≡ Some other → one ≡ other
known_same job jobs one other is also = ap (λ (o : Option UnservedJob). unwrap_or o one) (sym is ∙ also)

-- a full table has a job that nobody holds
pub full_has_free : (jobs slice : List UnservedJob) (found : Option ℕ) → IsTable jobs → 256 ≤ length jobs → slice ≡ jobs → found ≡ position is_free slice → found ≡ None → ⊥
full_has_free jobs slice found t full same is none =
    let past = place_none is_free jobs (sym none ∙ (is ∙ ap (position is_free) same)) in
    let few = t.few_held in
    let within = some_free jobs (omega (arith, few, full)) in
    omega (arith, past, within)

cond_same : {X : Type 0} (b : Bool) (x : X) → cond b x x ≡ x
cond_same true x = refl
cond_same false x = refl

-- How long a job is held next, by what is known of it.
abbrev next_by : Bool → Option UnservedJob → Option ℕ
next_by has_room before = cond has_room (option_and_then free_hold_ms before) None

abbrev next_of : Bool → Bool → UnservedJob → Option ℕ
next_of has_room is_taken left = cond has_room (cond is_taken None (hold_ms left.times)) None

pub next_unknown : (job : List ℕ) (jobs : List UnservedJob) → known job jobs ≡ None → next_hold_ms job jobs ≡ None
next_unknown job jobs e = ap (next_by (nat_lt (held_count jobs) 64)) e ∙ cond_same (nat_lt (held_count jobs) 64) None

pub next_taken : (job : List ℕ) (jobs : List UnservedJob) (left : UnservedJob) → known job jobs ≡ Some left → is_held left ≡ true → next_hold_ms job jobs ≡ None
next_taken job jobs left e taken =
    let room = nat_lt (held_count jobs) 64 in
    ap (next_by room) e ∙ (ap (λ (b : Bool). next_of room b left) taken ∙ cond_same room None)

pub next_first : (job : List ℕ) (jobs : List UnservedJob) (left : UnservedJob) → known job jobs ≡ Some left → hold_ms left.times ≡ None → next_hold_ms job jobs ≡ None
next_first job jobs left e first = ap (next_by (nat_lt (held_count jobs) 64)) e ∙ step (nat_lt (held_count jobs) 64) (is_held left)
  where
    step : (b c : Bool) → next_of b c left ≡ None
    step true true = refl
    step true false = first
    step false c = refl

pub next_again : (job : List ℕ) (jobs : List UnservedJob) (left : UnservedJob) (ms : ℕ) → held_count jobs < 64 → known job jobs ≡ Some left → is_held left ≡ false → hold_ms left.times ≡ Some ms → next_hold_ms job jobs ≡ Some ms
next_again job jobs left ms few e free again =
    let room = lt-ltb (held_count jobs) 64 few in
    ap (next_by (nat_lt (held_count jobs) 64)) e ∙ (ap (λ (b : Bool). next_of b (is_held left) left) room ∙ (ap (λ (b : Bool). next_of true b left) free ∙ again))

-- the list after a write over what is known of a job
pub once_held_is : (worker : WorkerName) (job : List ℕ) (jobs : List UnservedJob) (place : ℕ) (left : UnservedJob) → (position_or_len (is_of job) jobs ≡ place) × (place < length jobs) → known job jobs ≡ Some left → set jobs place (record left { held_by = Some worker }) ≡ once_held worker job jobs
once_held_is worker job jobs place left at found =
    ap (λ (i : ℕ). set jobs i (record left { held_by = Some worker })) (sym at.0)
    ∙ ap (λ (before : Option UnservedJob). option_map_or (λ (known : UnservedJob). set jobs (position_or_len (is_of job) jobs) (record known { held_by = Some worker })) before jobs) (sym found)
