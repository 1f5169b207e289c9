-- The parts of the planning problem are taken as they are.
use Rattle.std.proofs.Common.{◌≡◌, ℕ, ◌+◌, ◌<◌, ◌≤◌, List, [], ◌∷◌, Bool, true, false, map, filter, length, get_or, All, refl, sym, subst, ap, ◌∙◌, arith}
use Rattle.std.specs.Prelude.{sum}
use Rattle.std.specs.List.{enumerate_from, range_with_len}
use Rattle.std.specs.List.Sorted.{IsStrictlyIncreasing}
use Rattle.std.proofs.lemmas.List.Elements.{All-filter, All-from_get_or}
use Rattle.std.proofs.lemmas.List.FromFn.{get_or-enumerate_from, length-enumerate_from}
use Rattle.std.proofs.lemmas.List.Kept.{IsStrictlyIncreasing-filter}
use Rattle.plan_model.specs.InputRefusals.{AreSlotsInOrder, IsTaken, as_given, instance}
use Rattle.plan_model.proofs.Ranges.{range-rises}
use Rattle.pool_settings.specs.Settings.{AreSettings, Settings}
use Rattle.pool_settings.specs.Slots.{all_workers, live_workers, owners}
use Rattle.pool_settings.specs.Planning.{instance_of}
use Rattle.pool_settings.proofs.Risen.{rows_same}
use Rattle.pool_settings.proofs.SlotSums.{length-owners_from, owner_at}

-- the slots of numbered machines that pass a test are the numbers that do
slots_filtered : (test : ℕ → Bool) (n : ℕ) (machines : List ℕ) → map (λ w. w.0) (filter (λ w. test w.0) (enumerate_from n machines)) ≡ filter test (range_with_len n (length machines))
slots_filtered test n [] = refl
slots_filtered test n (m ∷ ms) = by (test n) refl (slots_filtered test (n + 1) ms)
  where
    by : (b : Bool) → test n ≡ b → map (λ w. w.0) (filter (λ w. test w.0) (enumerate_from (n + 1) ms)) ≡ filter test (range_with_len (n + 1) (length ms))
        → map (λ w. w.0) (filter (λ w. test w.0) (enumerate_from n (m ∷ ms))) ≡ filter test (range_with_len n (length (m ∷ ms)))
    by true is rest = rw is (ap (λ t. n ∷ t) rest)
    by false is rest = rw is rest

fewer : {X : Type 0} (p : X → Bool) (xs : List X) → length (filter p xs) ≤ length xs
fewer p [] = omega arith
fewer p (x ∷ xs) = by (p x) refl (fewer p xs)
  where
    by : (b : Bool) → p x ≡ b → length (filter p xs) ≤ length xs → length (filter p (x ∷ xs)) ≤ length (x ∷ xs)
    by true is rest = rw is (omega (arith, rest))
    by false is rest = rw is (omega (arith, rest))

module _ (p : Settings) (valid : AreSettings p) (live : List Bool) where
  many : length (owners p) ≡ sum p.workers
  many = length-owners_from 0 p.workers

  order : AreSlotsInOrder (live_workers p live)
  order =
      subst IsStrictlyIncreasing (sym (slots_filtered (λ slot. get_or live slot false) 0 (owners p)))
      (IsStrictlyIncreasing-filter (λ slot. get_or live slot false) (range_with_len 0 (length (owners p))) (range-rises (length (owners p))))

  machines : All (λ w. w.1 < length p.may) (live_workers p live)
  machines = All-filter (λ w. get_or live w.0 false) (λ w. w.1 < length p.may) (all_workers p) (All-from_get_or (λ w. w.1 < length p.may) (all_workers p) (0, 0) each)
    where
      each : (k : ℕ) → k < length (all_workers p) → (get_or (all_workers p) k (0, 0)).1 < length p.may
      each k below =
          let inside : k < length (owners p) = omega (arith, length-enumerate_from 0 (owners p), below) in
          let at = get_or-enumerate_from 0 (owners p) k (0, 0) inside in
          let own = owner_at 0 p.workers k (omega (arith, many, inside)) in
          rw at (omega (arith, own.1, own.2.there, valid.workers_paired, valid.may_paired))

  slots : All (λ w. w.0 < 4096) (live_workers p live)
  slots = All-filter (λ w. get_or live w.0 false) (λ w. w.0 < 4096) (all_workers p) (All-from_get_or (λ w. w.0 < 4096) (all_workers p) (0, 0) each)
    where
      each : (k : ℕ) → k < length (all_workers p) → (get_or (all_workers p) k (0, 0)).0 < 4096
      each k below =
          let inside : k < length (owners p) = omega (arith, length-enumerate_from 0 (owners p), below) in
          let at = get_or-enumerate_from 0 (owners p) k (0, 0) inside in
          rw at (omega (arith, inside, many, valid.workers_few))

  -- a planner takes them
  pub taken : (waiting : List ℕ) → length waiting ≡ length p.functions → IsTaken (as_given (live_workers p live) p.may p.least p.most waiting)
  taken waiting paired = record {
    order = order;
    numbers = record { machines = machines; functions = subst (λ n. All (λ row. All (λ f. f < n) row) p.may) (sym valid.least_paired) valid.may_within; bounded = valid.most_paired ∙ sym valid.least_paired; paired = paired ∙ sym valid.least_paired };
    limits = record {
      machines = omega (arith, valid.may_paired, valid.machines_few);
      functions = omega (arith, valid.least_paired, valid.functions_few);
      workers = omega (arith, fewer (λ (w : ℕ × ℕ). get_or live w.0 false) (all_workers p), length-enumerate_from 0 (owners p), many, valid.workers_few);
      slots = slots;
    };
  }

  -- and leaves the permissions as they are
  pub planned : (waiting : List ℕ) → instance (live_workers p live) p.may p.least p.most waiting ≡ instance_of p live waiting
  planned waiting =
      let within = subst (λ n. All (λ row. All (λ f. f < n) row) p.may) (sym valid.least_paired) valid.may_within in
      ap (λ (rows : List (List ℕ)). record { live = live_workers p live; may = rows; least = p.least; most = p.most; waiting = waiting }) (rows_same (length p.least) p.may valid.may_rise within)

-- the parts that are handed on are those of the settings
pub record AreParts (live : List (ℕ × ℕ)) (may : List (List ℕ)) (least most : List ℕ) (p : Settings) (marks : List Bool) : Type 0 where
  pub live_is : live ≡ live_workers p marks
  pub may_is : may ≡ p.may
  pub least_is : least ≡ p.least
  pub most_is : most ≡ p.most

module _ (live : List (ℕ × ℕ)) (may : List (List ℕ)) (least most waiting : List ℕ) (p : Settings) (marks : List Bool) (parts : AreParts live may least most p marks) where
  pub same_instance : instance live may least most waiting ≡ instance (live_workers p marks) p.may p.least p.most waiting
  same_instance =
      ap (λ t. instance t may least most waiting) parts.live_is ∙ ap (λ t. instance (live_workers p marks) t least most waiting) parts.may_is
      ∙ ap (λ t. instance (live_workers p marks) p.may t most waiting) parts.least_is ∙ ap (λ t. instance (live_workers p marks) p.may p.least t waiting) parts.most_is

  pub same_taken : IsTaken (as_given (live_workers p marks) p.may p.least p.most waiting) → IsTaken (as_given live may least most waiting)
  same_taken taken =
      subst (λ t. IsTaken (as_given t may least most waiting)) (sym parts.live_is) (subst (λ t. IsTaken (as_given (live_workers p marks) t least most waiting)) (sym parts.may_is)
      (subst (λ t. IsTaken (as_given (live_workers p marks) p.may t most waiting)) (sym parts.least_is) (subst (λ t. IsTaken (as_given (live_workers p marks) p.may p.least t waiting)) (sym parts.most_is) taken)))
