-- The tables of slots, place by place.
use Rattle.std.proofs.Common.{◌≡◌, ℕ, ◌+◌, ◌-◌, ◌<◌, ◌≤◌, List, [], ◌∷◌, ◌++◌, zero, suc, length, take, get_or, replicate, refl, ap, subst, ◌∙◌, inl, inr, arith, length-append}
use Rattle.std.specs.Prelude.{sum}
use Rattle.std.proofs.lemmas.Bool.{cases_lt}
use Rattle.std.proofs.lemmas.List.{get_or-append_right, get_or-replicate, get_or_append_left, length-replicate}
use Rattle.std.proofs.lemmas.List.Sums.{sum_by-cons}
use Rattle.pool_settings.specs.Settings.{AreSettings, Settings}
use Rattle.pool_settings.specs.Slots.{firsts_from, machine_of, owners_from}

sum-cons : (x : ℕ) (xs : List ℕ) → sum (x ∷ xs) ≡ x + sum xs
sum-cons x xs = sum_by-cons (λ x. x) x xs

pub length-firsts_from : (n : ℕ) (workers : List ℕ) → length (firsts_from n workers) ≡ length workers
length-firsts_from n [] = refl
length-firsts_from n (w ∷ ws) = ap suc (length-firsts_from (n + w) ws)

pub firsts_from-at : (n : ℕ) (workers : List ℕ) (m : ℕ) → m < length workers → get_or (firsts_from n workers) m 0 ≡ n + sum (take m workers)
firsts_from-at n [] m h = absurd (omega arith)
firsts_from-at n (w ∷ ws) zero h = omega arith
firsts_from-at n (w ∷ ws) (suc m) h = firsts_from-at (n + w) ws m (omega arith) ∙ omega (arith, sum-cons w (take m ws))

pub length-owners_from : (m : ℕ) (workers : List ℕ) → length (owners_from m workers) ≡ sum workers
length-owners_from m [] = refl
length-owners_from m (w ∷ ws) = omega (arith, length-append (replicate w m) (owners_from (m + 1) ws), length-replicate w m, length-owners_from (m + 1) ws, sum-cons w ws)

-- a machine's slots are among all
pub sum-room : (workers : List ℕ) (m : ℕ) → m < length workers → sum (take m workers) + get_or workers m 0 ≤ sum workers
sum-room [] m h = absurd (omega arith)
sum-room (w ∷ ws) zero h = omega (arith, sum-cons w ws)
sum-room (w ∷ ws) (suc m) h = omega (arith, sum-room ws m (omega arith), sum-cons w ws, sum-cons w (take m ws))

-- the slot is one of the machine at this place
pub record IsAt (workers : List ℕ) (place slot : ℕ) : Type 0 where
  pub there : place < length workers
  pub from : sum (take place workers) ≤ slot
  pub to : slot < sum (take place workers) + get_or workers place 0

pub owner_at : (m : ℕ) (workers : List ℕ) (slot : ℕ) → slot < sum workers → (place : ℕ) × (get_or (owners_from m workers) slot 0 ≡ m + place) × IsAt workers place slot
owner_at m [] slot h = absurd (omega arith)
owner_at m (w ∷ ws) slot h = elim (cases_lt slot w) [
  | inl here ↦ (
    0,
    get_or_append_left (replicate w m) (owners_from (m + 1) ws) 0 slot (omega (arith, length-replicate w m)) ∙ get_or-replicate w slot m 0 here ∙ omega arith,
    record { there = omega arith; from = omega arith; to = omega arith },
  )
  | inr later ↦ (
      let next = owner_at (m + 1) ws (slot - w) (omega (arith, sum-cons w ws)) in
      let after : get_or (replicate w m ++ owners_from (m + 1) ws) slot 0 ≡ get_or (owners_from (m + 1) ws) (slot - w) 0 =
      get_or-append_right (replicate w m) (owners_from (m + 1) ws) w slot 0 (length-replicate w m) later in (
        suc next.0,
        after ∙ next.1 ∙ omega arith,
        record { there = omega (arith, next.2.there); from = omega (arith, next.2.from, sum-cons w (take next.0 ws)); to = omega (arith, next.2.to, sum-cons w (take next.0 ws)) },
      ))
]

-- the machine of a slot has it among its own
pub machine_found : (p : Settings) (slot machine : ℕ) → AreSettings p → slot < sum p.workers → machine ≡ machine_of p slot → IsAt p.workers machine slot
machine_found p slot machine valid below is =
    let own = owner_at 0 p.workers slot below in
    let same : own.0 ≡ machine = omega (arith, own.1, is) in
    subst (λ m. IsAt p.workers m slot) same own.2
