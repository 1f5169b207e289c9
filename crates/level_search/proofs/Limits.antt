-- needs are within the greatest numbers, or above all workers
use Rattle.std.proofs.Common.{◌≡◌, ℕ, zero, suc, ◌+◌, ◌-◌, ◌<◌, ◌≤◌, ◌⊎◌, min, Bool, leb, List, length, get_or, find, unwrap_or, refl, ap, arith, inl, inr}
use Rattle.std.specs.List.{range_with_len}
use Rattle.std.proofs.lemmas.Bool.{cases_Bool}
use Rattle.std.proofs.lemmas.List.{length-map}
use Rattle.plan_model.specs.Planning.{Instance, need, counted_waiting, cost}
use Rattle.round_arena.specs.declared.tables.Tables.{Tables}
use Rattle.round_arena.specs.Round.{IsConsistent}
use Rattle.augment.specs.Round.{AreLimited}
use Rattle.level_search.specs.Levels.{AreNeeds, Fits}

-- what is found in a range lies in it
found_in : (p : ℕ → Bool) (from many d : ℕ) → ((from ≤ unwrap_or (find p (range_with_len from many)) d) × (unwrap_or (find p (range_with_len from many)) d < from + many)) ⊎ (unwrap_or (find p (range_with_len from many)) d ≡ d)
found_in p from zero d = inr refl
found_in p from (suc many) d =
    elim (cases_Bool (p from)) [
      | inl passes ↦ rw passes (inl (omega arith, omega arith))
      | inr fails ↦ rw fails (wider p from many d (found_in p (from + 1) many d))
    ]
  where
    wider : (p : ℕ → Bool) (from many d : ℕ) → ((from + 1 ≤ unwrap_or (find p (range_with_len (from + 1) many)) d) × (unwrap_or (find p (range_with_len (from + 1) many)) d < from + 1 + many)) ⊎ (unwrap_or (find p (range_with_len (from + 1) many)) d ≡ d)
        → ((from ≤ unwrap_or (find p (range_with_len (from + 1) many)) d) × (unwrap_or (find p (range_with_len (from + 1) many)) d < from + suc many)) ⊎ (unwrap_or (find p (range_with_len (from + 1) many)) d ≡ d)
    wider p from many d h = elim h [
      | inl inside ↦ inl (omega (arith, inside.0), omega (arith, inside.1))
      | inr none ↦ inr none
    ]

need-limited : (i : Instance) (level f : ℕ) → (need i level f ≤ get_or i.most f 0) ⊎ (need i level f ≡ length i.live + 1)
need-limited i level f =
    elim (found_in (λ n. leb (cost (counted_waiting i f) n) level) (get_or i.least f 0) (min (length i.live) (get_or i.most f 0) + 1 - get_or i.least f 0) (length i.live + 1)) [
      | inl inside ↦ inl (omega (arith, inside.0, inside.1))
      | inr none ↦ inr none
    ]

pub AreLimited-needs : (i : Instance) (needs : List ℕ) (level : ℕ) (t : Tables) → AreNeeds i level needs → IsConsistent (length i.least) t → Fits i t → AreLimited needs t
AreLimited-needs i needs level t e sound fits f l =
    let is = e.each f (omega (arith, l, e.size)) in
    elim (need-limited i level f) [
      | inl within ↦ inl (omega (arith, is, within, ap (λ m. get_or m f 0) fits.most))
      | inr none ↦ inr (omega (arith, is, none, sound.staff, ap length fits.machines, length-map i.live (λ worker. worker.1)))
    ]
