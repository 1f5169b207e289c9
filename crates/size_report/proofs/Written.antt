-- Lines that are left to write, and the workers that a size names.
use Rattle.std.proofs.Common.{◌≡◌, ℕ, ◌+◌, ◌-◌, ◌<◌, suc, List, ◌++◌, true, Option, length, get_or, All, ap, sym, ◌∙◌, inl, inr, arith}
use Rattle.std.specs.Prelude.{Result, Ok, Err, OnOk}
use Rattle.std.specs.List.{flat_map, list_all, range_with_len}
use Rattle.std.proofs.lemmas.Bool.{and_parts, cases_lt, ltb-true}
use Rattle.std.proofs.lemmas.List.Sums.{AllPass-from_list_all}
use Rattle.plan_model.specs.Planning.{is_live}
use Rattle.plan_sizing.specs.Shown.{IsPermitted}
use Rattle.plan_sizing.specs.Sizing.{Farm, IsFarm, grown}
use Rattle.plan_sizing.proofs.Grown.{live_above}

pub left_on : (f : ℕ → List ℕ) (n k : ℕ) → k < n → flat_map f (range_with_len k (n - k)) ≡ f k ++ flat_map f (range_with_len (k + 1) (n - (k + 1)))
left_on f n k below =
    let more : n - k ≡ suc (n - (k + 1)) = omega (arith, below) in
    ap (λ m. flat_map f (range_with_len k m)) more

-- who is live in the farm that has grown has a slot of the farm or of an added worker
slot_of_live : (farm : Farm) (added : List ℕ) (slot : ℕ) → IsFarm farm → is_live (grown farm added) slot ≡ true → slot < farm.slots + length added
slot_of_live farm added slot valid live = elim (cases_lt slot farm.slots) [
  | inl low ↦ omega (arith, low)
  | inr past ↦ omega (arith, past, ltb-true (slot - farm.slots) (length added) (sym (live_above farm added slot valid past) ∙ live))
]

pub listed_slots : (farm : Farm) (added : List ℕ) (entries : List (ℕ × Option ℕ)) → IsFarm farm → IsPermitted farm added entries
    → All (λ entry. entry.0 < farm.slots + length added) entries
listed_slots farm added entries valid permitted k d inside =
    let parts = and_parts (list_all (λ entry. is_live (grown farm added) entry.0) entries) _ permitted.plan in
    slot_of_live farm added (get_or entries k d).0 valid (AllPass-from_list_all (λ entry. is_live (grown farm added) entry.0) entries parts.0 k d inside)

-- what holds on success gives what follows from it
pub on_ok : {T E A B : Type 0} (r : Result T E) → OnOk r A → (A → B) → OnOk r B
on_ok (Ok x) holds next = next holds
on_ok (Err e) holds next = tt
