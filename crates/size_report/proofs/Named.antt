-- Names of workers of a farm that has grown, found again.
use Rattle.std.proofs.Common.{◌≡◌, ℕ, ◌+◌, ◌-◌, ◌^◌, ◌<◌, ◌≤◌, List, ◌++◌, true, false, Some, None, ltb, leb, length, get_or, All, refl, ap, subst, ◌∙◌, inl, inr, arith}
use Rattle.std.specs.Prelude.{codes}
use Rattle.std.specs.Fmt.{decimal}
use Rattle.std.specs.List.{slice_get}
use Rattle.std.specs.Option.{option_or}
use Rattle.std.proofs.lemmas.Bool.{cases_lt, eq-eqb, le-leb, le-ltb, lt-ltb, ltb-true}
use Rattle.std.proofs.lemmas.List.Sums.{prefix_len_passes}
use Rattle.std.proofs.lemmas.Option.{slice_get-get_or}
use Rattle.pool_settings.specs.Names.{name_at, place_of}
use Rattle.pool_settings.specs.Settings.{AreSettings, Settings}
use Rattle.pool_settings.specs.Slots.{machine_of, slot_named, slots, worker_number}
use Rattle.pool_settings.proofs.Searches.{place_is}
use Rattle.pool_settings.proofs.SlotSums.{machine_found, sum-room}
use Rattle.pool_report.proofs.Found.{name_cut, worker_found}
use Rattle.size_report.specs.Grown.{added_slot_named, first_added, grown_slot_named, number_at, slot_if_on, worker_at, worker_of}
use Rattle.text_pieces.proofs.Digits.{plain_decimal}

-- the workers on lower machines come before
first_before : (added : List ℕ) (place : ℕ) → first_added added (get_or added place 0) ≤ place
first_before added place = elim (cases_lt place (first_added added (get_or added place 0))) [
  | inl low ↦ (
      let below : get_or added place 0 < get_or added place 0 = ltb-true _ _ (prefix_len_passes (λ other. ltb other (get_or added place 0)) added place 0 low) in
      absurd (omega (arith, below)))
  | inr past ↦ past
]

module _ (p : Settings) (valid : AreSettings p) (added : List ℕ) where
  -- the worker's machine is there, its number is small, and its name is that of the slot
  pub record IsBack (worker : ℕ × ℕ) (slot : ℕ) : Type 0 where
    pub machine : worker.0 < length p.machines
    pub small : worker.1 < 2 ^ 64
    pub found : grown_slot_named p added (name_at p.machines worker.0 ++ codes "/" ++ decimal worker.1) ≡ Some slot

  low_back : (slot : ℕ) → slot < slots p → IsBack (machine_of p slot, worker_number p slot) slot
  low_back slot low =
      let machine = machine_of p slot in
      let here = machine_found p slot machine valid low refl in
      let name = name_at p.machines machine ++ codes "/" ++ decimal (worker_number p slot) in
      record {
        machine = omega (arith, here.there, valid.workers_paired);
        small = omega (arith, here.from, here.to, sum-room p.workers machine here.there, valid.workers_few);
        found = ap (λ o. option_or o (added_slot_named p added name)) (worker_found p valid (λ s. None) slot machine here);
      }

  module _ (there : All (λ m. m < length p.machines) added) (few : length added ≤ 4096) where
    high_back : (place : ℕ) → place < length added → IsBack (worker_at p added place) (slots p + place)
    high_back place inside =
        let m = get_or added place 0 in
        let own = get_or p.workers m 0 in
        let before = first_added added m in
        let n = number_at p added place in
        let name = name_at p.machines m ++ codes "/" ++ decimal n in
        let known : m < length p.machines = there place 0 inside in
        let order : before ≤ place = first_before added place in
        let room = sum-room p.workers m (omega (arith, known, valid.workers_paired)) in
        let small : n < 2 ^ 32 = omega (arith, room, valid.workers_few, inside, few) in
        let wide : n < 2 ^ 64 = omega (arith, small) in
        let cut = name_cut p valid (name_at p.machines m) n wide in
        let at : place_of p.machines (name_at p.machines m) ≡ Some m = place_is p.machines (name_at p.machines m) m valid.machines_rise known refl in
        let number = plain_decimal (2 ^ 32) n small wide in
        let not_own : ltb n own ≡ false = le-ltb n own (omega arith) in
        let further : leb own n ≡ true = le-leb own n (omega arith) in
        let index : before + (n - own) ≡ place = omega (arith, order) in
        let got : slice_get added place ≡ Some m = slice_get-get_or added place 0 inside in
        let one : slot_named p name ≡ None = rw (cut, at, number, not_own) refl in
        let two : added_slot_named p added name ≡ slot_if_on p added m (before + (n - own)) = rw (cut, at, number, further) refl in
        let four : slot_if_on p added m place ≡ Some (slots p + place) = rw (got, eq-eqb m m refl) refl in
        record {
          machine = known;
          small = wide;
          found = ap (λ o. option_or o (added_slot_named p added name)) one ∙ two ∙ ap (slot_if_on p added m) index ∙ four;
        }

    pub back : (slot : ℕ) → slot < slots p + length added → IsBack (worker_of p added slot) slot
    back slot within = elim (cases_lt slot (slots p)) [
      | inl low ↦ rw (lt-ltb slot (slots p) low) (low_back slot low)
      | inr high ↦ (
          let same : slots p + (slot - slots p) ≡ slot = omega (arith, high) in
          rw (le-ltb slot (slots p) high) (subst (IsBack (worker_at p added (slot - slots p))) same (high_back (slot - slots p) (omega (arith, within, high)))))
    ]
