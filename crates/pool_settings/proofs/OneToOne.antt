-- Names and numbers are one to one.
use Rattle.std.proofs.Common.{◌≡◌, ℕ, ◌+◌, ◌-◌, ◌<◌, ◌≤◌, ◌^◌, List, [], ◌∷◌, ◌++◌, Bool, true, false, Option, Some, None, zero, suc, ltb, length, get_or, take, refl, sym, ap, ◌∙◌, arith}
use Rattle.std.specs.Fmt.{decimal}
use Rattle.std.specs.Str.{bytes_eq}
use Rattle.std.proofs.lemmas.Bool.{ltb-true}
use Rattle.std.proofs.lemmas.List.Quantifiers.{position-Some}
use Rattle.std.proofs.lemmas.List.Sums.{sum_by-cons}
use Rattle.std.proofs.lemmas.Slice.Eq.{bytes_eq-Decides}
use Rattle.pool_settings.specs.Law.{AreOneToOne}
use Rattle.pool_settings.specs.Names.{IsInByteOrder, name_at, place_of}
use Rattle.pool_settings.specs.Settings.{AreSettings, Settings}
use Rattle.pool_settings.specs.Slots.{first_slot, machine_of, parts_of, slot_at, slot_named, slots, worker_name}
use Rattle.text_pieces.specs.Numbers.{plain_number_below}
use Rattle.text_pieces.proofs.Cutting.{never, parts_of_last, same}
use Rattle.text_pieces.proofs.Digits.{plain_encoded}
use Rattle.pool_settings.proofs.Searches.{place_is}
use Rattle.pool_settings.proofs.SlotSums.{IsAt, machine_found, sum-room}
use Rattle.pool_settings.proofs.WorkerNames as workers

-- ---- functions and machines

names_back : (names : List (List ℕ)) (name : List ℕ) (k : ℕ) → place_of names name ≡ Some k → (k < length names) × (name_at names k ≡ name)
names_back names name k e =
    let at = position-Some (λ (n : List ℕ). bytes_eq n name) names k [] e in
    (at.0, (bytes_eq-Decides (get_or names k []) name).0 at.1)

pub names_paired : (names : List (List ℕ)) → IsInByteOrder names → AreOneToOne (length names) (name_at names) (place_of names)
names_paired names rises = record { found = λ k below. place_is names (name_at names k) k rises below refl; named = names_back names }

-- ---- slots

-- a slot is one of one machine alone
at_once : (ws : List ℕ) (a b slot : ℕ) → IsAt ws a slot → IsAt ws b slot → a ≡ b
at_once [] a b slot one other = absurd (omega (arith, one.there))
at_once (w ∷ ws) zero zero slot one other = refl
at_once (w ∷ ws) zero (suc b) slot one other = absurd (omega (arith, one.to, other.from, sum_by-cons (λ (x : ℕ). x) w (take b ws)))
at_once (w ∷ ws) (suc a) zero slot one other = absurd (omega (arith, other.to, one.from, sum_by-cons (λ (x : ℕ). x) w (take a ws)))
at_once (w ∷ ws) (suc a) (suc b) slot one other =
    let below : w ≤ slot = omega (arith, one.from, sum_by-cons (λ (x : ℕ). x) w (take a ws)) in
    ap suc (at_once ws a b (slot - w)
    (record {
      there = omega (arith, one.there);
      from = omega (arith, one.from, sum_by-cons (λ (x : ℕ). x) w (take a ws));
      to = omega (arith, one.to, below, sum_by-cons (λ (x : ℕ). x) w (take a ws));
    })
    (record {
      there = omega (arith, other.there);
      from = omega (arith, other.from, sum_by-cons (λ (x : ℕ). x) w (take b ws));
      to = omega (arith, other.to, below, sum_by-cons (λ (x : ℕ). x) w (take b ws));
    }))

module _ (p : Settings) (valid : AreSettings p) where
  -- the slot of a machine's worker has the worker's name
  slot_back : (machine n slot : ℕ) → slot_at p machine n ≡ Some slot → machine < length p.machines
      → (slot < slots p) × (worker_name p slot ≡ name_at p.machines machine ++ 47 ∷ decimal n)
  slot_back machine n slot e inside = by (ltb n (get_or p.workers machine 0)) refl
    where
      by : (d : Bool) → ltb n (get_or p.workers machine 0) ≡ d → (slot < slots p) × (worker_name p slot ≡ name_at p.machines machine ++ 47 ∷ decimal n)
      by false other = absurd (never slot (rw other at e))
      by true few =
          let is : first_slot p machine + n ≡ slot = same (first_slot p machine + n) slot (rw few at e) in
          let low : n < get_or p.workers machine 0 = ltb-true _ _ few in
          let there : machine < length p.workers = omega (arith, inside, valid.workers_paired) in
          let room = sum-room p.workers machine there in
          let below : slot < slots p = omega (arith, is, low, room) in
          let here : IsAt p.workers machine slot = record { there = there; from = omega (arith, is); to = omega (arith, is, low) } in
          let one : machine_of p slot ≡ machine = at_once p.workers (machine_of p slot) machine slot (machine_found p slot (machine_of p slot) valid below refl) here in
          let number : slot - first_slot p machine ≡ n = omega (arith, is) in
          (below, rw (one, number) refl)

  named : (name : List ℕ) (slot : ℕ) → slot_named p name ≡ Some slot → (slot < slots p) × (worker_name p slot ≡ name)
  named name slot e = by (parts_of name) refl
    where
      numbered : (parts : List ℕ × List ℕ) → parts_of name ≡ Some parts → (machine : ℕ) → place_of p.machines parts.0 ≡ Some machine
          → (o : Option ℕ) → plain_number_below (2 ^ 32) parts.1 ≡ o → (slot < slots p) × (worker_name p slot ≡ name)
      numbered parts cut machine place None none = absurd (never slot (rw (cut, place, none) at e))
      numbered parts cut machine place (Some n) number =
          let held = names_back p.machines parts.0 machine place in
          let found = slot_back machine n slot (rw (cut, place, number) at e) held.0 in (
            found.0,
            found.1 ∙ ap (λ (m : List ℕ). m ++ 47 ∷ decimal n) held.1 ∙ ap (λ (ds : List ℕ). parts.0 ++ 47 ∷ ds) (sym (plain_encoded (2 ^ 32) parts.1 n (omega arith) number).0) ∙ sym (parts_of_last 47 name parts cut).0,
          )

      placed : (parts : List ℕ × List ℕ) → parts_of name ≡ Some parts → (o : Option ℕ) → place_of p.machines parts.0 ≡ o
          → (slot < slots p) × (worker_name p slot ≡ name)
      placed parts cut None none = absurd (never slot (rw (cut, none) at e))
      placed parts cut (Some machine) place = numbered parts cut machine place (plain_number_below (2 ^ 32) parts.1) refl

      by : (o : Option (List ℕ × List ℕ)) → parts_of name ≡ o → (slot < slots p) × (worker_name p slot ≡ name)
      by None none = absurd (never slot (rw none at e))
      by (Some parts) cut = placed parts cut (place_of p.machines parts.0) refl

  pub slots_paired : AreOneToOne (slots p) (worker_name p) (slot_named p)
  slots_paired = record { found = workers.named p valid; named = named }
