-- The worker at a slot that a name names has this name.
use Rattle.std.proofs.Common.{◌≡◌, ℕ, ◌+◌, ◌-◌, ◌^◌, ◌<◌, ◌≤◌, List, ◌∷◌, ◌++◌, Bool, true, false, Option, Some, None, eqb, ltb, leb, length, get_or, append_assoc, refl, ap, sym, subst, ◌∙◌, arith}
use Rattle.std.specs.Prelude.{codes}
use Rattle.std.specs.Fmt.{decimal}
use Rattle.std.specs.List.{slice_get}
use Rattle.std.specs.Option.{option_or}
use Rattle.std.proofs.lemmas.Bool.{eqb-true, le-ltb, leb-true, lt-ltb}
use Rattle.std.proofs.lemmas.Option.{get_or_from_slice_get, slice_get_within}
use Rattle.pool_settings.specs.Names.{name_at, place_of}
use Rattle.pool_settings.specs.Settings.{AreSettings, Settings}
use Rattle.pool_settings.specs.Slots.{machine_of, parts_of, slot_named, slots, worker_number}
use Rattle.pool_settings.proofs.OneToOne.{names_paired, slots_paired}
use Rattle.size_report.specs.Grown.{added_slot_named, first_added, grown_slot_named, worker_of}
use Rattle.text_pieces.specs.Numbers.{plain_number_below}
use Rattle.text_pieces.proofs.Cutting.{never, parts_of_last, same}
use Rattle.text_pieces.proofs.Digits.{plain_encoded}

module _ (p : Settings) (valid : AreSettings p) (added : List ℕ) where
  -- the name of a machine's worker
  abbrev pub spelled : ℕ × ℕ → List ℕ
  spelled worker = name_at p.machines worker.0 ++ codes "/" ++ decimal worker.1

  -- the slot is there, and this is its worker's name
  abbrev pub IsNameOf : List ℕ → ℕ → Type 0
  IsNameOf name slot = (slot < slots p + length added) × (name ≡ spelled (worker_of p added slot))

  own_back : (name : List ℕ) (slot : ℕ) → slot_named p name ≡ Some slot → IsNameOf name slot
  own_back name slot e =
      let own = (slots_paired p valid).named name slot e in
      let machine = name_at p.machines (machine_of p slot) in
      let here : name ≡ spelled (machine_of p slot, worker_number p slot) = sym own.1 ∙ sym (append_assoc machine (codes "/") (decimal (worker_number p slot))) in
      (omega (arith, own.0), rw (lt-ltb slot (slots p) own.0) here)

  -- an added worker of a machine, by its place among the added ones
  at_place : (machine n place : ℕ) → slice_get added place ≡ Some machine → get_or p.workers machine 0 ≤ n → place ≡ first_added added machine + (n - get_or p.workers machine 0)
      → IsNameOf (spelled (machine, n)) (slots p + place)
  at_place machine n place got further is =
      let inside = slice_get_within added place machine got in
      let here : get_or added place 0 ≡ machine = get_or_from_slice_get added place machine 0 got in
      let index : slots p + place - slots p ≡ place = omega arith in
      let high : ltb (slots p + place) (slots p) ≡ false = le-ltb (slots p + place) (slots p) (omega arith) in
      let number : get_or p.workers machine 0 + (place - first_added added machine) ≡ n = omega (arith, is, further) in
      (omega (arith, inside), rw (high, index, here) (ap (λ (m : ℕ). spelled (machine, m)) (sym number)))

  added_back : (name : List ℕ) (slot : ℕ) → added_slot_named p added name ≡ Some slot → IsNameOf name slot
  added_back name slot e = by (parts_of name) refl
    where
      known : (parts : List ℕ × List ℕ) → parts_of name ≡ Some parts → (machine : ℕ) → place_of p.machines parts.0 ≡ Some machine
          → (n : ℕ) → plain_number_below (2 ^ 32) parts.1 ≡ Some n → name ≡ spelled (machine, n)
      known parts cut machine place n number =
          let held = (names_paired p.machines valid.machines_rise).named parts.0 machine place in
          (parts_of_last 47 name parts cut).0 ∙ ap (λ (ds : List ℕ). parts.0 ++ 47 ∷ ds) (plain_encoded (2 ^ 32) parts.1 n (omega arith) number).0
          ∙ ap (λ (m : List ℕ). m ++ 47 ∷ decimal n) (sym held.1) ∙ sym (append_assoc (name_at p.machines machine) (codes "/") (decimal n))

      by : (o : Option (List ℕ × List ℕ)) → parts_of name ≡ o → IsNameOf name slot
      by None none = absurd (never slot (rw none at e))
      by (Some parts) cut = placed (place_of p.machines parts.0) refl
        where
          placed : (o : Option ℕ) → place_of p.machines parts.0 ≡ o → IsNameOf name slot
          placed None none = absurd (never slot (rw (cut, none) at e))
          placed (Some machine) place = numbered (plain_number_below (2 ^ 32) parts.1) refl
            where
              numbered : (o : Option ℕ) → plain_number_below (2 ^ 32) parts.1 ≡ o → IsNameOf name slot
              numbered None none = absurd (never slot (rw (cut, place, none) at e))
              numbered (Some n) number = ordered (leb (get_or p.workers machine 0) n) refl
                where
                  index : ℕ
                  index = first_added added machine + (n - get_or p.workers machine 0)

                  found : (further : leb (get_or p.workers machine 0) n ≡ true) → (other : ℕ) → slice_get added index ≡ Some other → (d : Bool) → eqb other machine ≡ d → IsNameOf name slot
                  found further other got false differs = absurd (never slot (rw (cut, place, number, further, got, differs) at e))
                  found further other got true equal =
                      let is : slots p + index ≡ slot = same (slots p + index) slot (rw (cut, place, number, further, got, equal) at e) in
                      let here = at_place machine n index (got ∙ ap (λ (m : ℕ). Some m) (eqb-true other machine equal)) (leb-true (get_or p.workers machine 0) n further) refl in
                      subst (IsNameOf name) is (here.0, known parts cut machine place n number ∙ here.1)

                  there : (further : leb (get_or p.workers machine 0) n ≡ true) → (o : Option ℕ) → slice_get added index ≡ o → IsNameOf name slot
                  there further None none = absurd (never slot (rw (cut, place, number, further, none) at e))
                  there further (Some other) got = found further other got (eqb other machine) refl

                  ordered : (d : Bool) → leb (get_or p.workers machine 0) n ≡ d → IsNameOf name slot
                  ordered false low = absurd (never slot (rw (cut, place, number, low) at e))
                  ordered true further = there further (slice_get added index) refl

  pub name_back : (name : List ℕ) (slot : ℕ) → grown_slot_named p added name ≡ Some slot → IsNameOf name slot
  name_back name slot e = by (slot_named p name) refl
    where
      by : (o : Option ℕ) → slot_named p name ≡ o → IsNameOf name slot
      by (Some own) is = own_back name slot (is ∙ sym (ap (λ (o : Option ℕ). option_or o (added_slot_named p added name)) is) ∙ e)
      by None none = added_back name slot (sym (ap (λ (o : Option ℕ). option_or o (added_slot_named p added name)) none) ∙ e)
