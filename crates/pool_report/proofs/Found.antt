-- Names that are written, found again.
use Rattle.std.proofs.Common.{◌≡◌, ℕ, ◌+◌, ◌-◌, ◌^◌, ◌<◌, List, ◌∷◌, ◌++◌, Some, get_or, length, append_assoc, refl, ap, arith}
use Rattle.std.specs.Prelude.{codes}
use Rattle.std.specs.Fmt.{decimal}
use Rattle.std.proofs.lemmas.Bool.{lt-ltb}
use Rattle.plan_model.specs.Planning.{Assignment}
use Rattle.pool_settings.specs.Names.{name_at, place_of}
use Rattle.pool_settings.specs.Settings.{AreSettings, Settings}
use Rattle.pool_settings.specs.Slots.{first_slot, machine_of, parts_of, slot_named}
use Rattle.pool_settings.proofs.Searches.{place_is}
use Rattle.pool_settings.proofs.SlotSums.{IsAt, machine_found, sum-room}
use Rattle.pool_report.specs.Answered.{reported_worker}
use Rattle.pool_report.specs.Law.{AreNamesFound}
use Rattle.pool_report.specs.Report.{name_of_worker}
use Rattle.text_pieces.proofs.Cutting.{last_of_parts}
use Rattle.text_pieces.proofs.Digits.{plain_decimal, uncut}

module _ (p : Settings) (valid : AreSettings p) where
  pub function_found : (f : ℕ) → f < length p.functions → place_of p.functions (name_at p.functions f) ≡ Some f
  function_found f below = place_is p.functions (name_at p.functions f) f valid.functions_rise below refl

  pub name_cut : (name : List ℕ) (n : ℕ) → n < 2 ^ 64 → parts_of (name ++ codes "/" ++ decimal n) ≡ Some (name, decimal n)
  name_cut name n small =
      let shape : name ++ codes "/" ++ decimal n ≡ name ++ 47 ∷ decimal n = append_assoc name (codes "/") (decimal n) in
      rw shape (last_of_parts 47 name (decimal n) (uncut 47 n small refl))

  pub worker_found : (plan : Assignment) (slot machine : ℕ) → IsAt p.workers machine slot → slot_named p (name_of_worker (reported_worker p plan (slot, machine))) ≡ Some slot
  worker_found plan slot machine at =
      let n = slot - first_slot p machine in
      let inside : machine < length p.machines = omega (arith, at.there, valid.workers_paired) in
      let small : n < 2 ^ 32 = omega (arith, at.from, at.to, sum-room p.workers machine at.there, valid.workers_few) in
      let few : n < get_or p.workers machine 0 = omega (arith, at.from, at.to) in
      let cut = name_cut (name_at p.machines machine) n (omega (arith, small)) in
      let found = place_is p.machines (name_at p.machines machine) machine valid.machines_rise inside refl in
      let back : first_slot p machine + n ≡ slot = omega (arith, at.from) in
      rw (cut, found, plain_decimal (2 ^ 32) n small (omega (arith, small)), lt-ltb n (get_or p.workers machine 0) few) (ap Some back)

  pub names_found : AreNamesFound p
  names_found = record {
    functions = function_found;
    workers = λ plan slot below. worker_found plan slot (machine_of p slot) (machine_found p slot (machine_of p slot) valid below refl);
  }
