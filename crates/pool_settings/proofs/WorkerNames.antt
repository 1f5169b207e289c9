-- The name of each slot's worker names that slot.
use Rattle.std.proofs.Common.{◌≡◌, ℕ, ◌<◌, ◌≤◌, ◌^◌, true, Some, ltb, get_or, refl, ap, arith}
use Rattle.std.specs.Prelude.{sum}
use Rattle.std.specs.Fmt.{decimal}
use Rattle.std.proofs.lemmas.Bool.Decides.{nat_tests}
use Rattle.pool_settings.specs.Names.{name_at}
use Rattle.pool_settings.specs.Settings.{AreSettings, Settings}
use Rattle.pool_settings.specs.Slots.{machine_of, slot_named, worker_name, worker_number}
use Rattle.text_pieces.proofs.Cutting.{last_of_parts}
use Rattle.text_pieces.proofs.Digits.{plain_decimal, uncut}
use Rattle.pool_settings.proofs.Searches.{place_is}
use Rattle.pool_settings.proofs.SlotSums.{machine_found, sum-room}

-- the name of a slot's worker names the slot
pub named : (p : Settings) → AreSettings p → (slot : ℕ) → slot < sum p.workers → slot_named p (worker_name p slot) ≡ Some slot
named p valid slot below =
    let m = machine_of p slot in
    let n = worker_number p slot in
    let at = machine_found p slot m valid below refl in
    let within : n < get_or p.workers m 0 = omega (arith, at.from, at.to) in
    let room : get_or p.workers m 0 ≤ 4096 = omega (arith, valid.workers_few, sum-room p.workers m at.there) in
    let low : n < 2 ^ 64 = omega (arith, within, room) in
    let parts = last_of_parts 47 (name_at p.machines m) (decimal n) (uncut 47 n low refl) in
    let place = place_is p.machines (name_at p.machines m) m valid.machines_rise (omega (arith, at.there, valid.workers_paired)) refl in
    let number = plain_decimal (2 ^ 32) n (omega (arith, within, room)) low in
    let fits : ltb n (get_or p.workers m 0) ≡ true = grind (arith, nat_tests) in
    rw (parts, place, number, fits) (ap Some (omega (arith, at.from)))
