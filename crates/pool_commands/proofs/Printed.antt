-- A worker's name with its generation, read back.
use Rattle.std.proofs.Common.{◌≡◌, ℕ, ◌<◌, ◌≤◌, ◌^◌, [], true, false, Some, leb, refl, ap, ◌∙◌, arith, IsTrue}
use Rattle.std.specs.Option.{option_and_then}
use Rattle.std.specs.Fmt.{decimal}
use Rattle.std.specs.List.{list_all}
use Rattle.std.proofs.lemmas.Bool.{and_parts}
use Rattle.std.proofs.lemmas.Bool.Decides.{nat_tests}
use Rattle.std.proofs.lemmas.List.Elements.{All-get_or}
use Rattle.pool_settings.specs.Names.{is_machine_name, is_machine_name_byte, name_at}
use Rattle.pool_settings.specs.Settings.{AreSettings, Settings}
use Rattle.pool_settings.specs.Slots.{machine_of, slots, worker_name, worker_number}
use Rattle.pool_settings.proofs.SlotSums.{machine_found, sum-room}
use Rattle.pool_settings.proofs.WorkerNames.{named}
use Rattle.pool_commands.specs.Law.{AreWorkersReadBack}
use Rattle.pool_commands.specs.Words.{generation_in, worker_of}
use Rattle.text_pieces.specs.Laws.{has_byte}
use Rattle.text_pieces.proofs.Cutting.{first_of_parts, none_in, none_joined}
use Rattle.text_pieces.proofs.Digits.{none_in_decimal, number_decimal}

generation_read : (n : ℕ) → 1 ≤ n → n ≤ 262143 → generation_in (decimal n) ≡ Some n
generation_read n from to =
    let at_least : leb 1 n ≡ true = grind (arith, nat_tests) in
    let at_most : leb n 262143 ≡ true = grind (arith, nat_tests) in
    rw (number_decimal (2 ^ 32) n (omega arith) (omega arith), at_least, at_most) refl

-- the name of a slot's worker has no hash sign
hashless_worker : (p : Settings) → AreSettings p → (slot : ℕ) → slot < slots p → has_byte 35 (worker_name p slot) ≡ false
hashless_worker p valid slot below =
    let m = machine_of p slot in
    let at = machine_found p slot m valid below refl in
    let name : is_machine_name (name_at p.machines m) ≡ true = All-get_or (λ name. IsTrue (is_machine_name name)) p.machines m [] (omega (arith, at.there, valid.workers_paired)) valid.machines_named in
    let bytes = (and_parts _ (list_all is_machine_name_byte (name_at p.machines m)) name).1 in
    let low : worker_number p slot < 2 ^ 64 = omega (arith, at.from, at.to, valid.workers_few, sum-room p.workers m at.there) in
    none_joined 35 (name_at p.machines m) _ (none_in 35 is_machine_name_byte (name_at p.machines m) refl bytes) (none_in_decimal 35 (worker_number p slot) low refl)

pub read_back : AreWorkersReadBack
read_back p valid slot generation below from to =
    ap (option_and_then (worker_of p)) (first_of_parts 35 (worker_name p slot) (decimal generation) (hashless_worker p valid slot below))
    ∙ rw (named p valid slot below, generation_read generation from to) refl
