-- How long a body is.
use Rattle.std.proofs.Common.{◌≡◌, ℕ, ◌^◌, ◌<◌, ◌≤◌, List, ◌∷◌, ◌++◌, length, None, refl, arith}
use Rattle.std.specs.Prelude.{decimal}
use Rattle.std.proofs.lemmas.Fmt.{length-decimal-le}
use Rattle.std.proofs.lemmas.List.{length-append}
use Rattle.std.proofs.lemmas.Bool.{le-ltb}
use Rattle.gear_packets.specs.Frame.{body_limit}
use Rattle.gear_packets.specs.Request.{IsHandle, work_status, body_of}
use Rattle.gear_packets.specs.PacketRefusals.{request_refusal}

status_length : (handle : List ℕ) (part all : ℕ) → IsHandle handle → part < 2 ^ 32 → all < 2 ^ 32 → length (body_of (work_status handle part all)) ≤ 85
status_length handle part all h a b =
    let p = length-decimal-le 10 part (omega arith) (omega arith) (omega arith) in
    let q = length-decimal-le 10 all (omega arith) (omega arith) (omega arith) in
    omega (arith, p, q, h.short, length-append handle (0 ∷ (decimal part ++ 0 ∷ decimal all)), length-append (decimal part) (0 ∷ decimal all))

-- two numbers always have room
pub status_is_sent : (handle : List ℕ) (part all : ℕ) → IsHandle handle → part < 2 ^ 32 → all < 2 ^ 32 → request_refusal (work_status handle part all) ≡ None
status_is_sent handle part all h a b = let k = status_length handle part all h a b in rw (le-ltb body_limit (length (body_of (work_status handle part all))) (omega (arith, k))) refl
