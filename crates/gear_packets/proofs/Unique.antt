-- Spellings are read in one way.
use Rattle.std.proofs.Common.{ℕ, List, [], ◌++◌, sym, ap, ◌∙◌}
use Rattle.gear_packets.specs.Request.{Packet, first_request, OneEncoding, NoneBeginsAnother}
use Rattle.gear_packets.proofs.Requests.{first_found, some_is}

pub none_begins_another : NoneBeginsAnother
none_begins_another p q x y a b h =
    let made : Packet × List ℕ = (p, x) in
    let other : Packet × List ℕ = (q, y) in
    let e = some_is made other (sym (first_found p x a) ∙ ap first_request h ∙ first_found q y b) in
    (ap (λ (r : Packet × List ℕ). r.0) e, ap (λ (r : Packet × List ℕ). r.1) e)

pub one_encoding : OneEncoding
one_encoding p q a b h = (none_begins_another p q [] [] a b (ap (λ (x : List ℕ). x ++ []) h)).0
