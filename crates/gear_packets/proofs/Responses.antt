-- What stands at the start of a stream stays there, whatever follows.
use Rattle.std.proofs.Common.{◌≡◌, ℕ, ◌<◌, List, [], ◌++◌, length, Result, Ok, Err, refl, ap}
use Rattle.gear_packets.specs.declared.fault.StreamFault.{StreamFault}
use Rattle.gear_packets.specs.Frame.{response_magic, Prefix, wrong_magic, too_large, unfinished, framed, prefix}
use Rattle.gear_packets.specs.Response.{Message, meaning, gives, faulty, waits, said, response_in, first_response}
use Rattle.gear_packets.proofs.Frames.{whole_stays, whole_shrinks, wrong_stays, too_large_stays}

said_gives : (after : List ℕ) (r : Result Message StreamFault) (m : Message) (rest : List ℕ) → said after r ≡ gives m rest → (r ≡ Ok m) × (after ≡ rest)
said_gives after (Ok n) m rest h = (cc, cc)
said_gives after (Err f) m rest h = absurd cc

said_faulty : (after : List ℕ) (r : Result Message StreamFault) (f : StreamFault) → said after r ≡ faulty f → r ≡ Err f
said_faulty after (Ok n) f h = absurd cc
said_faulty after (Err g) f h = cc

given_prefix : (f : Prefix) (m : Message) (rest : List ℕ) → response_in f ≡ gives m rest → (kind : ℕ) × (body : List ℕ) × (f ≡ framed kind body rest) × (meaning kind body ≡ Ok m)
given_prefix wrong_magic m rest h = absurd cc
given_prefix too_large m rest h = absurd cc
given_prefix unfinished m rest h = absurd cc
given_prefix (framed kind body after) m rest h =
    let s = said_gives after (meaning kind body) m rest h in
    (kind, body, ap (framed kind body) s.1, s.0)

pub gives_stays : (bytes more : List ℕ) (m : Message) (rest : List ℕ) → first_response bytes ≡ gives m rest → first_response (bytes ++ more) ≡ gives m (rest ++ more)
unfolding first_response
gives_stays bytes more m rest h =
    let f = given_prefix (prefix response_magic bytes) m rest h in
    rw (whole_stays response_magic bytes more f.0 f.1 rest refl f.2, f.3) refl

pub gives_shrinks : (bytes : List ℕ) (m : Message) (rest : List ℕ) → first_response bytes ≡ gives m rest → length rest < length bytes
unfolding first_response
gives_shrinks bytes m rest h =
    let f = given_prefix (prefix response_magic bytes) m rest h in
    whole_shrinks response_magic bytes f.0 f.1 rest f.2

faulty_prefix : (bytes more : List ℕ) (g : Prefix) (f : StreamFault) → prefix response_magic bytes ≡ g → response_in g ≡ faulty f → response_in (prefix response_magic (bytes ++ more)) ≡ faulty f
faulty_prefix bytes more wrong_magic f e h = rw (wrong_stays response_magic bytes more e) h
faulty_prefix bytes more too_large f e h = rw (too_large_stays response_magic bytes more refl e) h
faulty_prefix bytes more unfinished f e h = absurd cc
faulty_prefix bytes more (framed kind body rest) f e h =
    let s = said_faulty rest (meaning kind body) f h in
    rw (whole_stays response_magic bytes more kind body rest refl e, s) refl

pub faulty_stays : (bytes more : List ℕ) (f : StreamFault) → first_response bytes ≡ faulty f → first_response (bytes ++ more) ≡ faulty f
unfolding first_response
faulty_stays bytes more f h = faulty_prefix bytes more (prefix response_magic bytes) f refl h

pub response_of_nothing : first_response [] ≡ waits
unfolding first_response prefix
response_of_nothing = refl
