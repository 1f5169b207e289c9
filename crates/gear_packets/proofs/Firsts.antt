-- The first request of a text.
use Rattle.std.proofs.Common.{Bor, ◌≡◌, ◌≢◌, ℕ, ◌<◌, get_or, List, ◌++◌, Option, Some, None, refl, sym, ap, ◌∙◌}
use Rattle.gear_packets.specs.declared.frame.Frame.{Frame}
use Rattle.gear_packets.specs.declared.frame.Frame.TheVariants as frame
use Rattle.gear_packets.specs.Frame.{request_magic, framed, prefix}
use Rattle.gear_packets.specs.Request.{Packet, encoding, IsSent, request_of, request_in, first_request}
use Rattle.gear_packets.specs.Steps.{prefix_of}
use Rattle.gear_packets.proofs.Requests.{first_found, first_is}

abbrev found : Packet → List ℕ → Option (Packet × List ℕ)
found p rest = Some (p, rest)

abbrev no_request : Option (Packet × List ℕ)
no_request = None

pub none_framed : (f : Frame) (bytes : List ℕ) → ((kind : ℕ) (body : Bor (List ℕ)) → f ≡ frame.Framed kind body → ⊥) → prefix_of f bytes ≡ prefix request_magic bytes → no_request ≡ first_request bytes
unfolding first_request
none_framed frame.WrongMagic bytes off e = ap request_in e
none_framed frame.TooLarge bytes off e = ap request_in e
none_framed frame.Unfinished bytes off e = ap request_in e
none_framed (frame.Framed kind body) bytes off e = absurd (off kind body refl)

pub none_of_body : (kind : ℕ) (body rest bytes : List ℕ) → framed kind body rest ≡ prefix request_magic bytes → None ≡ request_of kind body → no_request ≡ first_request bytes
unfolding first_request
none_of_body kind body rest bytes e none = let k = sym none in rw (← e, k) refl

pub one_of_body : (kind : ℕ) (body rest bytes : List ℕ) (p : Packet) → framed kind body rest ≡ prefix request_magic bytes → Some p ≡ request_of kind body → found p rest ≡ first_request bytes
unfolding first_request
one_of_body kind body rest bytes p e one = let k = sym one in rw (← e, k) refl

-- where none is found, no request stands at the start
pub none_stands : (bytes : List ℕ) → no_request ≡ first_request bytes → (p : Packet) (rest : List ℕ) → IsSent p → bytes ≢ encoding p ++ rest
none_stands bytes none p rest fits same = let k = none ∙ ap first_request same ∙ first_found p rest fits in absurd cc

pub one_stands : (bytes : List ℕ) (p : Packet) (rest : List ℕ) → ((i : ℕ) → get_or bytes i 0 < 256) → found p rest ≡ first_request bytes → (bytes ≡ encoding p ++ rest) × IsSent p
one_stands bytes p rest fits one = let k = first_is bytes p rest (record { below = fits }) (sym one) in (k.parts, k.is_sent)
