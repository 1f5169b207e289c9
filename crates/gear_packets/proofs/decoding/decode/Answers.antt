use Rattle.std.proofs.Common.{◌+◌, length, drop, arith}
use Rattle.gear_packets.specs.Requests.{packet_of}
use Rattle.gear_packets.proofs.Firsts.{none_framed, none_of_body, one_of_body, none_stands, one_stands}
use Rattle.gear_packets.proofs.decoding.decode.Goals as goal

pub returns-in_default : goal.returns-in_default
returns-in_default c =
    let none = none_framed c.read_frame.result c.args.bytes.now c.in_default.not-Framed c.read_frame.ensures.prefix in
    record { exact = none; length = tt; found = tt; none = none_stands c.args.bytes.now none }

pub returns-in_err-found-clause-none : goal.returns-in_err-found-clause-none
returns-in_err-found-clause-none c =
    rw c.from_residual.ensures (none_stands c.args.bytes.now (none_of_body c.in-Framed.kind c.in-Framed.body.now (drop (12 + length c.in-Framed.body.now) c.args.bytes.now) c.args.bytes.now c.in-Framed.ensures.prefix c.in_err-found.ensures))

pub returns-clause-found : goal.returns-clause-found
returns-clause-found c =
    let rest = drop (12 + length c.in-Framed.body.now) c.args.bytes.now in
    one_stands c.args.bytes.now (packet_of c.in_ok-found.found) rest (λ i. omega (arith, c.type_inv.bytes i))
    (one_of_body c.in-Framed.kind c.in-Framed.body.now rest c.args.bytes.now (packet_of c.in_ok-found.found) c.in-Framed.ensures.prefix c.in_ok-found.ensures)
