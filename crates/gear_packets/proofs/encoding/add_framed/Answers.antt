use Rattle.std.proofs.Common.{ℕ, ◌++◌, List, ap, ◌∙◌, append_assoc}
use Rattle.gear_packets.proofs.encoding.add_framed.Goals as goal

pub returns-clause-encoded : goal.returns-clause-encoded
returns-clause-encoded c =
    let before = c.args.text.now.items in
    let body = c.args.body.now in
    c.in_ok-extend_from_slice-2.ensures.items
    ∙ ap (λ (t : List ℕ). t ++ body) (c.in_ok-extend_from_slice.ensures.items ∙ ap (λ (t : List ℕ). t ++ c.header.result) c.in_ok-reserve.ensures.items)
    ∙ append_assoc before c.header.result body
    ∙ ap (λ (head : List ℕ). before ++ (head ++ body)) c.header.ensures
