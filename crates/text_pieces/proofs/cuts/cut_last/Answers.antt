use Rattle.std.proofs.Common.{◌≡◌, ◌+◌, ◌-◌, take, drop, Some, None, suc, add-one, arith, sym, ap, ◌∙◌}
use Rattle.text_pieces.specs.Cuts.{cut_last}
use Rattle.text_pieces.proofs.Cutting.{cut_here, rest_taken}
use Rattle.text_pieces.proofs.cuts.cut_last.Goals as goal

pub returns-then-text-end : goal.returns-then-text-end
returns-then-text-end c =
    let i = c.loop-end.end - 1 in
    let at : suc i ≡ c.loop-end.end = omega arith in
    let none : cut_last c.args.byte (drop (suc i) c.args.text.now) ≡ None = rw at c.loop-end.invariant.none in
    let here = cut_here c.args.byte c.args.text.now i (omega arith) c.if-text-end.true none in
    ap (λ t. Some (take i c.args.text.now, t)) (rest_taken (i + 1) c.args.text.now ∙ rw add-one) ∙ sym here
