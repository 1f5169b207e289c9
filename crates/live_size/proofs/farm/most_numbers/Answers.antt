use Rattle.std.proofs.Common.{◌∙◌, ◌++◌, ◌∷◌, [], ap, arith, map, sym}
use Rattle.std.specs.List.{range_with_len}
use Rattle.std.proofs.lemmas.List.FromFn.{map-range_with_len_more}
use Rattle.live_size.specs.Farms.{most_of}
use Rattle.live_size.proofs.farm.most_numbers.Goals as goal

pub loop-number-preserved : goal.loop-number-preserved
loop-number-preserved c =
    let f = most_of c.args.unbounded.now c.args.input.now in
    let k = c.loop-number.number in
    c.in_ok-push.ensures.items ∙ ap (λ xs. xs ++ c.most_of.result ∷ []) c.loop-number.invariant
    ∙ ap (λ x. map f (range_with_len 0 k) ++ x ∷ []) c.most_of.ensures ∙ sym (map-range_with_len_more f 0 k k (omega arith))
