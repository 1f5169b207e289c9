use Rattle.std.proofs.Common.{◌∙◌, ◌++◌, ◌∷◌, [], ap, arith, map, sym}
use Rattle.std.specs.List.{range_with_len}
use Rattle.std.proofs.lemmas.List.FromFn.{map-range_with_len_more}
use Rattle.relaxed_plan.specs.Relaxed.{least_left}
use Rattle.relaxed_plan.proofs.letting_off.all_least_left.Goals as goal

pub loop-number-preserved : goal.loop-number-preserved
loop-number-preserved c =
    let f = least_left c.args.input.now.least c.args.set.now in
    let k = c.loop-number.number in
    c.in_ok-push.ensures.items ∙ ap (λ xs. xs ++ c.least_left.result ∷ []) c.loop-number.invariant
    ∙ ap (λ x. map f (range_with_len 0 k) ++ x ∷ []) (c.least_left.ensures ∙ ap f c.new.ensures) ∙ sym (map-range_with_len_more f 0 k k (omega arith))
