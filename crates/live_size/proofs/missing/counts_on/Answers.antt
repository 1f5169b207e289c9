use Rattle.std.proofs.Common.{◌∙◌, ◌++◌, ◌∷◌, [], ap, arith, map, sym}
use Rattle.std.specs.List.{range_with_len}
use Rattle.std.proofs.lemmas.List.FromFn.{map-range_with_len_more}
use Rattle.size_report.specs.Text.{added_on}
use Rattle.live_size.proofs.missing.counts_on.Goals as goal

pub loop-number-preserved : goal.loop-number-preserved
loop-number-preserved c =
    let f = added_on c.args.added.now in
    let k = c.loop-number.number in
    c.in_ok-push.ensures.items ∙ ap (λ xs. xs ++ c.count_on.result ∷ []) c.loop-number.invariant
    ∙ ap (λ x. map f (range_with_len 0 k) ++ x ∷ []) (c.count_on.ensures ∙ ap f c.new.ensures) ∙ sym (map-range_with_len_more f 0 k k (omega arith))
