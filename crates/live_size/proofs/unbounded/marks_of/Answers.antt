use Rattle.std.proofs.Common.{◌∙◌, ◌++◌, ◌∷◌, [], ap, arith, map, sym}
use Rattle.std.specs.List.{range_with_len}
use Rattle.std.proofs.lemmas.List.FromFn.{map-range_with_len_more}
use Rattle.toml.specs.View.{table_view}
use Rattle.live_size.specs.Farms.{is_unbounded}
use Rattle.live_size.proofs.unbounded.marks_of.Goals as goal

pub loop-number-preserved : goal.loop-number-preserved
loop-number-preserved c =
    let f = is_unbounded (table_view c.args.file.now.tree) c.args.settings.now in
    let k = c.loop-number.number in
    c.in_ok-push.ensures.items ∙ ap (λ xs. xs ++ c.is_unbounded.result ∷ []) c.loop-number.invariant
    ∙ ap (λ x. map f (range_with_len 0 k) ++ x ∷ []) c.is_unbounded.ensures ∙ sym (map-range_with_len_more f 0 k k (omega arith))
