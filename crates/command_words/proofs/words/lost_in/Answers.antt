use Rattle.std.proofs.Common.{◌≡◌, map, [], unwrap_or, ap, sym, ◌∙◌}
use Rattle.std.proofs.lemmas.Result.{IfOk-weaker}
use Rattle.clap.specs.Words.{found_of, rows_of}
use Rattle.command_words.specs.Words as spec
use Rattle.command_words.proofs.Rows.{all_of_rows}
use Rattle.command_words.proofs.words.lost_in.Goals as goal

pub returns-in-Some : goal.returns-in-Some
returns-in-Some c =
    let f = found_of c.args.matches.now in
    let listed : map (λ w. w.now) c.in-Some.words.now ≡ spec.lost_in (rows_of f) =
    ap (λ o. unwrap_or o []) (c.in-Some.ensures ∙ sym (all_of_rows f spec.lost)) in
    IfOk-weaker c.from_slice.result _ (λ v. map (λ w. w.now) v.items ≡ spec.lost_in (rows_of f))
    (λ v same. ap (map (λ w. w.now)) same ∙ listed) c.from_slice.ensures.items

pub returns-in-None : goal.returns-in-None
returns-in-None c =
    let f = found_of c.args.matches.now in
    ap (map (λ w. w.now)) c.new.ensures.items
    ∙ ap (λ o. unwrap_or o []) (c.in-None.ensures ∙ sym (all_of_rows f spec.lost))
