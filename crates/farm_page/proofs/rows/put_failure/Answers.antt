use Rattle.std.proofs.Common.{List, [], ℕ, ◌++◌, ◌∙◌, ap, string_bytes}
use Rattle.std.specs.Prelude.{codes}
use Rattle.std.proofs.lemmas.Result.{on_ok_weaker}
use Rattle.farm_page.specs.Rows.{failure_end_cell, row_name, words_cell}
use Rattle.farm_page.proofs.Walks.{after}
use Rattle.farm_page.proofs.rows.put_failure.Goals as goal

pub returns : goal.returns
returns c =
    let old = c.args.out.now in
    let failure = c.args.failure.now in
    let t0 : List ℕ = row_name (string_bytes failure.handle) in
    let t1 : List ℕ = words_cell [] (string_bytes failure.time) in
    let t2 : List ℕ = words_cell [] (string_bytes failure.unique) in
    let t3 : List ℕ = words_cell [] (string_bytes failure.function) in
    let t4 : List ℕ = words_cell [] (string_bytes failure.worker) in
    let t5 : List ℕ = failure_end_cell failure.end in
    let t6 : List ℕ = codes "</tr>\n" in
    let one = c.in_ok-put_row_name.ensures ∙ ap (λ t. old ++ row_name t) c.as_str.ensures.value in
    let two = after old _ _ t0 t1 one (c.in_ok-put_words.ensures ∙ ap (λ t. c.put_row_name.new.out ++ words_cell [] t) c.as_str-2.ensures.value) in
    let three = after old _ _ (t0 ++ t1) t2 two (c.in_ok-put_words-2.ensures ∙ ap (λ t. c.put_words.new.out ++ words_cell [] t) c.as_str-3.ensures.value) in
    let four = after old _ _ (t0 ++ t1 ++ t2) t3 three (c.in_ok-put_words-3.ensures ∙ ap (λ t. c.put_words-2.new.out ++ words_cell [] t) c.as_str-4.ensures.value) in
    let five = after old _ _ (t0 ++ t1 ++ t2 ++ t3) t4 four (c.in_ok-put_words-4.ensures ∙ ap (λ t. c.put_words-3.new.out ++ words_cell [] t) c.as_str-5.ensures.value) in
    let six = after old _ _ (t0 ++ t1 ++ t2 ++ t3 ++ t4) t5 five c.in_ok-put_failure_end.ensures in
    on_ok_weaker c.put_tags.result (λ told. after old _ _ (t0 ++ t1 ++ t2 ++ t3 ++ t4 ++ t5) t6 six told) c.put_tags.ensures
