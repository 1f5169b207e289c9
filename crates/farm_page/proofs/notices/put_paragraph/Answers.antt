use Rattle.std.proofs.Common.{List, ℕ, ◌++◌, ◌∙◌, ap}
use Rattle.std.specs.Prelude.{codes}
use Rattle.std.proofs.lemmas.Result.{on_ok_weaker}
use Rattle.farm_page.specs.Escaping.{page_text}
use Rattle.farm_page.proofs.Walks.{after}
use Rattle.farm_page.proofs.notices.put_paragraph.Goals as goal

pub returns : goal.returns
returns c =
    let old = c.args.out.now in
    let t0 : List ℕ = codes "<p>" in
    let t1 : List ℕ = page_text c.args.words.now in
    let t2 : List ℕ = codes "</p>\n" in
    on_ok_weaker c.put_tags-2.result (λ told. after old _ _ (t0 ++ t1) t2 (after old _ _ (t0) t1 c.in_ok-put_tags.ensures (c.in_ok-put_text.ensures ∙ ap (λ t. c.put_tags.new.self ++ page_text t) c.as_bytes.ensures.value)) told) c.put_tags-2.ensures
