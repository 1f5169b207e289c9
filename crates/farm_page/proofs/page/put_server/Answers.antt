use Rattle.std.proofs.Common.{List, ℕ, ◌++◌, ◌∙◌, ap}
use Rattle.std.specs.Prelude.{codes}
use Rattle.std.proofs.lemmas.Result.{on_ok_weaker}
use Rattle.farm_page.specs.Escaping.{page_text}
use Rattle.farm_page.proofs.Walks.{after}
use Rattle.farm_page.proofs.page.put_server.Goals as goal

pub returns : goal.returns
returns c =
    let old = c.args.out.now in
    let lead : List ℕ = codes "<header><p>poolman at job server " in
    let server : List ℕ = page_text c.args.server.now in
    let end : List ℕ = codes "</p>\n" in
    on_ok_weaker c.put_tags-2.result (λ told. after old _ _ (lead ++ server) end (after old _ _ lead server c.in_ok-put_tags.ensures (c.in_ok-put_text.ensures ∙ ap (λ t. c.put_tags.new.self ++ page_text t) c.as_bytes.ensures.value)) told) c.put_tags-2.ensures
