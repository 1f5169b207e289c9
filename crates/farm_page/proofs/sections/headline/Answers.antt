use Rattle.std.proofs.Common.{List, [], ℕ, ◌++◌, ◌∙◌, ap}
use Rattle.std.specs.Prelude.{codes}
use Rattle.farm_page.specs.Escaping.{page_text}
use Rattle.farm_page.proofs.Walks.{after_known}
use Rattle.farm_page.proofs.sections.headline.Goals as goal

pub returns : goal.returns
returns c =
    let tag : List ℕ = codes "<h1><span class=\"mark\"></span>" in
    let words : List ℕ = page_text c.args.words.now in
    let one = after_known c.new-out.result c.put_tags.new.self [] tag c.new-out.ensures c.in_ok-put_tags.ensures in
    let two = after_known c.put_tags.new.self c.put_text.new.self tag words one (c.in_ok-put_text.ensures ∙ ap (λ t. c.put_tags.new.self ++ page_text t) c.as_bytes.ensures.value) in
    after_known c.put_text.new.self c.put_tags-2.new.self (tag ++ words) (codes ".</h1>\n") two c.in_ok-put_tags-2.ensures
