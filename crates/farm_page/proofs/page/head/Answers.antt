use Rattle.std.proofs.Common.{◌∙◌, ◌++◌, List, ℕ, ap}
use Rattle.farm_page.specs.Health.{condition_at}
use Rattle.farm_page.specs.Sections.{body_tag}
use Rattle.farm_page.proofs.Held.{holds_last, holds_more}
use Rattle.farm_page.proofs.page.head.Goals as goal

pub returns : goal.returns
returns c =
    let tag : List ℕ = body_tag (condition_at c.args.view.now c.args.moment) in
    let begun : List ℕ = c.put_style.new.out in
    let added = c.in_ok-put_body.ensures ∙ ap (λ condition. begun ++ body_tag condition) c.condition_at.ensures in
    let shown = holds_last begun tag c.put_body.new.out added in
    holds_more c.put_body.new.out tag _ c.put_server.new.out shown c.in_ok-put_server.ensures
