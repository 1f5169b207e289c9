use Rattle.std.proofs.Common.{List, ℕ, ◌++◌, ◌∙◌, ap}
use Rattle.farm_page.specs.Rows.{workers_row}
use Rattle.farm_page.proofs.Held.{holds_last, holds_more}
use Rattle.farm_page.proofs.sections.workers_section.Goals as goal

pub returns : goal.returns
returns c =
    let row : List ℕ = workers_row c.args.view.now in
    let first = holds_last c.put_tags.new.self row c.put.new.self (c.in_ok-put.ensures ∙ ap (λ t. c.put_tags.new.self ++ t) c.in_ok-row.ensures) in
    holds_more c.put.new.self row _ c.put_tags-2.new.self first c.in_ok-put_tags-2.ensures
