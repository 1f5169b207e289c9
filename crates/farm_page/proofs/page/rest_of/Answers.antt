use Rattle.std.proofs.Common.{◌∙◌, ◌++◌, List, ℕ, ap}
use Rattle.farm_page.specs.Health.{condition_at, sentence_at}
use Rattle.farm_page.specs.Notices.{notices}
use Rattle.farm_page.specs.Rows.{workers_row}
use Rattle.farm_page.specs.Sections.{body_tag, end_rows, failures_part, function_rows, headline, host_rows}
use Rattle.farm_page.specs.declared.sections.Share.TheVariants.{Busy, Quiet}
use Rattle.farm_page.proofs.Held.{holds_in, holds_last, holds_more}
use Rattle.farm_page.proofs.page.rest_of.Goals as goal

pub returns-clause-condition : goal.returns-clause-condition
returns-clause-condition c =
    let rows : List ℕ = body_tag (condition_at c.args.view.now c.args.moment) in
    let at_1 = holds_more c.in_ok-out.out rows c.in_ok-headline.headline c.put.new.self c.in_ok-out.ensures c.in_ok-put.ensures in
    let at_2 = holds_more c.put.new.self rows c.in_ok-notices.notices c.put-2.new.self at_1 c.in_ok-put-2.ensures in
    let at_3 = holds_more c.put-2.new.self rows c.in_ok-state.state c.put-3.new.self at_2 c.in_ok-put-3.ensures in
    let at_4 = holds_more c.put-3.new.self rows c.in_ok-drawing.drawing c.put-4.new.self at_3 c.in_ok-put-4.ensures in
    let at_5 = holds_more c.put-4.new.self rows c.in_ok-tables.tables c.put-5.new.self at_4 c.in_ok-put-5.ensures in
    holds_more c.put-5.new.self rows _ c.put_tags.new.self at_5 c.in_ok-put_tags.ensures

pub returns-clause-sentence : goal.returns-clause-sentence
returns-clause-sentence c =
    let rows : List ℕ = headline (sentence_at c.args.view.now c.args.moment) in
    let at_1 = holds_last c.in_ok-out.out rows c.put.new.self (c.in_ok-put.ensures ∙ ap (λ t. c.in_ok-out.out ++ t) (c.in_ok-headline.ensures ∙ ap (λ t. headline t) (c.as_str-2.ensures.value ∙ c.in_ok-words.ensures))) in
    let at_2 = holds_more c.put.new.self rows c.in_ok-notices.notices c.put-2.new.self at_1 c.in_ok-put-2.ensures in
    let at_3 = holds_more c.put-2.new.self rows c.in_ok-state.state c.put-3.new.self at_2 c.in_ok-put-3.ensures in
    let at_4 = holds_more c.put-3.new.self rows c.in_ok-drawing.drawing c.put-4.new.self at_3 c.in_ok-put-4.ensures in
    let at_5 = holds_more c.put-4.new.self rows c.in_ok-tables.tables c.put-5.new.self at_4 c.in_ok-put-5.ensures in
    holds_more c.put-5.new.self rows _ c.put_tags.new.self at_5 c.in_ok-put_tags.ensures

pub returns-clause-busy : goal.returns-clause-busy
returns-clause-busy c =
    let rows : List ℕ = function_rows Busy c.args.view.now.workers.all c.args.view.now.functions.items in
    let at_1 = holds_in c.put-4.new.self c.in_ok-tables.tables rows c.put-5.new.self c.in_ok-tables.ensures.busy c.in_ok-put-5.ensures in
    holds_more c.put-5.new.self rows _ c.put_tags.new.self at_1 c.in_ok-put_tags.ensures

pub returns-clause-quiet : goal.returns-clause-quiet
returns-clause-quiet c =
    let rows : List ℕ = function_rows Quiet c.args.view.now.workers.all c.args.view.now.functions.items in
    let at_1 = holds_in c.put-4.new.self c.in_ok-tables.tables rows c.put-5.new.self c.in_ok-tables.ensures.quiet c.in_ok-put-5.ensures in
    holds_more c.put-5.new.self rows _ c.put_tags.new.self at_1 c.in_ok-put_tags.ensures

pub returns-clause-notices : goal.returns-clause-notices
returns-clause-notices c =
    let rows : List ℕ = notices c.args.view.now in
    let at_1 = holds_last c.put.new.self rows c.put-2.new.self (c.in_ok-put-2.ensures ∙ ap (λ t. c.put.new.self ++ t) c.in_ok-notices.ensures) in
    let at_2 = holds_more c.put-2.new.self rows c.in_ok-state.state c.put-3.new.self at_1 c.in_ok-put-3.ensures in
    let at_3 = holds_more c.put-3.new.self rows c.in_ok-drawing.drawing c.put-4.new.self at_2 c.in_ok-put-4.ensures in
    let at_4 = holds_more c.put-4.new.self rows c.in_ok-tables.tables c.put-5.new.self at_3 c.in_ok-put-5.ensures in
    holds_more c.put-5.new.self rows _ c.put_tags.new.self at_4 c.in_ok-put_tags.ensures

pub returns-clause-hosts : goal.returns-clause-hosts
returns-clause-hosts c =
    let rows : List ℕ = host_rows c.args.view.now.hosts.items in
    let at_1 = holds_in c.put-4.new.self c.in_ok-tables.tables rows c.put-5.new.self c.in_ok-tables.ensures.hosts c.in_ok-put-5.ensures in
    holds_more c.put-5.new.self rows _ c.put_tags.new.self at_1 c.in_ok-put_tags.ensures

pub returns-clause-workers : goal.returns-clause-workers
returns-clause-workers c =
    let rows : List ℕ = workers_row c.args.view.now in
    let at_1 = holds_in c.put-4.new.self c.in_ok-tables.tables rows c.put-5.new.self c.in_ok-tables.ensures.workers c.in_ok-put-5.ensures in
    holds_more c.put-5.new.self rows _ c.put_tags.new.self at_1 c.in_ok-put_tags.ensures

pub returns-clause-ends : goal.returns-clause-ends
returns-clause-ends c =
    let rows : List ℕ = end_rows c.args.view.now.ends.items in
    let at_1 = holds_in c.put-4.new.self c.in_ok-tables.tables rows c.put-5.new.self c.in_ok-tables.ensures.ends c.in_ok-put-5.ensures in
    holds_more c.put-5.new.self rows _ c.put_tags.new.self at_1 c.in_ok-put_tags.ensures

pub returns-clause-failures : goal.returns-clause-failures
returns-clause-failures c =
    let rows : List ℕ = failures_part c.args.view.now.failures in
    let at_1 = holds_in c.put-4.new.self c.in_ok-tables.tables rows c.put-5.new.self c.in_ok-tables.ensures.failures c.in_ok-put-5.ensures in
    holds_more c.put-5.new.self rows _ c.put_tags.new.self at_1 c.in_ok-put_tags.ensures
