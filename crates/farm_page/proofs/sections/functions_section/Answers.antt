use Rattle.std.proofs.Common.{◌++◌, ◌∙◌, ap}
use Rattle.farm_page.specs.Sections.{function_rows}
use Rattle.farm_page.specs.declared.sections.Share.TheVariants.{Busy, Quiet}
use Rattle.farm_page.proofs.Held.{holds_last, holds_more}
use Rattle.farm_page.proofs.sections.functions_section.Goals as goal

pub returns-clause-busy : goal.returns-clause-busy
returns-clause-busy c =
    let all = c.args.view.now.workers.all in
    let rows = function_rows Busy all c.args.view.now.functions.items in
    let busy = c.in_ok-busy.ensures ∙ ap (λ fs. function_rows Busy all fs) c.deref.ensures.value in
    let first = holds_last c.put_tags.new.self rows c.put.new.self (c.in_ok-put.ensures ∙ ap (λ t. c.put_tags.new.self ++ t) busy) in
    let second = holds_more c.put.new.self rows c.if-is_long.put_tags.now c.put_tags-2.new.self first c.in_ok-put_tags-2.ensures in
    let third = holds_more c.put_tags-2.new.self rows c.in_ok-quiet.quiet c.put-2.new.self second c.in_ok-put-2.ensures in
    holds_more c.put-2.new.self rows c.if-is_long-2.put_tags.now c.put_tags-3.new.self third c.in_ok-put_tags-3.ensures

pub returns-clause-quiet : goal.returns-clause-quiet
returns-clause-quiet c =
    let all = c.args.view.now.workers.all in
    let rows = function_rows Quiet all c.args.view.now.functions.items in
    let quiet = c.in_ok-quiet.ensures ∙ ap (λ fs. function_rows Quiet all fs) c.deref-2.ensures.value in
    let first = holds_last c.put_tags-2.new.self rows c.put-2.new.self (c.in_ok-put-2.ensures ∙ ap (λ t. c.put_tags-2.new.self ++ t) quiet) in
    holds_more c.put-2.new.self rows c.if-is_long-2.put_tags.now c.put_tags-3.new.self first c.in_ok-put_tags-3.ensures
