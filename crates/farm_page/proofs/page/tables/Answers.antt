use Rattle.std.proofs.Common.{List, ℕ}
use Rattle.farm_page.specs.Rows.{workers_row}
use Rattle.farm_page.specs.Sections.{end_rows, failures_part, function_rows, host_rows}
use Rattle.farm_page.specs.declared.sections.Share.TheVariants.{Busy, Quiet}
use Rattle.farm_page.proofs.Held.{holds_in, holds_more}
use Rattle.farm_page.proofs.page.tables.Goals as goal

pub returns-clause-busy : goal.returns-clause-busy
returns-clause-busy c =
    let rows : List ℕ = function_rows Busy c.args.view.now.workers.all c.args.view.now.functions.items in
    let at_1 = holds_more c.in_ok-out.out rows c.in_ok-hosts.hosts c.put.new.self c.in_ok-out.ensures.busy c.in_ok-put.ensures in
    let at_2 = holds_more c.put.new.self rows c.in_ok-workers.workers c.put-2.new.self at_1 c.in_ok-put-2.ensures in
    let at_3 = holds_more c.put-2.new.self rows c.in_ok-ends.ends c.put-3.new.self at_2 c.in_ok-put-3.ensures in
    holds_more c.put-3.new.self rows c.in_ok-failures.failures c.put-4.new.self at_3 c.in_ok-put-4.ensures

pub returns-clause-quiet : goal.returns-clause-quiet
returns-clause-quiet c =
    let rows : List ℕ = function_rows Quiet c.args.view.now.workers.all c.args.view.now.functions.items in
    let at_1 = holds_more c.in_ok-out.out rows c.in_ok-hosts.hosts c.put.new.self c.in_ok-out.ensures.quiet c.in_ok-put.ensures in
    let at_2 = holds_more c.put.new.self rows c.in_ok-workers.workers c.put-2.new.self at_1 c.in_ok-put-2.ensures in
    let at_3 = holds_more c.put-2.new.self rows c.in_ok-ends.ends c.put-3.new.self at_2 c.in_ok-put-3.ensures in
    holds_more c.put-3.new.self rows c.in_ok-failures.failures c.put-4.new.self at_3 c.in_ok-put-4.ensures

pub returns-clause-hosts : goal.returns-clause-hosts
returns-clause-hosts c =
    let rows : List ℕ = host_rows c.args.view.now.hosts.items in
    let at_1 = holds_in c.in_ok-out.out c.in_ok-hosts.hosts rows c.put.new.self c.in_ok-hosts.ensures c.in_ok-put.ensures in
    let at_2 = holds_more c.put.new.self rows c.in_ok-workers.workers c.put-2.new.self at_1 c.in_ok-put-2.ensures in
    let at_3 = holds_more c.put-2.new.self rows c.in_ok-ends.ends c.put-3.new.self at_2 c.in_ok-put-3.ensures in
    holds_more c.put-3.new.self rows c.in_ok-failures.failures c.put-4.new.self at_3 c.in_ok-put-4.ensures

pub returns-clause-workers : goal.returns-clause-workers
returns-clause-workers c =
    let rows : List ℕ = workers_row c.args.view.now in
    let at_1 = holds_in c.put.new.self c.in_ok-workers.workers rows c.put-2.new.self c.in_ok-workers.ensures c.in_ok-put-2.ensures in
    let at_2 = holds_more c.put-2.new.self rows c.in_ok-ends.ends c.put-3.new.self at_1 c.in_ok-put-3.ensures in
    holds_more c.put-3.new.self rows c.in_ok-failures.failures c.put-4.new.self at_2 c.in_ok-put-4.ensures

pub returns-clause-ends : goal.returns-clause-ends
returns-clause-ends c =
    let rows : List ℕ = end_rows c.args.view.now.ends.items in
    let at_1 = holds_in c.put-2.new.self c.in_ok-ends.ends rows c.put-3.new.self c.in_ok-ends.ensures c.in_ok-put-3.ensures in
    holds_more c.put-3.new.self rows c.in_ok-failures.failures c.put-4.new.self at_1 c.in_ok-put-4.ensures

pub returns-clause-failures : goal.returns-clause-failures
returns-clause-failures c =
    let rows : List ℕ = failures_part c.args.view.now.failures in
    holds_in c.put-3.new.self c.in_ok-failures.failures rows c.put-4.new.self c.in_ok-failures.ensures c.in_ok-put-4.ensures
