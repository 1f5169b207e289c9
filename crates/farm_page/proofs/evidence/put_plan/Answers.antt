use Rattle.std.proofs.Common.{List, ℕ, ◌++◌}
use Rattle.std.specs.Prelude.{codes}
use Rattle.farm_page.specs.Evidence.{part}
use Rattle.farm_page.proofs.Walks.{after}
use Rattle.farm_page.proofs.evidence.put_plan.Goals as goal

pub returns : goal.returns
returns c =
    let plan = c.args.plan.now in
    let settings : List ℕ = part (codes "relaxed settings") plan.settings.items in
    let report : List ℕ = part (codes "relaxed report") plan.report.items in
    after c.args.out.now.items c.put_part.new.out.items c.put_part-2.new.out.items settings report
    (rw c.deref.ensures.value at c.in_ok-put_part.ensures) (rw c.deref-2.ensures.value at c.in_ok-put_part-2.ensures)
