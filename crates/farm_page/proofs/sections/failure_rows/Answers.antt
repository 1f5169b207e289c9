use Rattle.farm_page.specs.Rows.{failure_row}
use Rattle.farm_page.proofs.Walks.{flat_map_step}
use Rattle.farm_page.proofs.sections.failure_rows.Goals as goal

pub loop-failure-preserved : goal.loop-failure-preserved
loop-failure-preserved c =
    flat_map_step failure_row c.args.failures.now c.loop-failure.failure-index c.failure-item.result _ _ _ c.loop-failure-test.true
    c.failure-item.is c.in_ok-put_failure.ensures c.loop-failure.invariant
