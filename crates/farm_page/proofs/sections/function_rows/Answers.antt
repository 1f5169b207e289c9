use Rattle.farm_page.specs.Sections.{row_if}
use Rattle.farm_page.proofs.Walks.{flat_map_step}
use Rattle.farm_page.proofs.sections.function_rows.Goals as goal

pub loop-function-preserved : goal.loop-function-preserved
loop-function-preserved c =
    flat_map_step (row_if c.args.share c.args.all) c.args.functions.now c.loop-function.function-index c.function-item.result _ _ _ c.loop-function-test.true
    c.function-item.is c.in_ok-put_function_if.ensures c.loop-function.invariant
