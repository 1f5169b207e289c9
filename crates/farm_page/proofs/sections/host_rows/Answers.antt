use Rattle.farm_page.specs.Rows.{host_row}
use Rattle.farm_page.proofs.Walks.{flat_map_step}
use Rattle.farm_page.proofs.sections.host_rows.Goals as goal

pub loop-host-preserved : goal.loop-host-preserved
loop-host-preserved c =
    flat_map_step host_row c.args.hosts.now c.loop-host.host-index c.host-item.result _ _ _ c.loop-host-test.true
    c.host-item.is c.in_ok-put_host.ensures c.loop-host.invariant
