use Rattle.farm_page.specs.Condition.{place_words}
use Rattle.farm_page.proofs.Walks.{flat_map_step}
use Rattle.farm_page.proofs.condition.push_each_place.Goals as goal

pub loop-host-preserved : goal.loop-host-preserved
loop-host-preserved c =
    flat_map_step place_words c.args.hosts.now c.loop-host.host-index c.host-item.result _ _ _ c.loop-host-test.true
    c.host-item.is c.in_ok-push_place.ensures c.loop-host.invariant
