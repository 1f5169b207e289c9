use Rattle.std.proofs.Common.{[]}
use Rattle.farm_page.specs.Metrics as spec
use Rattle.farm_page.proofs.Walks.{after_known}
use Rattle.farm_page.proofs.metrics.metrics_text.Goals as goal

pub returns : goal.returns
returns c =
    after_known c.new-out.result.items c.put_metrics.new.out.items [] (spec.metrics_text c.args.view.now c.args.moment) c.new-out.ensures.items c.in_ok-put_metrics.ensures
