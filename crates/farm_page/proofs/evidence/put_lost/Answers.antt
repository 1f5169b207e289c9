use Rattle.std.proofs.Common.{List, ℕ, ◌++◌, ◌∙◌, ap, string_bytes}
use Rattle.std.specs.Prelude.{codes}
use Rattle.farm_page.proofs.Walks.{after, flat_map_step}
use Rattle.farm_page.proofs.evidence.put_lost.Goals as goal

pub loop-worker-preserved : goal.loop-worker-preserved
loop-worker-preserved c =
    let old = c.loop-worker.out.items in
    let name : List ℕ = string_bytes c.worker-item.result in
    let added = after old _ _ (codes " ") name c.in_ok-put_text.ensures.ok
    (c.in_ok-put_text-2.ensures.ok ∙ ap (λ t. c.put_text.new.out.items ++ t) c.as_str.ensures.value) in
    flat_map_step (λ worker. codes " " ++ string_bytes worker) c.args.lost.now c.loop-worker.worker-index c.worker-item.result _ _ _
    c.loop-worker-test.true c.worker-item.is added c.loop-worker.invariant
