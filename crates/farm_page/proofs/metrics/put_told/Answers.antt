use Rattle.std.proofs.Common.{List, ℕ, ◌++◌}
use Rattle.std.specs.Prelude.{codes}
use Rattle.std.proofs.lemmas.Result.{on_ok_weaker}
use Rattle.farm_page.proofs.Walks.{after}
use Rattle.farm_page.proofs.metrics.put_told.Goals as goal

pub returns : goal.returns
returns c =
    let old = c.args.out.now.items in
    let lead : List ℕ = c.args.lead.now in
    let named : List ℕ = c.args.metric.now.name.now in
    let space : List ℕ = codes " " in
    let words : List ℕ = c.args.words.now in
    let two = after old _ _ lead named c.in_ok-put_text.ensures.ok c.in_ok-put_text-2.ensures.ok in
    let three = after old _ _ (lead ++ named) space two c.in_ok-put_text-3.ensures.ok in
    let four = after old _ _ (lead ++ named ++ space) words three c.in_ok-put_text-4.ensures.ok in
    on_ok_weaker c.put_text-5.result (λ told. after old _ _ (lead ++ named ++ space ++ words) (codes "\n") four told) c.put_text-5.ensures.ok
