use Rattle.std.proofs.Common.{List, ℕ, ◌++◌, ◌∙◌, ap}
use Rattle.std.specs.Prelude.{codes}
use Rattle.std.specs.Fmt.{decimal}
use Rattle.std.proofs.lemmas.Result.{on_ok_weaker}
use Rattle.farm_page.specs.Rows.{share}
use Rattle.farm_page.proofs.Walks.{after}
use Rattle.farm_page.proofs.cells.put_bar.Goals as goal

pub returns : goal.returns
returns c =
    let old = c.args.out.now in
    let t0 : List ℕ = codes "<td><svg class=\"bar\" viewBox=\"0 0 84 8\" aria-hidden=\"true\"><rect class=\"track\" width=\"84\" height=\"8\" rx=\"4\"/><rect class=\"fill\" height=\"8\" rx=\"4\" width=\"" in
    let t1 : List ℕ = decimal (share c.args.workers.alive c.args.workers.all) in
    let t2 : List ℕ = codes "\"/><rect class=\"least\" width=\"2\" height=\"8\" x=\"" in
    let t3 : List ℕ = decimal (share c.args.least c.args.workers.all) in
    let t4 : List ℕ = codes "\"/></svg></td>" in
    on_ok_weaker c.put_tags-3.result (λ told. after old _ _ (t0 ++ t1 ++ t2 ++ t3) t4 (after old _ _ (t0 ++ t1 ++ t2) t3 (after old _ _ (t0 ++ t1) t2 (after old _ _ (t0) t1 c.in_ok-put_tags.ensures (c.in_ok-put_number.ensures ∙ ap (λ n. c.put_tags.new.self ++ decimal n) (c.from.ensures ∙ c.share.ensures))) c.in_ok-put_tags-2.ensures) (c.in_ok-put_number-2.ensures ∙ ap (λ n. c.put_tags-2.new.self ++ decimal n) (c.from-2.ensures ∙ c.share-2.ensures))) told) c.put_tags-3.ensures
