use Rattle.std.proofs.Common.{List, ℕ, ◌++◌}
use Rattle.std.specs.Prelude.{codes}
use Rattle.std.proofs.lemmas.Result.{on_ok_weaker}
use Rattle.farm_page.specs.Rows.{row_name, turnover_cells}
use Rattle.farm_page.proofs.Walks.{after}
use Rattle.farm_page.proofs.rows.put_all_workers.Goals as goal

pub returns : goal.returns
returns c =
    let old = c.args.out.now in
    let t0 : List ℕ = row_name (codes "all") in
    let t1 : List ℕ = turnover_cells c.args.view.now in
    let t2 : List ℕ = codes "</tr>\n" in
    on_ok_weaker c.put_tags.result (λ told. after old _ _ (t0 ++ t1) t2 (after old _ _ (t0) t1 c.in_ok-put_row_name.ensures c.in_ok-put_turnover.ensures) told) c.put_tags.ensures
