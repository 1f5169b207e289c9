use Rattle.std.proofs.Common.{List, ℕ, ◌++◌, ◌∙◌, ap, string_bytes}
use Rattle.std.specs.Prelude.{codes}
use Rattle.std.proofs.lemmas.Result.{on_ok_weaker}
use Rattle.farm_page.specs.Measured.{host_value}
use Rattle.farm_page.specs.Rows.{bar_if, cell, cell_if, missing_cell, not_alive_cell, reached_cell, row_name}
use Rattle.farm_page.specs.declared.cells.Gap.TheVariants.{Unknown}
use Rattle.farm_page.specs.declared.cells.Mark.TheVariants.{Plain}
use Rattle.farm_page.specs.declared.measured.HostNumber.TheVariants.{Alive}
use Rattle.farm_page.proofs.Walks.{after}
use Rattle.farm_page.proofs.rows.put_host.Goals as goal

pub returns : goal.returns
returns c =
    let old = c.args.out.now in
    let t0 : List ℕ = row_name (string_bytes c.args.host.now.name) in
    let t1 : List ℕ = cell_if (host_value c.args.host.now Alive) Unknown in
    let t2 : List ℕ = cell Plain c.args.host.now.all in
    let t3 : List ℕ = bar_if c.args.host.now.alive c.args.host.now.all c.args.host.now.all in
    let t4 : List ℕ = not_alive_cell c.args.host.now in
    let t5 : List ℕ = missing_cell c.args.host.now in
    let t6 : List ℕ = reached_cell c.args.host.now in
    let t7 : List ℕ = codes "</tr>\n" in
    on_ok_weaker c.put_tags.result (λ told. after old _ _ (t0 ++ t1 ++ t2 ++ t3 ++ t4 ++ t5 ++ t6) t7 (after old _ _ (t0 ++ t1 ++ t2 ++ t3 ++ t4 ++ t5) t6 (after old _ _ (t0 ++ t1 ++ t2 ++ t3 ++ t4) t5 (after old _ _ (t0 ++ t1 ++ t2 ++ t3) t4 (after old _ _ (t0 ++ t1 ++ t2) t3 (after old _ _ (t0 ++ t1) t2 (after old _ _ (t0) t1 (c.in_ok-put_row_name.ensures ∙ ap (λ t. old ++ row_name t) c.as_str.ensures.value) (c.in_ok-put_cell_if.ensures ∙ ap (λ n. c.put_row_name.new.out ++ cell_if n Unknown) c.host_value-alive.ensures)) (c.in_ok-put_cell.ensures ∙ ap (λ n. c.put_cell_if.new.out ++ cell Plain n) c.from.ensures)) c.in_ok-put_bar_if.ensures) c.in_ok-put_not_alive.ensures) c.in_ok-put_missing.ensures) c.in_ok-put_reached.ensures) told) c.put_tags.ensures
