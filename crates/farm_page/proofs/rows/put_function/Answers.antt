use Rattle.std.proofs.Common.{List, ℕ, ◌++◌, ◌∙◌, ap, string_bytes}
use Rattle.std.specs.Prelude.{codes}
use Rattle.std.proofs.lemmas.Result.{on_ok_weaker}
use Rattle.farm_page.specs.Rows.{cell, cell_if, jobs_cells, row_name, workers_cells}
use Rattle.farm_page.specs.Measured.{function_value}
use Rattle.farm_page.specs.declared.cells.Gap.TheVariants.{Any}
use Rattle.farm_page.specs.declared.cells.Mark.TheVariants.{Plain}
use Rattle.farm_page.specs.declared.measured.FunctionNumber.TheVariants.{Most}
use Rattle.farm_page.proofs.Walks.{after}
use Rattle.farm_page.proofs.rows.put_function.Goals as goal

pub returns : goal.returns
returns c =
    let old = c.args.out.now in
    let t0 : List ℕ = row_name (string_bytes c.args.function.now.name) in
    let t1 : List ℕ = workers_cells c.args.function.now c.args.all in
    let t2 : List ℕ = cell Plain c.args.function.now.least in
    let t3 : List ℕ = cell_if (function_value c.args.function.now Most) Any in
    let t4 : List ℕ = jobs_cells c.args.function.now in
    let t5 : List ℕ = codes "</tr>\n" in
    on_ok_weaker c.put_tags.result (λ told. after old _ _ (t0 ++ t1 ++ t2 ++ t3 ++ t4) t5 (after old _ _ (t0 ++ t1 ++ t2 ++ t3) t4 (after old _ _ (t0 ++ t1 ++ t2) t3 (after old _ _ (t0 ++ t1) t2 (after old _ _ (t0) t1 (c.in_ok-put_row_name.ensures ∙ ap (λ t. old ++ row_name t) c.as_str.ensures.value) c.in_ok-put_workers.ensures) (c.in_ok-put_cell.ensures ∙ ap (λ n. c.put_workers.new.out ++ cell Plain n) c.from.ensures)) (c.in_ok-put_cell_if.ensures ∙ ap (λ n. c.put_cell.new.out ++ cell_if n Any) c.function_value-most.ensures)) c.in_ok-put_jobs.ensures) told) c.put_tags.ensures
