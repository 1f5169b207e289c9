use Rattle.std.proofs.Common.{◌≡◌, ◌≤◌, List, ℕ, Some, None, ap, arith, length, subst, sym, ◌∙◌}
use Rattle.std.proofs.lemmas.Bool.{false≢true}
use Rattle.toml.specs.Parse.{parse_document}
use Rattle.toml.specs.View.{table_view}
use Rattle.pool_settings.proofs.Found.{found_in_text, found_no_utf8}
use Rattle.pool_settings.proofs.Trees.{tree_is}
use Rattle.pool_settings.proofs.file.SettingsFile.read.Goals as goal

pub returns-in-Ok-table_from_str-clause-ok : goal.returns-in-Ok-table_from_str-clause-ok
returns-in-Ok-table_from_str-clause-ok c =
    let text = c.args.text.now in
    let tree = table_view c.in-Ok-table_from_str.tree in
    let parsed = subst (λ (t : List ℕ). parse_document t ≡ Some tree) c.in-Ok.ensures.cases.0 c.in-Ok-table_from_str.ensures.ok in
    tree_is text tree c.in-Ok.ensures.cases.1 parsed

pub returns-in-Some-clause-refused : goal.returns-in-Some-clause-refused
returns-in-Some-clause-refused c =
    let text = c.args.text.now in
    let none = subst (λ (t : List ℕ). parse_document t ≡ None) c.in-Ok.ensures.cases.0 (c.in-Err-table_from_str.ensures.refused (λ memory. false≢true (sym (c.in-Some.ensures.none.1 memory)))) in
    let within : c.in-Some.span.start ≤ length text = omega (arith, c.in-Some.ensures.range.0, c.in-Err-table_from_str.ensures.span.0, c.in-Err-table_from_str.ensures.span.1, ap length c.in-Ok.ensures.cases.0) in
    found_in_text text c.in-Some.span.start _ c.in-Ok.ensures.cases.1 none within c.text_fault.ensures

pub returns-in-Err-clause-refused : goal.returns-in-Err-clause-refused
returns-in-Err-clause-refused c =
    let text = c.args.text.now in
    let n = c.valid_up_to.result in
    let within : n ≤ length text = omega (arith, c.valid_up_to.ensures, c.in-Err.ensures.cases.1.short) in
    found_no_utf8 text n _ c.in-Err.ensures.cases.0 (c.valid_up_to.ensures ∙ c.in-Err.ensures.valid_len) within c.text_fault-in-Err.ensures
