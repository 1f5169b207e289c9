use Rattle.std.proofs.Common.{rules, ℕ, ◌<◌, List, Vec, Global, Some, Ok, Err, length, sym, ap, ◌∙◌, subst, arith}
use Rattle.std.specs.List.Sorted.{IsBinarySearchResult}
use Rattle.std.specs.Cmp.Lexicographic.{slice_cmp}
use Rattle.std.specs.Ordering.{nat_cmp}
use Rattle.std.proofs.lemmas.Fn.{always_returns_same}
use Rattle.job_runner.proofs.Tables.{found_at, missed}
use Rattle.job_runner.proofs.table.JobTable.entry.Goals as goal

pub returns-in-Ok : goal.returns-in-Ok
returns-in-Ok g c =
    let name = λ (e : Vec ℕ Global × g.row.J.Denot). e.0.items in
    let all = c.args.self.now.jobs.items in
    let n = c.args.name.now in
    let searched = c.in-Ok.ensures.position (λ e. slice_cmp nat_cmp (name e) n) (always_returns_same _ _ _ (λ a r f' called. search rules)) in
    let at = subst (λ (xs : List (Vec ℕ Global × g.row.J.Denot)). IsBinarySearchResult (λ e. slice_cmp nat_cmp (name e) n) xs (Ok c.in-Ok.place)) c.deref.ensures.value searched in
    let inside : c.in-Ok.place < length all = omega (arith, c.in-Ok.ensures.bound, ap (λ (xs : List (Vec ℕ Global × g.row.J.Denot)). length xs) c.deref.ensures.value) in
    let found = found_at name all n c.in-Ok.place c.index.result.now c.args.self.now.rising inside (at c.index.result.now) in
    ap Some c.index.ensures ∙ sym found

pub returns-in-Err : goal.returns-in-Err
returns-in-Err g c =
    let name = λ (e : Vec ℕ Global × g.row.J.Denot). e.0.items in
    let all = c.args.self.now.jobs.items in
    let n = c.args.name.now in
    let searched = c.in-Err.ensures.position (λ e. slice_cmp nat_cmp (name e) n) (always_returns_same _ _ _ (λ a r f' called. search rules)) in
    let at = subst (λ (xs : List (Vec ℕ Global × g.row.J.Denot)). IsBinarySearchResult (λ e. slice_cmp nat_cmp (name e) n) xs (Err c.in-Err.field-0)) c.deref.ensures.value searched in
    sym (missed name all n c.in-Err.field-0 c.args.self.now.rising at)
