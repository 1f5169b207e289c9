use Rattle.std.proofs.Common.{rules, ◌≡◌, ℕ, List, Vec, Global, option_map, sym, ap, ◌∙◌, subst}
use Rattle.std.specs.List.{IsAllAdjacentAnswer}
use Rattle.std.specs.List.Sorted.{IsSortedBy}
use Rattle.std.specs.Cmp.Lexicographic.{slice_cmp}
use Rattle.std.specs.Ordering.{is_lt, nat_cmp}
use Rattle.std.proofs.lemmas.Fn.{always_returns_same}
use Rattle.std.proofs.lemmas.Cmp.{nat_list_cmp_total}
use Rattle.std.proofs.lemmas.List.Sorted.{ranks_by}
use Rattle.job_runner.proofs.Tables.{twice_moved, twice_from_answer, rising_from_answer, once_from_apart, apart_from_rising, found_moved}
use Rattle.job_runner.proofs.table.JobTable.new.Goals as goal

pub returns-then-not-rise-clause-refused : goal.returns-then-not-rise-clause-refused
returns-then-not-rise-clause-refused g c =
    let new = c.sort_unstable_by.new.self.items in
    let name = λ (e : Vec ℕ Global × g.row.J.Denot). e.0.items in
    let sorted : IsSortedBy (λ x y. is_lt (slice_cmp nat_cmp (name x) (name y))) new =
    c.sort_unstable_by.ensures.sorted (λ x y. is_lt (slice_cmp nat_cmp (name x) (name y))) (ranks_by nat_list_cmp_total name) (always_returns_same _ _ _ (λ a r f' called. search rules)) in
    let answer = subst (λ (xs : List (Vec ℕ Global × g.row.J.Denot)). IsAllAdjacentAnswer (λ x y b. b ≡ is_lt (slice_cmp nat_cmp (name x) (name y))) xs c.rise.result) c.as_slice.ensures.value c.rise.ensures in
    sym (twice_moved name c.args.jobs.items new c.sort_unstable_by.ensures.permutation ∙ twice_from_answer name new c.rise.result sorted answer c.if-not-rise.true)

pub invariant_of-result : goal.invariant_of-result
invariant_of-result g c =
    let new = c.sort_unstable_by.new.self.items in
    let name = λ (e : Vec ℕ Global × g.row.J.Denot). e.0.items in
    let answer = subst (λ (xs : List (Vec ℕ Global × g.row.J.Denot)). IsAllAdjacentAnswer (λ x y b. b ≡ is_lt (slice_cmp nat_cmp (name x) (name y))) xs c.rise.result) c.as_slice.ensures.value c.rise.ensures in
    record { rising = rising_from_answer name new c.rise.result answer c.if-not-rise.false }

pub returns-clause-same : goal.returns-clause-same
returns-clause-same g c n input =
    let new = c.sort_unstable_by.new.self.items in
    let name = λ (e : Vec ℕ Global × g.row.J.Denot). e.0.items in
    let answer = subst (λ (xs : List (Vec ℕ Global × g.row.J.Denot)). IsAllAdjacentAnswer (λ x y b. b ≡ is_lt (slice_cmp nat_cmp (name x) (name y))) xs c.rise.result) c.as_slice.ensures.value c.rise.ensures in
    let apart = apart_from_rising name new (rising_from_answer name new c.rise.result answer c.if-not-rise.false) in
    ap (option_map (λ e. g.J.Job.meaning e.1 input)) (found_moved name c.args.jobs.items new n c.sort_unstable_by.ensures.permutation apart)

pub returns-clause-refused : goal.returns-clause-refused
returns-clause-refused g c =
    let new = c.sort_unstable_by.new.self.items in
    let name = λ (e : Vec ℕ Global × g.row.J.Denot). e.0.items in
    let answer = subst (λ (xs : List (Vec ℕ Global × g.row.J.Denot)). IsAllAdjacentAnswer (λ x y b. b ≡ is_lt (slice_cmp nat_cmp (name x) (name y))) xs c.rise.result) c.as_slice.ensures.value c.rise.ensures in
    let apart = apart_from_rising name new (rising_from_answer name new c.rise.result answer c.if-not-rise.false) in
    sym (twice_moved name c.args.jobs.items new c.sort_unstable_by.ensures.permutation ∙ once_from_apart name new apart)
