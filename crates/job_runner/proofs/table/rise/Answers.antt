use Rattle.std.proofs.Common.{rules}
use Rattle.std.specs.Cmp.Lexicographic.{slice_cmp}
use Rattle.std.specs.Ordering.{is_lt, nat_cmp}
use Rattle.std.proofs.lemmas.Fn.{always_returns_same}
use Rattle.job_runner.proofs.table.rise.Goals as goal

pub returns : goal.returns
returns g c = c.is_sorted_by.ensures.cases (λ x y. is_lt (slice_cmp nat_cmp x.0.items y.0.items)) (always_returns_same _ _ _ (λ a r f' called. search rules))
