-- Which functions have a least number.
use Rattle.std.specs.Prelude.{ℕ, ◌<◌, nat_lt, IsTrue, List, slice_index, count_by}
use Rattle.plan_model.specs.Planning.{Instance}
use Rattle.relaxed_plan.specs.Relaxed.{is_among}

-- Some function of the set has a least number above 0.
abbrev pub HasLeast : Instance → List ℕ → Type 0
HasLeast i set = (f : ℕ) × IsTrue (is_among set f) × (0 < slice_index i.least f)

-- How many functions have a least number above 0.
abbrev pub least_count : Instance → ℕ
least_count i = count_by (λ least. nat_lt 0 least) i.least
