-- Functions that no live worker may do, and the others, if they have least numbers.
use Rattle.std.specs.Prelude.{ℕ, nat_lt, Bool, ◌&&◌, not, List, filter, slice_index, count_by}
use Rattle.plan_model.specs.Planning.{Instance, functions, is_stranded}

-- The function has a least number above 0, and no live worker may do it.
abbrev pub lacks_all : Instance → ℕ → Bool
lacks_all i f = nat_lt 0 (slice_index i.least f) && is_stranded i f

-- The functions with a least number above 0 that no live worker may do, in rising order.
abbrev pub stranded_of : Instance → List ℕ
stranded_of i = filter (lacks_all i) (functions i)

-- How many functions with a least number above 0 some live worker may do.
abbrev pub served_count : Instance → ℕ
served_count i = count_by (λ f. nat_lt 0 (slice_index i.least f) && not (is_stranded i f)) (functions i)
