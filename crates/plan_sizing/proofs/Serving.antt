-- What a plan that serves gives each function.
use Rattle.std.proofs.Common.{◌≡◌, ℕ, ◌<◌, ◌≤◌, Bool, true, leb, List, length, get_or, subst, arith}
use Rattle.std.specs.List.{list_all, range_with_len}
use Rattle.std.proofs.lemmas.Bool.{leb-true}
use Rattle.std.proofs.lemmas.List.Elements.{All-from_get_or}
use Rattle.std.proofs.lemmas.List.FromFn.{length-range_with_len}
use Rattle.std.proofs.lemmas.List.Sums.{AllPass-from_list_all, list_all-from_AllPass}
use Rattle.plan_model.specs.Planning.{Assignment, workers_on}
use Rattle.plan_model.proofs.Ranges.{at_place}
use Rattle.plan_sizing.specs.Sizing.{Farm, IsFarm, Serves, grown, need}
use Rattle.plan_sizing.proofs.Needs.{need_least}

-- what a test of all functions says of one
pub at_function : (p : ℕ → Bool) (n f : ℕ) → f < n → list_all p (range_with_len 0 n) ≡ true → p f ≡ true
at_function p n f below all =
    subst (λ (g : ℕ). p g ≡ true) (at_place n f below) (AllPass-from_list_all p (range_with_len 0 n) all f 0 (omega (arith, length-range_with_len 0 n)))

-- and back
pub of_functions : (p : ℕ → Bool) (n : ℕ) → ((f : ℕ) → f < n → p f ≡ true) → list_all p (range_with_len 0 n) ≡ true
of_functions p n each =
    list_all-from_AllPass p (range_with_len 0 n) (All-from_get_or (λ f. p f ≡ true) (range_with_len 0 n) 0 (λ k below. (let inside : k < n = omega (arith, below, length-range_with_len 0 n) in rw (at_place n k inside) (each k inside))))

-- a plan that serves gives each function its need
pub met : (farm : Farm) (added : List ℕ) (plan : Assignment) (f : ℕ) → IsFarm farm → Serves farm added plan → f < length farm.problem.least → need farm f ≤ workers_on (grown farm added) plan f
met farm added plan f valid s below =
    let n : ℕ = workers_on (grown farm added) plan f in
    let least : get_or farm.problem.least f 0 ≤ n = leb-true (get_or farm.problem.least f 0) n (at_function (λ g. leb (get_or farm.problem.least g 0) (workers_on (grown farm added) plan g)) (length farm.problem.least) f below s.sound.enough) in
    need_least farm f n valid least (s.within f below)

-- and no more than its greatest number
pub bounded : (farm : Farm) (added : List ℕ) (plan : Assignment) (f : ℕ) → Serves farm added plan → f < length farm.problem.least → workers_on (grown farm added) plan f ≤ get_or farm.problem.most f 0
bounded farm added plan f s below =
    leb-true (workers_on (grown farm added) plan f) (get_or farm.problem.most f 0) (at_function (λ g. leb (workers_on (grown farm added) plan g) (get_or farm.problem.most g 0)) (length farm.problem.least) f below s.sound.at_most)
