-- Workers counted one by one.
use Rattle.std.proofs.Common.{◌≡◌, ℕ, ◌+◌, ◌<◌, ◌≤◌, cond, leb, List, length, get_or, take, count_by, Option, All, ap, arith}
use Rattle.std.specs.List.{list_all}
use Rattle.std.proofs.lemmas.List.{length-take-le}
use Rattle.std.proofs.lemmas.List.Sums.{sum_by_more, count_by-le-length}
use Rattle.std.proofs.lemmas.List.Elements.{recursion_from_All}
use Rattle.plan_model.specs.Planning.{Instance, Assignment, is_on, is_filled, assigned}
use Rattle.plan_model.specs.Counts.{AreCounts}
use Rattle.plan_model.proofs.Same.{list_all_same}

-- how many of the workers the listed plan puts on f
abbrev pub tally : List (ℕ × Option ℕ) → ℕ → List (ℕ × ℕ) → ℕ
tally entries f workers = count_by (λ worker. is_on f (assigned entries worker.0)) workers

pub tally-more : (entries : List (ℕ × Option ℕ)) (f : ℕ) (workers : List (ℕ × ℕ)) (k : ℕ) (worker : ℕ × ℕ) (on : Option ℕ) → k < length workers → worker ≡ get_or workers k worker → on ≡ assigned entries worker.0
    → tally entries f (take (k + 1) workers) ≡ tally entries f (take k workers) + cond (is_on f on) 1 0
tally-more entries f workers k worker on below here is =
    let more = sum_by_more (λ (w : ℕ × ℕ). cond (is_on f (assigned entries w.0)) 1 0) workers k worker below in
    let at = ap {B = ℕ} (λ (w : ℕ × ℕ). cond (is_on f (assigned entries w.0)) 1 0) here in
    let same = ap {B = ℕ} (λ (o : Option ℕ). cond (is_on f o) 1 0) is in
    omega (arith, more, at, same)

pub tally-le : (entries : List (ℕ × Option ℕ)) (f : ℕ) (workers : List (ℕ × ℕ)) (k : ℕ) → k ≤ length workers → tally entries f (take k workers) ≤ k
tally-le entries f workers k within = omega (arith, count_by-le-length (λ (w : ℕ × ℕ). is_on f (assigned entries w.0)) (take k workers), length-take-le k workers within)

-- functions are at their greatest number by the table of counts where they are by the plan
pub filled-counted : (i : Instance) (plan : Assignment) (counts : List ℕ) (row : List ℕ) → AreCounts i plan counts → All (λ f. f < 1024) row
    → list_all (λ f. leb (get_or i.most f 0) (get_or counts f 0)) row ≡ list_all (is_filled i plan) row
filled-counted i plan counts row counted inside =
    list_all_same (λ f. leb (get_or i.most f 0) (get_or counts f 0)) (is_filled i plan) row (recursion_from_All _ row (λ k d below. ap (leb (get_or i.most (get_or row k d) 0)) (counted.each (get_or row k d) (inside k d below))))
