-- A shown size is right among all additions and plans.
use Rattle.std.proofs.Common.{◌≡◌, ℕ, ◌+◌, ◌<◌, ◌≤◌, leb, List, length, get_or, count_by, Option, None, Some, All, arith}
use Rattle.std.specs.List.{enumerate_from, list_all}
use Rattle.std.proofs.lemmas.Bool.{leb-true, le-leb, and_parts}
use Rattle.std.proofs.lemmas.List.Elements.{recursion_from_All}
use Rattle.std.proofs.lemmas.List.FromFn.{length-enumerate_from}
use Rattle.std.proofs.lemmas.List.Sums.{count_by-le-length, sum_by-append}
use Rattle.plan_model.specs.Planning.{Assignment, assigned, is_live, is_permitted, machines_of, may_do, neighbours, serves, workers_on}
use Rattle.plan_model.proofs.Hall.{count_by-map, rising, sum_by-le_each, workers_on_within}
use Rattle.plan_sizing.specs.Sizing.{Farm, IsFarm, IsShortBy, Serves, grown, need}
use Rattle.plan_sizing.specs.Shown.{IsEvidence, IsShownAddition, Right, Shown}
use Rattle.plan_sizing.specs.declared.size.Size.{Size}
use Rattle.plan_sizing.specs.declared.size.Size.TheVariants.{Enough, Never, TooMany}
use Rattle.plan_sizing.proofs.Needs.{need_fits}
use Rattle.plan_sizing.proofs.Serving.{at_function, met, of_functions}
use Rattle.plan_sizing.proofs.Barred.{never_serves}

-- each added worker meets at most one need of the set
pub at_least : (farm : Farm) (many : ℕ) (set added : List ℕ) (plan : Assignment) → IsFarm farm → IsShortBy farm many set → Serves farm added plan → many ≤ length added
at_least farm many set added plan valid short s =
    let i = farm.problem in
    let g = grown farm added in
    let new : List (ℕ × ℕ) = enumerate_from farm.slots added in
    let each : All (λ f. need farm f ≤ workers_on g plan f) set = λ k d below. met farm added plan (get_or set k d) valid s (short.within k d below) in
    let needs = sum_by-le_each (need farm) (workers_on g plan) set (recursion_from_All (λ f. need farm f ≤ workers_on g plan f) set each) in
    let reach = workers_on_within g plan set (rising set short.rising) g.live s.sound.permitted in
    let split : count_by (λ (w : ℕ × ℕ). serves i set w.1) g.live ≡ count_by (λ (w : ℕ × ℕ). serves i set w.1) i.live + count_by (λ (w : ℕ × ℕ). serves i set w.1) new = sum_by-append _ i.live new in
    let now : neighbours (may_do i) (machines_of i) set ≡ count_by (λ (w : ℕ × ℕ). serves i set w.1) i.live = count_by-map (serves i set) (λ (w : ℕ × ℕ). w.1) i.live in
    let few = count_by-le-length (λ (w : ℕ × ℕ). serves i set w.1) new in
    omega (arith, short.exact, needs, reach, split, now, few, length-enumerate_from farm.slots added)

-- a shown addition serves
pub shown_serves : (farm : Farm) (added : List ℕ) (entries : List (ℕ × Option ℕ)) (short : Option (List ℕ)) → IsFarm farm → IsShownAddition farm added entries short → Serves farm added (assigned entries)
shown_serves farm added entries short valid s =
    let g = grown farm added in
    let plan = assigned entries in
    let n = length farm.problem.least in
    let has : (f : ℕ) → f < n → need farm f ≤ workers_on g plan f = λ f below. leb-true _ _ (at_function (λ f. leb (need farm f) (workers_on g plan f)) n f below s.met) in
    record {
      machines = s.permitted.machines;
      sound = record {
        permitted = (and_parts (list_all (λ entry. is_live g entry.0) entries) (is_permitted g plan) s.permitted.plan).1;
        enough = of_functions (λ f. leb (get_or farm.problem.least f 0) (workers_on g plan f)) n (λ f below. le-leb _ _ (need_fits farm f (workers_on g plan f) valid (has f below)).0);
        at_most = s.at_most;
      };
      within = λ f below. (need_fits farm f (workers_on g plan f) valid (has f below)).1;
    }

evidence_least : (farm : Farm) (many : ℕ) (short : Option (List ℕ)) → IsFarm farm → IsEvidence farm many short → (other : List ℕ) (plan : Assignment) → Serves farm other plan → many ≤ length other
evidence_least farm many None valid none other plan s = omega (arith, none)
evidence_least farm many (Some set) valid short other plan s = at_least farm many set other plan valid short.1 s

pub shown_right : (farm : Farm) (size : Size) → IsFarm farm → Shown farm size → Right farm size
shown_right farm (Enough added entries short) valid shown =
    (record { serves = shown_serves farm added entries short valid shown; least = evidence_least farm (length added) short valid shown.evidence }, shown.few)
shown_right farm (Never obstacle) valid shown = λ added plan s. never_serves farm obstacle added plan valid shown s
shown_right farm (TooMany many set) valid shown = (λ added plan s. at_least farm many set added plan valid shown.short s, shown.above)
