-- The lines of a set that is short of workers, taken.
use Rattle.std.proofs.Common.{◌≡◌, ℕ, ◌+◌, ◌^◌, ◌<◌, ◌≤◌, List, [], ◌∷◌, ◌++◌, true, false, Option, Some, None, ltb, length, get_or, map, All, append_assoc, refl, sym, subst, arith}
use Rattle.std.specs.Prelude.{sum_by}
use Rattle.std.specs.List.{flat_map}
use Rattle.std.specs.List.Sorted.{IsStrictlyIncreasing}
use Rattle.std.proofs.lemmas.Bool.{le-ltb}
use Rattle.std.proofs.lemmas.List.{append-nil}
use Rattle.std.proofs.lemmas.List.Elements.{recursion_from_All}
use Rattle.std.proofs.lemmas.List.Sums.{sum_by-le}
use Rattle.plan_model.specs.Planning.{machines_of, may_do, neighbours}
use Rattle.plan_model.proofs.Hall.{length-rising, rising}
use Rattle.plan_sizing.specs.Sizing.{Farm, IsFarm, IsShortBy, need}
use Rattle.pool_settings.specs.Settings.{AreSettings, Settings}
use Rattle.pool_report.specs.Lines.{needed, short}
use Rattle.pool_report.specs.Report.{needed_line, short_line, short_lines}
use Rattle.pool_report.proofs.Bounds.{have_few}
use Rattle.pool_report.proofs.Walks.{AreKnown}
use Rattle.pool_report.proofs.Whole.{are_known, numbers_from_0}
use Rattle.size_report.specs.Lines.{shared}
use Rattle.size_report.specs.Reading.{before_set}
use Rattle.size_report.specs.Text.{needed_of, short_of}
use Rattle.size_report.specs.declared.stage.Kind.{Kind}
use Rattle.size_report.specs.declared.stage.Stage.{Stage}
use Rattle.size_report.specs.declared.stage.Stage.TheVariants as stage
use Rattle.size_report.proofs.Bounds.{need_small}
use Rattle.size_report.proofs.Encoded.{needed_told, sums_told}
use Rattle.size_report.proofs.Walks.{Leads, at, leads_line, leads_none, leads_on}

pub sum_small : (farm : Farm) (set : List ℕ) → IsFarm farm → ((f : ℕ) → need farm f < 2 ^ 32) → IsStrictlyIncreasing set → All (λ f. f < length farm.problem.least) set
    → sum_by (need farm) set < 2 ^ 64
sum_small farm set sound small rises within =
    let each : All (λ f. need farm f ≤ 4294967295) set = λ k d inside. omega (arith, small (get_or set k d)) in
    omega (arith, sum_by-le (need farm) 4294967295 set each, length-rising (length farm.problem.least) set rises within, sound.instance.limits.functions)

module _ (p : Settings) (farm : Farm) where
  needs_lead : (fs : List ℕ) (k : Kind) (ms : List ℕ) (es : List (ℕ × Option ℕ)) (set : List ℕ) (a b next : ℕ) → AreKnown p (need farm) next fs
      → (last : ℕ) × Leads p (at stage.Set k ms es (Some set) a b next) (flat_map needed_line (map (needed_of p farm) fs)) (at stage.Set k ms es (Some (set ++ fs)) a b last)
  needs_lead [] k ms es set a b next known =
      (next, subst (λ gs. Leads p (at stage.Set k ms es (Some set) a b next) [] (at stage.Set k ms es (Some gs) a b next)) (sym (append-nil set)) (leads_none p _))
  needs_lead (f ∷ fs) k ms es set a b next known =
      let d = at stage.Set k ms es (Some set) a b next in
      let e = at stage.Set k ms es (Some (set ++ f ∷ [])) a b (f + 1) in
      let order : ltb f next ≡ false = le-ltb f next known.0 in
      let good = known.1 in
      let small : need farm f < 2 ^ 32 = known.2 in
      let few : need farm f < 2 ^ 64 = omega (arith, small) in
      let line = needed_line (needed_of p farm f) in
      let first : Leads p d line e = leads_line p d e line (shared (needed (needed_of p farm f).function)) (needed_told (needed_of p farm f) good.named few) (rw (good.place, order) refl) in
      let rest = needs_lead fs k ms es (set ++ f ∷ []) a b (f + 1) known.3 in (
        rest.0,
        subst (λ gs. Leads p d (flat_map needed_line (map (needed_of p farm) (f ∷ fs))) (at stage.Set k ms es (Some gs) a b rest.0)) (append_assoc set (f ∷ []) fs)
            (leads_on p d e _ line (flat_map needed_line (map (needed_of p farm) fs)) first rest.1),
      )

  module _ (valid : AreSettings p) (sound : IsFarm farm) (many : length farm.problem.least ≡ length p.functions) (least : All (λ n. n < 2 ^ 32) farm.problem.least) where
    pub set_lead : (lack : ℕ) (set : List ℕ) (s : Stage) (k : Kind) (ms : List ℕ) (es : List (ℕ × Option ℕ)) (a b : ℕ) → IsShortBy farm lack set → before_set s ≡ true
        → (last : ℕ) × Leads p (at s k ms es None a b 0) (short_lines (short_of p farm set)) (at stage.Set k ms es (Some set) a b last)
    set_lead lack set s k ms es a b is before =
        let small : (f : ℕ) → need farm f < 2 ^ 32 = need_small farm sound least in
        let known : AreKnown p (need farm) 0 set =
        are_known p valid (need farm) set 0 (numbers_from_0 set) (rising set is.rising)
        (recursion_from_All (λ f. f < length p.functions) set (subst (λ n. All (λ f. f < n) set) many is.within)) small in
        let have = neighbours (may_do farm.problem) (machines_of farm.problem) set in
        let line = short_line (sum_by (need farm) set) have in
        let d = at s k ms es None a b 0 in
        let e = at stage.Set k ms es (Some []) a b 0 in
        let first : Leads p d line e = leads_line p d e line (shared short) (sums_told (sum_by (need farm) set) have (sum_small farm set sound small is.rising is.within) (have_few farm.problem set sound.instance)) (rw before refl) in
        let rest = needs_lead set k ms es [] a b 0 known in
        (rest.0, leads_on p d e _ line (flat_map needed_line (map (needed_of p farm) set)) first rest.1)
