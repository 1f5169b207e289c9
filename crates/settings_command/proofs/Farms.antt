-- The farm of settings is a planning problem, and what an answer for it says of least numbers.
use Rattle.std.proofs.Common.{◌≡◌, ◌∙◌, ℕ, ◌<◌, ◌≤◌, List, Bool, true, false, cond, Option, Some, All, get_or, length, replicate, ap, refl, subst, sym}
use Rattle.std.proofs.Common.{arith, inl, inr, max, min}
use Rattle.std.proofs.lemmas.Bool.{and_parts, cases_lt}
use Rattle.std.proofs.lemmas.List.{get_or-replicate, get_or_past, length-replicate}
use Rattle.std.proofs.lemmas.List.Elements.{recursion_from_All}
use Rattle.std.specs.List.{list_all}
use Rattle.plan_model.specs.InputRefusals.{IsTaken, as_given, instance}
use Rattle.plan_model.specs.Levels.{IsFewest}
use Rattle.plan_model.specs.Planning.{Instance, IsInstance, IsShort, IsSound, assigned, counted_waiting, is_live, is_permitted, is_stranded, need, top_level}
use Rattle.plan_model.specs.Shown.{IsShownPlan, Shown}
use Rattle.plan_model.specs.declared.answer.Answer.{Answer}
use Rattle.plan_model.specs.declared.answer.Answer.TheVariants.{NoPlan, Planned}
use Rattle.plan_model.proofs.Hall.{sum_by-le_each}
use Rattle.plan_model.proofs.Needs.{fewest_free, need_above, need_some}
use Rattle.pool_settings.proofs.Risen.{rows_same}
use Rattle.pool_settings.specs.Settings.{AreSettings, Settings}
use Rattle.pool_settings.specs.Planning.{instance_of}
use Rattle.pool_settings.specs.Slots.{slots}
use Rattle.settings_command.specs.Farm.{IsShortSet, IsShown, farm, no_most, set_of}

-- a problem is taken with other greatest numbers, as many as before
pub taken_with : (i : Instance) (most waiting : List ℕ) → IsInstance i → length most ≡ length i.least → length waiting ≡ length i.least
    → IsTaken (as_given i.live i.may i.least most waiting)
taken_with i most waiting valid many paired = record {
  order = valid.slots;
  numbers = record { machines = valid.machines; functions = valid.within; bounded = many; paired = paired };
  limits = valid.limits;
}

-- and keeps its permissions
pub made_with : (i : Instance) (most waiting : List ℕ) → IsInstance i
    → instance i.live i.may i.least most waiting ≡ record { live = i.live; may = i.may; least = i.least; most = most; waiting = waiting }
made_with i most waiting valid =
    ap (λ (rows : List (List ℕ)). record { live = i.live; may = rows; least = i.least; most = most; waiting = waiting }) (rows_same (length i.least) i.may valid.rows valid.within)

-- each number read from a list of the same number is that number
read_same : (n k x : ℕ) → get_or (replicate n x) k x ≡ x
read_same n k x =
    elim (cases_lt k n) [ inl inside ↦ get_or-replicate n k x x inside | inr past ↦ get_or_past (replicate n x) k x (omega (arith, length-replicate n x, past)) ]

module _ (p : Settings) (valid : AreSettings p) (known : IsInstance (farm p)) where
  abbrev many : ℕ
  many = length p.functions

  nothing : (b : Bool) (w : ℕ) → w ≡ 0 → cond b 0 w ≡ 0
  nothing true w is = refl
  nothing false w is = is

  -- no job counts
  none_waits : (f : ℕ) → counted_waiting (farm p) f ≡ 0
  none_waits f = nothing (is_stranded (farm p) f) (get_or (farm p).waiting f 0) (read_same many f 0)

  fewest : (f : ℕ) → IsFewest (Some 0) (counted_waiting (farm p) f) top_level
  fewest f = subst (λ w. IsFewest (Some 0) w top_level) (sym (none_waits f)) (fewest_free top_level)

  -- a function needs no more than its least number
  need_least : (f : ℕ) → f < many → need (farm p) top_level f ≤ get_or p.least f 0
  need_least f inside =
      let most : get_or (farm p).most f 0 ≡ no_most = get_or-replicate many f no_most 0 inside in
      let few = known.limits.workers in
      elim (cases_lt (min (length (farm p).live) (get_or (farm p).most f 0)) (max 0 (get_or p.least f 0))) [
        | inl above ↦ omega (arith, need_above (farm p) top_level f 0 (fewest f) above, above, most, few)
        | inr within ↦ omega (arith, need_some (farm p) top_level f 0 (fewest f) within)
      ]

  -- a set that is short at the top level is short by its least numbers
  pub short_by_least : (set : List ℕ) → IsShort (farm p) top_level set → IsShortSet p set
  short_by_least set short =
      let within : All (λ f. f < many) set = subst (λ n. All (λ f. f < n) set) valid.least_paired short.within in
      let each : All (λ f. need (farm p) top_level f ≤ get_or p.least f 0) set = λ k d below. need_least (get_or set k d) (within k d below) in
      let sums = sum_by-le_each (need (farm p) top_level) (λ f. get_or p.least f 0) set (recursion_from_All (λ f. need (farm p) top_level f ≤ get_or p.least f 0) set each) in
      record { rising = short.rising; within = within; short = omega (arith, short.short, sums) }

-- a plan that is shown is sound
pub sound_plan : (i : Instance) (entries : List (ℕ × Option ℕ)) (backlog : ℕ) (short : Option (List ℕ)) → IsShownPlan i entries backlog short
    → IsSound i (assigned entries)
sound_plan i entries backlog short shown = record {
  permitted = (and_parts (list_all (λ entry. is_live i entry.0) entries) (is_permitted i (assigned entries)) shown.permitted).1;
  enough = shown.enough;
  at_most = shown.at_most;
}

-- what an answer shows
pub shown_set : (p : Settings) → AreSettings p → IsInstance (farm p) → (answer : Answer) → Shown (farm p) answer → IsShown p (set_of answer)
shown_set p valid known (Planned entries backlog short) shown = (assigned entries, sound_plan (farm p) entries backlog short shown)
shown_set p valid known (NoPlan set) shown = short_by_least p valid known set shown

-- the parts make the farm
pub farm_made : (p : Settings) (i : Instance) (live : List Bool) (some most waiting : List ℕ) → IsInstance i → i ≡ instance_of p live some
    → live ≡ replicate (slots p) true → most ≡ replicate (length p.functions) no_most → waiting ≡ replicate (length p.functions) 0
    → instance i.live p.may i.least most waiting ≡ farm p
farm_made p i live some most waiting known is marked mosts nothing =
    ap (λ (rows : List (List ℕ)). instance i.live rows i.least most waiting) (sym (ap (λ (j : Instance). j.may) is))
    ∙ made_with i most waiting known
    ∙ ap (λ (j : Instance). record { live = j.live; may = j.may; least = j.least; most = most; waiting = waiting }) is
    ∙ rw (marked, mosts, nothing) refl
