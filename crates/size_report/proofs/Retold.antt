-- The size that is read back is shown too, and its text is the same.
use Rattle.std.proofs.Common.{◌≡◌, ℕ, ◌<◌, List, [], ◌∷◌, ◌++◌, true, Option, Some, None, cond, eqb, refl, ap, sym, subst, ◌∙◌, inl, inr, arith}
use Rattle.std.specs.List.{AllByRecursion, flat_map, list_all}
use Rattle.std.specs.List.Sorted.{IsStrictlyIncreasing}
use Rattle.std.proofs.lemmas.Bool.{and_from, and_parts, cases_Bool, eqb-true, ne_eqb}
use Rattle.plan_model.specs.Planning.{Assignment, Instance, assigned, is_live, is_permitted, meets_most, slots_of}
use Rattle.plan_model.proofs.Hall.{Rising, rising}
use Rattle.plan_sizing.specs.Shown.{IsShownAddition, meets_needs}
use Rattle.plan_sizing.specs.Sizing.{Farm, grown}
use Rattle.pool_settings.specs.Settings.{Settings}
use Rattle.pool_report.specs.Report.{worker_line}
use Rattle.size_report.specs.Grown.{told_worker}
use Rattle.size_report.specs.Law.{listed_plan}
use Rattle.size_report.specs.Text.{task_if}

pub lines_same : (p : Settings) (added : List ℕ) (es : List (ℕ × Option ℕ)) → flat_map (task_if p added) (listed_plan es) ≡ flat_map (task_if p added) es
lines_same p added [] = refl
lines_same p added ((slot, None) ∷ es) = lines_same p added es
lines_same p added ((slot, Some f) ∷ es) = ap (λ t. worker_line (told_worker p added slot f) ++ t) (lines_same p added es)

absent : (slot : ℕ) (es : List (ℕ × Option ℕ)) → AllByRecursion (λ other. slot < other) (slots_of es) → assigned es slot ≡ None
absent slot [] above = refl
absent slot (e ∷ es) above = rw (ne_eqb e.0 slot (λ same. omega (arith, same, above.0))) (absent slot es above.1)

assigned_same : (es : List (ℕ × Option ℕ)) → Rising (slots_of es) → (slot : ℕ) → assigned (listed_plan es) slot ≡ assigned es slot
assigned_same [] rises slot = refl
assigned_same ((s, None) ∷ es) rises slot = elim (cases_Bool (eqb s slot)) [
  | inl here ↦ assigned_same es rises.1 slot ∙ ap (assigned es) (sym (eqb-true s slot here)) ∙ absent s es rises.0 ∙ rw here refl
  | inr other ↦ assigned_same es rises.1 slot ∙ rw other refl
]
assigned_same ((s, Some f) ∷ es) rises slot = ap (λ o. cond (eqb s slot) (Some f) o) (assigned_same es rises.1 slot)

all_listed : (i : Instance) (es : List (ℕ × Option ℕ)) → list_all (λ entry. is_live i entry.0) es ≡ true → list_all (λ entry. is_live i entry.0) (listed_plan es) ≡ true
all_listed i [] live = refl
all_listed i ((slot, None) ∷ es) live = all_listed i es (and_parts (is_live i slot) (list_all (λ entry. is_live i entry.0) es) live).1
all_listed i ((slot, Some f) ∷ es) live =
    let parts = and_parts (is_live i slot) (list_all (λ entry. is_live i entry.0) es) live in
    and_from (is_live i slot) (list_all (λ entry. is_live i entry.0) (listed_plan es)) parts.0 (all_listed i es parts.1)

pub shown_still : (farm : Farm) (added : List ℕ) (es : List (ℕ × Option ℕ)) (short : Option (List ℕ)) → IsStrictlyIncreasing (slots_of es) → IsShownAddition farm added es short → IsShownAddition farm added (listed_plan es) short
shown_still farm added es short rises shown =
    let same : assigned es ≡ assigned (listed_plan es) = λ i slot. sym (assigned_same es (rising (slots_of es) rises) slot) i in
    let g = grown farm added in
    let parts = and_parts (list_all (λ entry. is_live g entry.0) es) (is_permitted g (assigned es)) shown.permitted.plan in
    record {
      few = shown.few;
      permitted = record {
        machines = shown.permitted.machines;
        plan = and_from (list_all (λ entry. is_live g entry.0) (listed_plan es)) (is_permitted g (assigned (listed_plan es))) (all_listed g es parts.0)
            (subst (λ (plan : Assignment). is_permitted g plan ≡ true) same parts.1);
      };
      met = subst (λ (plan : Assignment). meets_needs farm added plan ≡ true) same shown.met;
      at_most = subst (λ (plan : Assignment). meets_most g plan ≡ true) same shown.at_most;
      evidence = shown.evidence;
    }
