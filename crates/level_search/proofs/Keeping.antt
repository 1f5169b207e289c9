-- the previous plan, where it is best
use Rattle.std.proofs.Common.{◌≡◌, ℕ, ◌<◌, ◌≤◌, ◌||◌, Bool, true, eqb, leb, ltb, List, [], ◌∷◌, Option, Some, None, is_some, length, get_or, map, sym, ap, ◌∙◌, subst, arith, inl, inr}
use Rattle.std.proofs.lemmas.Bool.{cond-false, le-ltb, leb-true, or_cases, and_parts, eqb-true, false≢true}
use Rattle.std.specs.List.{list_any, list_all}
use Rattle.std.proofs.lemmas.List.Sums.{AllPass-from_list_all}
use Rattle.plan_model.specs.Planning.{Instance, IsInstance, IsSound, IsBest, Assignment, assigned, backlog_of, is_full, is_filled, may_do, workers_on, top_level}
use Rattle.plan_model.specs.declared.answer.Answer.{Answer}
use Rattle.plan_model.proofs.Hall.{need-le-workers_on, hall_count, backlog-le-top}
use Rattle.plan_model.proofs.Reached.{needs-met}
use Rattle.round_arena.specs.declared.tables.Tables.{Tables}
use Rattle.round_arena.specs.Input.{cut_plan}
use Rattle.round_arena.specs.Plan.{IsAssigned, IsCounted, AreWithin, count_on}
use Rattle.round_arena.specs.Round as round
use Rattle.round_arena.specs.Round.{SamePairs, plan_entries, function_at}
use Rattle.round_arena.specs.declared.tables.Pairs.{Pairs}
use Rattle.level_search.specs.declared.bisect.Found.{Found}
use Rattle.level_search.specs.declared.bisect.Found.TheVariants.{Level, Nothing}
use Rattle.level_search.specs.declared.previous.Seed.{Seed}
use Rattle.level_search.specs.Levels.{AreMet, Fits}
use Rattle.level_search.specs.Found.{IsFound, Serves}
use Rattle.level_search.specs.Answered.{Starts}
use Rattle.level_search.specs.declared.previous.Origin.{Origin}
use Rattle.level_search.specs.declared.previous.Origin.TheVariants.{Previous}
use Rattle.level_search.specs.Steady.{HasPlan, IsSteady, IsSeed}
use Rattle.augment.proofs.Rounds.{SamePairs-trans}
use Rattle.level_search.proofs.Bisecting.{Fits-same}
use Rattle.level_search.proofs.Showing.{Tells, plan_of, plan_of-is, plan-at, machine-at, workers_on-is, is_permitted-plan, meets_most-plan}

-- tables that serve the level that was found
pub IsFound-kept : (i : Instance) (t u : Tables) (owner : List ℕ) (found : Found) → u.owner.now ≡ owner → IsFound i t found → Serves i owner found → IsFound i u found
IsFound-kept i t u owner (Level level set) e h s = (subst (λ (o : List ℕ). AreMet i o level) (sym e) s, h.1)
IsFound-kept i t u owner (Nothing set) e h s = absurd s

-- the owners and counts of the start fit the tables after the search
pub IsSeed-later : (n : ℕ) (t u : Tables) (seed : Seed) → round.IsConsistent n t → SamePairs t u → seed.owner.now ≡ t.owner.now → seed.count.now ≡ t.count.now → IsSeed n u seed
IsSeed-later n t u seed s same eo ec = record {
  size = ap length eo ∙ sym same.staff;
  assigned = subst (λ (p : Pairs). IsAssigned n p seed.owner.now) (sym same.pairs) (subst (λ (o : List ℕ). IsAssigned n t.pairs o) (sym eo) s.assigned);
  counted = subst (λ (o : List ℕ). IsCounted n o seed.count.now) (sym eo) (subst (λ (c : List ℕ). IsCounted n t.owner.now c) (sym ec) s.counted);
  within = subst (λ (m : List ℕ). AreWithin n m seed.owner.now) (sym (ap (λ m. m.now) same.most)) (subst (λ (o : List ℕ). AreWithin n t.most.now o) (sym eo) s.within);
}

-- a best plan meets the needs of each level that some sound plan is within
best-serves : (i : Instance) (t kept : Tables) (level : ℕ) → Tells i t → Tells i kept → AreMet i t.owner.now level → IsBest i (assigned (plan_of i kept)) → AreMet i kept.owner.now level
best-serves i t kept level h k met best f l =
    let reach = needs-met i (assigned (plan_of i t)) level (λ g m. omega (arith, met g m, workers_on-is i t h g m)) in
    let sound : IsSound i (assigned (plan_of i t)) = record { permitted = is_permitted-plan i t h; enough = reach.0; at_most = meets_most-plan i t h } in
    let within : backlog_of i (assigned (plan_of i kept)) ≤ level = omega (arith, best.best (assigned (plan_of i t)) sound, reach.1) in
    omega (arith, need-le-workers_on i (assigned (plan_of i kept)) level f best.sound within l, workers_on-is i kept k f l)

-- a best plan serves the level that was found, and there is one
best-found : (i : Instance) (t kept : Tables) (found : Found) → IsInstance i → Tells i t → Tells i kept → IsFound i t found → IsBest i (assigned (plan_of i kept)) → Serves i kept.owner.now found
best-found i t kept (Level level set) valid h k found best = best-serves i t kept level h k found.0 best
best-found i t kept (Nothing set) valid h k found best =
    absurd (omega (arith, hall_count i top_level set.now (assigned (plan_of i kept)) found best.sound, backlog-le-top i (assigned (plan_of i kept)) valid.counted))

-- what holds of each of a list holds of one that is there
each-there : (p : ℕ → Bool) (row : List ℕ) (f : ℕ) → list_all p row ≡ true → list_any (λ g. eqb g f) row ≡ true → p f ≡ true
each-there p [] f all there = absurd (false≢true there)
each-there p (g ∷ row) f all there =
    let parts = and_parts (p g) (list_all p row) all in
    elim (or_cases (eqb g f) (list_any (λ h. eqb h f) row) there) [
      | inl here ↦ ap p (sym (eqb-true g f here)) ∙ parts.0
      | inr later ↦ each-there p row f parts.1 later
    ]

-- what an idle worker may do in a full plan is at its greatest number
pub idle-filled : (i : Instance) (t : Tables) → Tells i t → is_full i (assigned (plan_of i t)) ≡ true → (w f : ℕ) → w < length i.live → length i.least ≤ get_or t.owner.now w 0 → f < length i.least
    → may_do i (get_or t.machine.now w 0) f ≡ true → get_or i.most f 0 ≤ count_on t.owner.now f
idle-filled i t h full w f inside idle below can =
    let plan : Assignment = assigned (plan_of i t) in
    let worker : ℕ × ℕ = get_or i.live w (0, 0) in
    let here : (is_some (plan worker.0) || list_all (is_filled i plan) (get_or i.may worker.1 [])) ≡ true = AllPass-from_list_all (λ worker. is_some (plan worker.0) || list_all (is_filled i plan) (get_or i.may worker.1 [])) i.live full w (0, 0) inside in
    let none : plan worker.0 ≡ None = plan-at i t h w inside ∙ cond-false (ltb (get_or t.owner.now w 0) (length i.least)) (Some (get_or t.owner.now w 0)) None (le-ltb (get_or t.owner.now w 0) (length i.least) idle) in
    elim (or_cases (is_some (plan worker.0)) (list_all (is_filled i plan) (get_or i.may worker.1 [])) here) [
      | inl some ↦ absurd (false≢true (sym (ap is_some none) ∙ some))
      | inr all ↦
          let may : may_do i worker.1 f ≡ true = ap (λ m. may_do i m f) (machine-at i t h w inside) ∙ can in
          let filled : leb (get_or i.most f 0) (workers_on i plan f) ≡ true = each-there (is_filled i plan) (get_or i.may worker.1 []) f all may in
          omega (arith, leb-true _ _ filled, workers_on-is i t h f below)
    ]

pub Tells-now : (i : Instance) (t : Tables) → round.IsConsistent (length i.least) t → Fits i t → t.slot.now ≡ map (λ worker. worker.0) i.live → Tells i t
Tells-now i t sound fits slots = record { sound = sound; fits = fits; slots = slots }

-- the plan of tables with the same workers on the same functions
pub plan_of-same : (t u : Tables) → SamePairs t u → u.owner.now ≡ t.owner.now → round.plan_of u ≡ round.plan_of t
plan_of-same t u same e =
    ap (λ n. plan_entries (length n.now) u.slot.now u.owner.now) same.order ∙ ap (λ s. plan_entries (length t.order.now) s.now u.owner.now) same.slot ∙ ap (λ o. plan_entries (length t.order.now) t.slot.now o) e

Tells-same : (i : Instance) (t u : Tables) → Starts i t → round.IsConsistent (length i.least) u → SamePairs t u → Tells i u
Tells-same i t u starts sound same = record { sound = sound; fits = Fits-same i t u same starts.fits; slots = ap (λ s. s.now) same.slot ∙ starts.slots }

pub Tells-start : (i : Instance) (t : Tables) → Starts i t → Tells i t
Tells-start i t starts = record { sound = starts.sound; fits = starts.fits; slots = starts.slots }

-- the previous plan stays, from the tables at the start, after the search and put back
pub steady-kept : (i : Instance) (t0 t1 t2 : Tables) (origin : Origin) (seed : Seed) (found : Found) (previous : List (ℕ × Option ℕ)) (answer : Answer) → IsInstance i → Starts i t0 → round.plan_of t0 ≡ cut_plan i previous → seed.owner.now ≡ t0.owner.now
    → SamePairs t0 t1 → round.IsConsistent (length i.least) t1 → IsFound i t1 found → SamePairs t1 t2 → (Serves i seed.owner.now found → t2.owner.now ≡ seed.owner.now)
    → (Serves i seed.owner.now found → origin ≡ Previous) → (origin ≡ Previous → Serves i t2.owner.now found → is_full i (assigned (round.plan_of t2)) ≡ true → HasPlan (round.plan_of t2) answer)
    → IsSteady i previous answer
steady-kept i t0 t1 t2 origin seed found previous answer valid starts cut eo same1 sound found_at same2 put_back is_kept answers best full =
    let tells0 : Tells i t0 = Tells-start i t0 starts in
    let tells1 : Tells i t1 = Tells-same i t0 t1 starts sound same1 in
    let plan0 : plan_of i t0 ≡ cut_plan i previous = sym (plan_of-is i t0 tells0) ∙ cut in
    let serves0 : Serves i t0.owner.now found = best-found i t1 t0 found valid tells1 tells0 found_at (subst (λ (z : List (ℕ × Option ℕ)). IsBest i (assigned z)) (sym plan0) best) in
    let serves : Serves i seed.owner.now found = subst (λ (o : List ℕ). Serves i o found) (sym eo) serves0 in
    let owner : t2.owner.now ≡ t0.owner.now = put_back serves ∙ eo in
    let plan : round.plan_of t2 ≡ cut_plan i previous = plan_of-same t0 t2 (SamePairs-trans t0 t1 t2 same1 same2) owner ∙ cut in
    subst (λ (z : List (ℕ × Option ℕ)). HasPlan z answer) plan
    (answers (is_kept serves) (subst (λ (o : List ℕ). Serves i o found) (sym owner) serves0) (ap (λ z. is_full i (assigned z)) plan ∙ full))
