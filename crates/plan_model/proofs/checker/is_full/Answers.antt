use Rattle.std.proofs.Common.{◌≡◌, ◌<◌, ◌||◌, ◌&&◌, ◌∙◌, ℕ, Bool, true, false, not, List, [], Option, leb, length, is_some, get_or, refl, sym, ap, subst, arith}
use Rattle.std.specs.List.{list_all}
use Rattle.std.proofs.lemmas.List.Folds.{list_all_at, list_all_more}
use Rattle.plan_model.specs.Planning.{Instance, IsInstance, assigned, is_filled}
use Rattle.plan_model.specs.Counts.{AreCounts}
use Rattle.plan_model.proofs.Counting.{filled-counted}
use Rattle.plan_model.proofs.checker.is_full.Goals.{else-is_none-via-then-is_none+else-not-are_filled, else-is_none-via-else-is_none}
use Rattle.plan_model.proofs.checker.is_full.Goals as goal

-- what the table says of the functions that a live worker may do
filled : (i : Instance) (entries : List (ℕ × Option ℕ)) (counts : List ℕ) (k : ℕ) (worker : ℕ × ℕ) → IsInstance i → AreCounts i (assigned entries) counts → k < length i.live → worker ≡ get_or i.live k worker
    → list_all (λ f. leb (get_or i.most f 0) (get_or counts f 0)) (get_or i.may worker.1 []) ≡ list_all (is_filled i (assigned entries)) (get_or i.may worker.1 [])
filled i entries counts k worker valid counted below here =
    let M : ℕ × ℕ → Type 0 = λ w. w.1 < length i.may in
    let inside : worker.1 < length i.may = subst M (sym here) (valid.machines k worker below) in
    filled-counted i (assigned entries) counts (get_or i.may worker.1 []) counted (λ j d within. omega (arith, valid.within worker.1 [] inside j d within, valid.limits.functions))

pub returns-then-not-are_filled : goal.returns-then-not-are_filled
returns-then-not-are_filled c =
    let i = c.args.input.now in
    let plan = assigned c.args.plan.now in
    let p = λ (worker : ℕ × ℕ). is_some (plan worker.0) || list_all (is_filled i plan) (get_or i.may worker.1 []) in
    let q : ℕ → Bool = λ f. leb (get_or i.most f 0) (get_or c.args.counts.now f 0) in
    let worker = c.loop-slot-item.result in
    let all = c.live-slot-items.ensures.all in
    let below : c.loop-slot.slot-index < length i.live = omega (arith, ap length all, c.loop-slot-test.true) in
    let here : worker ≡ get_or i.live c.loop-slot.slot-index worker = c.loop-slot-item.is ∙ ap (λ workers. get_or workers c.loop-slot.slot-index worker) all in
    let none : is_some (plan worker.0) ≡ false = ap is_some (sym c.function_of.ensures) ∙ c.is_none.ensures ∙ ap not c.if-is_none.true in
    let wants : list_all (is_filled i plan) (get_or i.may worker.1 []) ≡ false = sym (filled i c.args.plan.now c.args.counts.now c.loop-slot.slot-index worker c.live-slot-items.ensures.valid c.requires below here) ∙ ap (list_all q) (sym c.permitted.ensures.row) ∙ sym c.are_filled.ensures ∙ c.if-not-are_filled.true in
    let fails : p worker ≡ false = rw (none, wants) refl in
    sym (list_all_at p i.live c.loop-slot.slot-index worker below (sym (ap p here) ∙ fails))

pub loop-slot-preserved : goal.loop-slot-preserved
loop-slot-preserved c =
    let i = c.args.input.now in
    let plan = assigned c.args.plan.now in
    let p = λ (worker : ℕ × ℕ). is_some (plan worker.0) || list_all (is_filled i plan) (get_or i.may worker.1 []) in
    let q : ℕ → Bool = λ f. leb (get_or i.most f 0) (get_or c.args.counts.now f 0) in
    let worker = c.loop-slot-item.result in
    let items = c.live-slot-items.result.now in
    let all = c.live-slot-items.ensures.all in
    let below : c.loop-slot.slot-index < length i.live = omega (arith, ap length all, c.loop-slot-test.true) in
    let here : worker ≡ get_or i.live c.loop-slot.slot-index worker = c.loop-slot-item.is ∙ ap (λ workers. get_or workers c.loop-slot.slot-index worker) all in
    let passes : p worker ≡ true = elim c.else-is_none.branch [
      | else-is_none-via-then-is_none+else-not-are_filled w ↦
          let none : is_some (plan worker.0) ≡ false = ap is_some (sym c.function_of.ensures) ∙ c.is_none.ensures ∙ ap not w.if-is_none.true in
          let closed : list_all (is_filled i plan) (get_or i.may worker.1 []) ≡ true = sym (filled i c.args.plan.now c.args.counts.now c.loop-slot.slot-index worker c.live-slot-items.ensures.valid c.requires below here) ∙ ap (list_all q) (sym w.permitted.ensures.row) ∙ sym w.are_filled.ensures ∙ w.if-not-are_filled.false in
          rw (none, closed) refl
      | else-is_none-via-else-is_none w ↦
          let some : is_some (plan worker.0) ≡ true = ap is_some (sym c.function_of.ensures) ∙ c.is_none.ensures ∙ ap not w.if-is_none.false in
          rw some refl
    ] in
    let more = list_all_more p items c.loop-slot.slot-index worker c.loop-slot-test.true in
    more ∙ ap (λ b. b && p (get_or items c.loop-slot.slot-index worker)) c.loop-slot.invariant ∙ ap p (sym c.loop-slot-item.is) ∙ passes
