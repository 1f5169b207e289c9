use Rattle.std.proofs.Common.{◌≡◌, ℕ, ◌<◌, ◌≤◌, true, false, Some, length, get_or, sym, ap, ◌∙◌, arith}
use Rattle.std.specs.Prelude.{slice_get}
use Rattle.std.proofs.lemmas.Bool.{false≢true}
use Rattle.pool_settings.specs.Slots.{owners}
use Rattle.worker_state.specs.declared.slot.Slot.TheVariants.{Empty}
use Rattle.worker_state.specs.Slots.{is_live}
use Rattle.pool_core.proofs.Inputs.{length-owners_from, same_place, same_worker, walk_meets, walk_passes, walk_misses, walk_over, walk_end}
use Rattle.pool_core.proofs.rounds.are_live.Goals as goal
use Rattle.std.specs.Prelude.{Option}
use Rattle.pool_core.proofs.rounds.are_live.Goals.{then-is_live+else-not-is_listed, else-is_live}

pub returns-then-not-is_listed : goal.returns-then-not-is_listed
returns-then-not-is_listed c =
    let n = c.loop-number.number in
    let here : n < length (owners c.args.settings.now) = omega (arith, c.loop-number-test.true, c.slots-number-end.ensures.all, length-owners_from 0 c.args.settings.now.workers) in
    let there : n < length c.args.slots.now = omega (arith, c.loop-number-test.true, c.slots-number-end.ensures.all, c.requires) in
    let live : is_live (get_or c.args.slots.now n (Empty 0)) ≡ true = ap is_live (same_place c.args.slots.now n (Empty 0) c.index-slots-number.result there ∙ sym c.index-slots-number.is) ∙ sym c.is_live.ensures ∙ c.if-is_live.true in
    let named : (n, get_or (owners c.args.settings.now) n 0) ≡ (c.new-slot.result, c.machine_of.result) = same_worker _ _ _ _ (sym c.new-slot.ensures) (ap (λ (s : ℕ). get_or (owners c.args.settings.now) s 0) (sym c.new-slot.ensures) ∙ sym c.machine_of.ensures.all) in (
      λ f. absurd (false≢true f),
      λ same.
          let met : slice_get c.args.listed.now c.loop-number.next ≡ Some (n, get_or (owners c.args.settings.now) n 0) = walk_misses (owners c.args.settings.now) c.args.slots.now c.args.listed.now _ c.loop-number.next n here there c.loop-number.invariant.within live c.loop-number.invariant.so_far same in
          sym c.if-not-is_listed.true ∙ c.is_listed.ensures.1 (met ∙ ap (λ (w : ℕ × ℕ). let o : Option (ℕ × ℕ) = Some w in o) named),
    )

pub loop-number-preserved : goal.loop-number-preserved
loop-number-preserved c =
    let n = c.loop-number.number in
    let here : n < length (owners c.args.settings.now) = omega (arith, c.loop-number-test.true, c.slots-number-end.ensures.all, length-owners_from 0 c.args.settings.now.workers) in
    let there : n < length c.args.slots.now = omega (arith, c.loop-number-test.true, c.slots-number-end.ensures.all, c.requires) in
    elim c.if-is_live.branch [
      | then-is_live+else-not-is_listed w ↦
          let live : is_live (get_or c.args.slots.now n (Empty 0)) ≡ true = ap is_live (same_place c.args.slots.now n (Empty 0) c.index-slots-number.result there ∙ sym c.index-slots-number.is) ∙ sym c.is_live.ensures ∙ w.if-is_live.true in
          let named : (n, get_or (owners c.args.settings.now) n 0) ≡ (c.new-slot.result, w.machine_of.result) = same_worker _ _ _ _ (sym c.new-slot.ensures) (ap (λ (s : ℕ). get_or (owners c.args.settings.now) s 0) (sym c.new-slot.ensures) ∙ sym w.machine_of.ensures.all) in
          let met : slice_get c.args.listed.now c.loop-number.next ≡ Some (n, get_or (owners c.args.settings.now) n 0) = w.is_listed.ensures.0 w.if-not-is_listed.false ∙ ap (λ (x : ℕ × ℕ). let o : Option (ℕ × ℕ) = Some x in o) (sym named) in
          let t = walk_meets (owners c.args.settings.now) c.args.slots.now c.args.listed.now _ c.loop-number.next n here there live c.loop-number.invariant.so_far met in
          rw w.next-is (record { within = t.0; so_far = t.1 })
      | else-is_live w ↦
          let live : is_live (get_or c.args.slots.now n (Empty 0)) ≡ false = ap is_live (same_place c.args.slots.now n (Empty 0) c.index-slots-number.result there ∙ sym c.index-slots-number.is) ∙ sym c.is_live.ensures ∙ w.if-is_live.false in
          rw w.next-is (record { within = c.loop-number.invariant.within; so_far = walk_passes (owners c.args.settings.now) c.args.slots.now c.args.listed.now _ c.loop-number.next n here there live c.loop-number.invariant.so_far })
    ]

pub returns : goal.returns
returns c =
    let over : length (owners c.args.settings.now) ≤ c.loop-number.number = omega (arith, c.loop-number-test.false, c.slots-number-end.ensures.all, length-owners_from 0 c.args.settings.now.workers) in
    walk_end c.args.listed.now _ c.loop-number.next c.loop-number.invariant.within (walk_over (owners c.args.settings.now) c.args.slots.now _ _ c.loop-number.number over c.loop-number.invariant.so_far)
