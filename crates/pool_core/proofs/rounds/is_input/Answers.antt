use Rattle.std.proofs.Common.{◌≡◌, refl, sym, ap, ◌∙◌}
use Rattle.std.proofs.lemmas.Bool.{false≢true}
use Rattle.std.proofs.lemmas.Slice.Eq.{bytes_eq-Decides}
use Rattle.plan_model.specs.Planning.{Instance}
use Rattle.plan_model.proofs.Same.{same_rows}
use Rattle.pool_settings.specs.Slots.{owners}
use Rattle.pool_settings.specs.Planning.{waiting_of}
use Rattle.pool_core.specs.Walk.{live_from}
use Rattle.pool_core.proofs.Inputs.{differs, is_instance, is_same, live_of}
use Rattle.pool_core.proofs.rounds.is_input.Goals as goal

pub returns-then-ne : goal.returns-then-ne
returns-then-ne c = (
  λ f. absurd (false≢true f),
  λ same. absurd (differs _ c.ne.result (same_rows (λ row. row.items) c.rows.result.now c.rows-2.result.now _ refl) c.ne.ensures c.if-ne.true
      (c.rows.ensures ∙ ap (λ (i : Instance). i.may) same ∙ sym c.rows-2.ensures)),
)

pub returns-then-not-are_live : goal.returns-then-not-are_live
returns-then-not-are_live c = (
  λ f. absurd (false≢true f),
  λ same.
      let live : c.args.input.now.live ≡ live_from 0 (owners c.args.settings.now) c.args.slots.now = live_of c.args.input.now c.args.settings.now c.args.slots.now (waiting_of c.args.settings.now c.args.load.now) c.requires same in
      sym c.if-not-are_live.true ∙ c.are_live.ensures.1 (c.live.ensures.all ∙ live),
)

pub returns : goal.returns
returns c = (
  λ yes.
      let live : c.args.input.now.live ≡ live_from 0 (owners c.args.settings.now) c.args.slots.now = sym c.live.ensures.all ∙ c.are_live.ensures.0 c.if-not-are_live.false in
      let may : c.args.input.now.may ≡ c.args.settings.now.may = sym c.rows.ensures ∙ is_same _ c.ne.result (same_rows (λ row. row.items) c.rows.result.now c.rows-2.result.now _ refl) c.ne.ensures c.if-ne.false ∙ c.rows-2.ensures in
      let least : c.args.input.now.least ≡ c.args.settings.now.least = sym c.least.ensures ∙ is_same _ c.ne-2.result (bytes_eq-Decides c.least.result.now c.least_numbers.result.now) c.ne-2.ensures c.if-ne-2.false ∙ c.least_numbers.ensures in
      let most : c.args.input.now.most ≡ c.args.settings.now.most = sym c.most.ensures.all ∙ is_same _ c.ne-3.result (bytes_eq-Decides c.most.result.now c.most_numbers.result.now) c.ne-3.ensures c.if-ne-3.false ∙ c.most_numbers.ensures in
      let waiting : c.args.input.now.waiting ≡ waiting_of c.args.settings.now c.args.load.now = sym c.waiting.ensures.all ∙ c.are_waiting.ensures.0 yes in
      is_instance c.args.input.now c.args.settings.now c.args.slots.now (waiting_of c.args.settings.now c.args.load.now) c.requires live may least most waiting,
  λ same.
      let waiting : c.args.input.now.waiting ≡ waiting_of c.args.settings.now c.args.load.now = ap (λ (i : Instance). i.waiting) same in
      c.are_waiting.ensures.1 (c.waiting.ensures.all ∙ waiting),
)
