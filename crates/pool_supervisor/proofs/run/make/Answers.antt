use Rattle.std.proofs.Common.{ap, arith, sym, subst, ◌∙◌}
use Rattle.pool_settings.specs.Settings.{Settings}
use Rattle.pool_settings.specs.Slots.{slots as slot_count}
use Rattle.pool_core.specs.Book.{Book, totals_of}
use Rattle.slot_turns.specs.Turns.{IsEachSlotOnce}
use Rattle.pool_supervisor.proofs.run.make.Goals as goal

-- a new pool has grabbed nothing, and the board has a place for each slot of its settings
pub invariant_of-result : goal.invariant_of-result
invariant_of-result c =
    let pool = c.in_ok-pool.pool in
    let same = ap (λ (b : Book). slot_count b.settings) c.in_ok-pool.ensures ∙ ap (λ (s : Settings). slot_count s) c.in_ok-copy.ensures.equal in
    record {
      is_new = (ap (λ (b : Book). (totals_of b).grabbed) c.in_ok-pool.ensures, ap (λ (b : Book). (totals_of b).rounds) c.in_ok-pool.ensures);
      can_post = c.in-Ok.ensures.publisher.0;
      can_seat = c.in-Ok.ensures.source;
      room = omega (arith, same, c.slots.ensures.all, c.in-Ok.ensures.slots);
      each_once = ∣ subst (λ (s : Settings). IsEachSlotOnce s c.in_ok-turns.turns) (sym (ap (λ (b : Book). b.settings) c.in_ok-pool.ensures ∙ c.in_ok-copy.ensures.equal)) c.in_ok-turns.ensures.each_once ∣₁;
      none_posted = c.in-Ok.ensures.publisher.1;
      none_told = c.in_ok-lines.ensures.none;
    }
