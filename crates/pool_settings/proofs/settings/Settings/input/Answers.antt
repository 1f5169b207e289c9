use Rattle.std.proofs.Common.{◌≡◌, ℕ, List, false, filter, get_or, length, map, ap, subst, sym, arith, ◌∙◌}
use Rattle.std.specs.Prelude.{IfOk, sum}
use Rattle.std.specs.List.{enumerate_from}
use Rattle.plan_model.specs.Planning.{Instance}
use Rattle.pool_settings.specs.Kept.{settings_view}
use Rattle.pool_settings.specs.Settings.{Settings}
use Rattle.pool_settings.specs.Planning.{instance_of}
use Rattle.pool_settings.proofs.Planned.{AreParts, planned, same_instance, same_taken, taken}
use Rattle.pool_settings.proofs.SlotSums.{length-owners_from}
use Rattle.pool_settings.proofs.settings.Settings.input.Goals as goal

pub live_workers-requires : goal.live_workers-requires
live_workers-requires c =
    let many : length c.owners.result.now ≡ sum (settings_view c.self.inside).workers = ap length c.owners.ensures ∙ length-owners_from 0 (settings_view c.self.inside).workers in
    omega (arith, many, c.self.invariant.workers_few)

pub returns : goal.returns
returns c =
    let p = settings_view c.self.inside in
    let waiting = c.args.waiting.now in
    let marks = c.args.live.now in
    let parts : AreParts c.deref.result.now (map (λ row. row.items) c.deref-2.result.now) c.deref-3.result.now c.deref-4.result.now p marks = record {
      live_is = c.deref.ensures.value ∙ c.in_ok-workers.ensures ∙ ap (λ (machines : List ℕ). filter (λ worker. get_or marks worker.0 false) (enumerate_from 0 machines)) c.owners.ensures;
      may_is = ap (map (λ row. row.items)) c.deref-2.ensures.value;
      least_is = c.deref-3.ensures.value;
      most_is = c.deref-4.ensures.value;
    } in
    let made = same_instance _ _ _ _ waiting p marks parts ∙ planned p c.self.invariant marks waiting
    ∙ ap (λ (p : Settings). instance_of p marks waiting) c.self.view_is in
    record { problem = subst (λ (i : Instance). IfOk c.of_taken.result (λ input. input ≡ i)) made c.of_taken.ensures }

pub of_taken-requires : goal.of_taken-requires
of_taken-requires c =
    let p = settings_view c.self.inside in
    let waiting = c.args.waiting.now in
    let marks = c.args.live.now in
    let parts : AreParts c.deref.result.now (map (λ row. row.items) c.deref-2.result.now) c.deref-3.result.now c.deref-4.result.now p marks = record {
      live_is = c.deref.ensures.value ∙ c.in_ok-workers.ensures ∙ ap (λ (machines : List ℕ). filter (λ worker. get_or marks worker.0 false) (enumerate_from 0 machines)) c.owners.ensures;
      may_is = ap (map (λ row. row.items)) c.deref-2.ensures.value;
      least_is = c.deref-3.ensures.value;
      most_is = c.deref-4.ensures.value;
    } in
    let paired : length waiting ≡ length p.functions = subst (λ (p : Settings). length waiting ≡ length p.functions) (sym c.self.view_is) c.requires in
    record { taken = same_taken _ _ _ _ waiting p marks parts (taken p c.self.invariant marks waiting paired) }
