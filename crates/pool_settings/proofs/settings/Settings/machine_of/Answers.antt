use Rattle.std.proofs.Common.{◌<◌, ◌≤◌, ◌+◌, length, get_or, subst, sym, arith}
use Rattle.std.specs.Prelude.{sum}
use Rattle.pool_settings.specs.Kept.{settings_view}
use Rattle.pool_settings.specs.Settings.{AreSettings, Settings}
use Rattle.pool_settings.specs.Slots.{first_slot}
use Rattle.pool_settings.proofs.SlotSums.{machine_found}
use Rattle.pool_settings.proofs.settings.Settings.machine_of.Goals as goal

pub returns-clause-there : goal.returns-clause-there
returns-clause-there c =
    let below = subst (λ (p : Settings). c.args.slot < sum p.workers) (sym c.self.view_is) c.requires in
    let found = machine_found (settings_view c.self.inside) c.args.slot c.owner.result c.self.invariant below c.owner.ensures in
    subst (λ (p : Settings). c.owner.result < length p.machines) c.self.view_is (omega (arith, found.there, c.self.invariant.workers_paired))

pub returns-clause-from : goal.returns-clause-from
returns-clause-from c =
    let below = subst (λ (p : Settings). c.args.slot < sum p.workers) (sym c.self.view_is) c.requires in
    let found = machine_found (settings_view c.self.inside) c.args.slot c.owner.result c.self.invariant below c.owner.ensures in
    subst (λ (p : Settings). first_slot p c.owner.result ≤ c.args.slot) c.self.view_is found.from

pub returns-clause-to : goal.returns-clause-to
returns-clause-to c =
    let below = subst (λ (p : Settings). c.args.slot < sum p.workers) (sym c.self.view_is) c.requires in
    let found = machine_found (settings_view c.self.inside) c.args.slot c.owner.result c.self.invariant below c.owner.ensures in
    subst (λ (p : Settings). c.args.slot < first_slot p c.owner.result + get_or p.workers c.owner.result 0) c.self.view_is found.to

pub returns-clause-valid : goal.returns-clause-valid
returns-clause-valid c = subst AreSettings c.self.view_is c.self.invariant
