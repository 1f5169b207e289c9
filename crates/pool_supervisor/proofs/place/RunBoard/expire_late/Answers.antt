use Rattle.std.proofs.Common.{◌≤◌, ◌<◌, length, ℕ, ap, subst, arith}
use Rattle.pool_settings.specs.Settings.{Settings}
use Rattle.pool_settings.specs.Slots.{slots as slot_count}
use Rattle.pool_core.specs.Calls.{Expires}
use Rattle.pool_supervisor.specs.Steps.{worker_of}
use Rattle.pool_supervisor.proofs.Late.{seen_to_none, one_expired, all_seen_to}
use Rattle.pool_supervisor.proofs.place.RunBoard.expire_late.Goals as goal

pub loop-number-init : goal.loop-number-init
loop-number-init g c = seen_to_none c.args.now_ms c.args.held.now

pub loop-number-preserved : goal.loop-number-preserved
loop-number-preserved g c =
    let now = c.args.now_ms in
    let cur = c.loop-number.held in
    let new = c.expire_if_late.new.held in
    let result = c.expire_if_late.result in
    let same = ap (λ (s : Settings). slot_count s) c.args.self.now.settings_are in
    let within : c.loop-number.number < length cur.state.slots =
    omega (arith, c.loop-number-test.true, c.slots-number-end.ensures.all, c.facts-in-loop-number.ensures.slots, same)
    in
    let expires = subst (λ (k : ℕ). Expires (worker_of cur.state k) now cur new result) c.new.ensures c.expire_if_late.ensures in
    one_expired g.N.RunId.settings now c.loop-number.number c.args.held.now cur new result within c.facts-in-loop-number.ensures.sound
    c.loop-number.invariant expires

pub returns-clause-late : goal.returns-clause-late
returns-clause-late g c s =
    let same = ap (λ (s : Settings). slot_count s) c.args.self.now.settings_are in
    let all : length c.args.held.now.state.slots ≤ c.loop-number.number = omega (arith, c.facts.ensures.slots, c.slots-number-end.ensures.all, same) in
    (all_seen_to c.args.now_ms c.loop-number.number c.args.held.now c.loop-number.held c.loop-number.invariant all s).0

pub returns-clause-others : goal.returns-clause-others
returns-clause-others g c s =
    let same = ap (λ (s : Settings). slot_count s) c.args.self.now.settings_are in
    let all : length c.args.held.now.state.slots ≤ c.loop-number.number = omega (arith, c.facts.ensures.slots, c.slots-number-end.ensures.all, same) in
    (all_seen_to c.args.now_ms c.loop-number.number c.args.held.now c.loop-number.held c.loop-number.invariant all s).1
