use Rattle.std.proofs.Common.{◌≡◌, ◌<◌, ◌∷◌, [], List, ℕ, inr, sym, subst}
use Rattle.pool_settings.specs.Settings.{Settings}
use Rattle.pool_settings.specs.Slots.{slots as slot_count}
use Rattle.slot_turns.specs.Turns.{HaveCome}
use Rattle.pool_supervisor.proofs.Tries.{fills_none}
use Rattle.pool_supervisor.proofs.Turns.{turn_within, turns_again}
use Rattle.pool_supervisor.proofs.attempts.Supervisor.start_next.Goals as goal

pub invariant_of-self-clause-each_once : goal.invariant_of-self-clause-each_once
invariant_of-self-clause-each_once g c =
    let settings = g.N.RunId.settings in
    turns_again settings (c.next-slot.result ∷ []) c.args.self.now.turns c.next-slot.new.self (c.slots_take_turns.ensures.again settings) c.args.self.now.each_once c.next-slot.ensures.comes

pub may_fill-requires : goal.may_fill-requires
may_fill-requires g c =
    let settings = g.N.RunId.settings in
    let within = turn_within settings c.next-slot.result c.args.self.now.turns c.next-slot.new.self (c.slots_take_turns.ensures.slot settings) c.args.self.now.each_once c.next-slot.ensures.comes in
    subst (λ (s : Settings). c.next-slot.result < slot_count s) (sym c.args.self.now.site.run.settings_are) within

pub returns-then-not-may_fill-clause-next : goal.returns-then-not-may_fill-clause-next
returns-then-not-may_fill-clause-next g c =
    let settings = g.N.RunId.settings in
    let slot = c.next-slot.result in
    let within = turn_within settings slot c.args.self.now.turns c.next-slot.new.self (c.slots_take_turns.ensures.slot settings) c.args.self.now.each_once c.next-slot.ensures.comes in
    inr (slot, c.next-slot.ensures.comes, within, fills_none g.N.RunId.allows slot (g.Y.Dial.calls c.args.self.now.dial))

pub start_one-requires-clause-slot : goal.start_one-requires-clause-slot
start_one-requires-clause-slot g c κs inside =
    let settings = g.N.RunId.settings in
    turn_within settings c.next-slot.result c.args.self.now.turns c.next-slot.new.self (c.slots_take_turns.ensures.slot settings) c.args.self.now.each_once c.next-slot.ensures.comes

pub returns-clause-next : goal.returns-clause-next
returns-clause-next g c =
    let settings = g.N.RunId.settings in
    let slot = c.next-slot.result in
    let before = c.args.self.now.turns in
    let within = turn_within settings slot before c.next-slot.new.self (c.slots_take_turns.ensures.slot settings) c.args.self.now.each_once c.next-slot.ensures.comes in
    let comes = subst (λ (turns : List ℕ). HaveCome (slot ∷ []) before turns) (sym c.start_one.ensures.turns) c.next-slot.ensures.comes in
    inr (slot, comes, within, c.start_one.ensures.fills)
