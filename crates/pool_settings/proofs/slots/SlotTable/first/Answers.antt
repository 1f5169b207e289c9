use Rattle.std.proofs.Common.{◌≡◌, ◌<◌, ◌≤◌, ◌+◌, List, ℕ, length, get_or, take, arith, ap, sym, subst, ◌∙◌}
use Rattle.std.specs.Prelude.{sum}
use Rattle.std.proofs.lemmas.Grind.{get_or_default_zero}
use Rattle.pool_settings.specs.Slots.{firsts_from}
use Rattle.pool_settings.proofs.SlotSums.{firsts_from-at, length-firsts_from, sum-room}
use Rattle.pool_settings.proofs.slots.SlotTable.first.Goals as goal

pub index-requires : goal.index-requires
index-requires c =
    let many : length c.self.inside.first.items ≡ length c.self.inside.workers.items = ap length c.self.invariant.firsts ∙ length-firsts_from 0 c.self.inside.workers.items in
    let there : c.args.machine < length c.self.inside.workers.items = subst (λ (ws : List ℕ). c.args.machine < length ws) (sym c.self.view_is) c.requires in
    omega (arith, many, there)

-- what the table has at a machine
at_machine : (first workers : List ℕ) (m x : ℕ) → first ≡ firsts_from 0 workers → m < length workers → x ≡ get_or first m x → x ≡ sum (take m workers)
at_machine first workers m x firsts there is =
    let many : length first ≡ length workers = ap length firsts ∙ length-firsts_from 0 workers in
    omega (arith, is ∙ get_or_default_zero first m x (omega (arith, many)) ∙ ap (λ (t : List ℕ). get_or t m 0) firsts ∙ firsts_from-at 0 workers m there)

pub returns-clause-first : goal.returns-clause-first
returns-clause-first c =
    let there : c.args.machine < length c.self.inside.workers.items = subst (λ (ws : List ℕ). c.args.machine < length ws) (sym c.self.view_is) c.requires in
    let is = at_machine c.self.inside.first.items c.self.inside.workers.items c.args.machine c.index.result.now c.self.invariant.firsts there (rw c.number.ensures at c.index.ensures) in
    is ∙ ap (λ (ws : List ℕ). sum (take c.args.machine ws)) c.self.view_is

pub returns-clause-room : goal.returns-clause-room
returns-clause-room c =
    let there : c.args.machine < length c.self.inside.workers.items = subst (λ (ws : List ℕ). c.args.machine < length ws) (sym c.self.view_is) c.requires in
    let is = at_machine c.self.inside.first.items c.self.inside.workers.items c.args.machine c.index.result.now c.self.invariant.firsts there (rw c.number.ensures at c.index.ensures) in
    let room : sum (take c.args.machine c.self.inside.workers.items) + get_or c.self.inside.workers.items c.args.machine 0 ≤ 4096 = omega (arith, sum-room c.self.inside.workers.items c.args.machine there, c.self.invariant.few) in
    let small : c.index.result.now + get_or c.self.inside.workers.items c.args.machine 0 ≤ 4096 = omega (arith, is, room) in
    subst (λ (ws : List ℕ). c.index.result.now + get_or ws c.args.machine 0 ≤ 4096) c.self.view_is small

pub returns-clause-within : goal.returns-clause-within
returns-clause-within c =
    let there : c.args.machine < length c.self.inside.workers.items = subst (λ (ws : List ℕ). c.args.machine < length ws) (sym c.self.view_is) c.requires in
    let is = at_machine c.self.inside.first.items c.self.inside.workers.items c.args.machine c.index.result.now c.self.invariant.firsts there (rw c.number.ensures at c.index.ensures) in
    let room : c.index.result.now + get_or c.self.inside.workers.items c.args.machine 0 ≤ sum c.self.inside.workers.items = omega (arith, is, sum-room c.self.inside.workers.items c.args.machine there) in
    subst (λ (ws : List ℕ). c.index.result.now + get_or ws c.args.machine 0 ≤ sum ws) c.self.view_is room
