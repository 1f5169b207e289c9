use Rattle.std.proofs.Common.{◌≡◌, ℕ, None, cond, ap, subst, ◌∙◌}
use Rattle.std.specs.BTreeMap as tree
use Rattle.std.specs.BTreeMap.{is_at}
use Rattle.std.specs.FinSet as set
use Rattle.pool_replay.specs.Passes.{pair_cmp}
use Rattle.pool_replay.proofs.Workers.{finds, finds_some, one_less, by_worker_less}
use Rattle.pool_replay.proofs.passes.Passes.take.Goals as goal

pub invariant_of-self : goal.invariant_of-self
invariant_of-self c =
    let m = c.self.inside.by_worker in
    let n = c.remove.new.self in
    by_worker_less m n c.args.worker.now c.self.invariant
    (subst (λ (k : ℕ × ℕ). (q : ℕ × ℕ) → tree.get pair_cmp n q ≡ cond (is_at (pair_cmp k) q) None (tree.get pair_cmp m q))
    c.key_of.ensures c.remove.ensures.updates.0)

pub returns-clause-some : goal.returns-clause-some
returns-clause-some c =
    finds c.self.inside.by_worker c.args.worker.now c.self.invariant c.remove.result
    (c.remove.ensures.value ∙ ap (tree.get pair_cmp c.self.inside.by_worker) c.key_of.ensures)

pub returns-clause-there : goal.returns-clause-there
returns-clause-there c =
    finds_some c.self.inside.by_worker c.args.worker.now c.args.self.now c.self.view_is c.remove.result
    (c.remove.ensures.value ∙ ap (tree.get pair_cmp c.self.inside.by_worker) c.key_of.ensures)

pub returns-clause-rest : goal.returns-clause-rest
returns-clause-rest c =
    let m = c.self.inside.by_worker in
    let n = c.remove.new.self in
    one_less m n c.args.worker.now
    (subst (λ (k : ℕ × ℕ). (q : ℕ × ℕ) → tree.get pair_cmp n q ≡ cond (is_at (pair_cmp k) q) None (tree.get pair_cmp m q))
    c.key_of.ensures c.remove.ensures.updates.0)
    ∙ ap (λ s. set.remove s c.args.worker.now) c.self.view_is
