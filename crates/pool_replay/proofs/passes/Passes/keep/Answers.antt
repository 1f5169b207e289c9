use Rattle.std.proofs.Common.{◌≡◌, ℕ, Some, cond, ap, subst, ◌∙◌}
use Rattle.std.specs.BTreeMap as tree
use Rattle.std.specs.BTreeMap.{is_at}
use Rattle.std.specs.FinSet as set
use Rattle.pool_replay.specs.Passes.{key_of, pair_cmp}
use Rattle.pool_replay.proofs.Workers.{one_more, by_worker_more}
use Rattle.pool_replay.proofs.passes.Passes.keep.Goals as goal

pub invariant_of-self-2 : goal.invariant_of-self-2
invariant_of-self-2 c =
    let m = c.self.inside.by_worker in
    let n = c.insert.new.self in
    by_worker_more m n c.args.pass c.self.invariant
    (subst (λ (k : ℕ × ℕ). (q : ℕ × ℕ) → tree.get pair_cmp n q ≡ cond (is_at (pair_cmp k) q) (Some c.args.pass) (tree.get pair_cmp m q))
    (c.key_of-key.ensures ∙ ap key_of c.name.ensures) c.in_ok-insert.ensures.updates.0)

pub returns : goal.returns
returns c =
    let m = c.self.inside.by_worker in
    let n = c.insert.new.self in
    one_more m n c.args.pass
    (subst (λ (k : ℕ × ℕ). (q : ℕ × ℕ) → tree.get pair_cmp n q ≡ cond (is_at (pair_cmp k) q) (Some c.args.pass) (tree.get pair_cmp m q))
    (c.key_of-key.ensures ∙ ap key_of c.name.ensures) c.in_ok-insert.ensures.updates.0)
    ∙ ap (λ s. set.insert s c.args.pass) c.self.view_is
