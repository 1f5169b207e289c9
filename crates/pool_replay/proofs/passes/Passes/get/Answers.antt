use Rattle.std.proofs.Common.{ap, ◌∙◌}
use Rattle.std.specs.BTreeMap as tree
use Rattle.pool_replay.specs.Passes.{pair_cmp}
use Rattle.pool_replay.proofs.Workers.{finds_lent, finds_some_lent}
use Rattle.pool_replay.proofs.passes.Passes.get.Goals as goal

pub returns-clause-some : goal.returns-clause-some
returns-clause-some c =
    finds_lent c.self.inside.by_worker c.args.worker.now c.self.invariant c.get.result
    (c.get.ensures.value ∙ ap (tree.get pair_cmp c.self.inside.by_worker) c.key_of.ensures)

pub returns-clause-there : goal.returns-clause-there
returns-clause-there c =
    finds_some_lent c.self.inside.by_worker c.args.worker.now c.args.self.now c.self.view_is c.get.result
    (c.get.ensures.value ∙ ap (tree.get pair_cmp c.self.inside.by_worker) c.key_of.ensures)
