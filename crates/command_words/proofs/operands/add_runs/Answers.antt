use Rattle.std.proofs.Common.{refl}
use Rattle.command_words.specs.Words.{drain_app, run_app, serve_app}
use Rattle.command_words.proofs.Chain.{app_added, app_if_added}
use Rattle.command_words.proofs.operands.add_runs.Goals as goal

pub returns : goal.returns
returns c =
    let one = app_added c.args.program c.in_ok-running.running c.run.result c.in_ok-running.ensures c.run.ensures.local refl run_app c.run.ensures.app in
    let two = app_added c.in_ok-running.running c.in_ok-serving.serving c.serve.result c.in_ok-serving.ensures c.serve.ensures.local one serve_app c.serve.ensures.app in record {
      app = app_if_added c.in_ok-serving.serving c.drain.result c.add-3.result c.add-3.ensures c.drain.ensures.local two drain_app c.drain.ensures.app;
    }
