use Rattle.std.proofs.Common.{refl}
use Rattle.command_words.specs.Words.{replay_app, settings_app}
use Rattle.command_words.proofs.Chain.{app_added, app_if_added}
use Rattle.command_words.proofs.operands.add_trials.Goals as goal

pub returns : goal.returns
returns c =
    let one = app_added c.args.program c.in_ok-replaying.replaying c.replay.result c.in_ok-replaying.ensures c.replay.ensures.local refl replay_app c.replay.ensures.app in record {
      app = app_if_added c.in_ok-replaying.replaying c.show_settings.result c.add-2.result c.add-2.ensures c.show_settings.ensures.local one settings_app c.show_settings.ensures.app;
    }
