use Rattle.std.proofs.Common.{refl}
use Rattle.command_words.specs.Words.{check_size_app, size_app}
use Rattle.command_words.proofs.Chain.{app_added, app_if_added}
use Rattle.command_words.proofs.operands.add_sizes.Goals as goal

pub returns : goal.returns
returns c =
    let one = app_added c.args.program c.in_ok-sizing.sizing c.size.result c.in_ok-sizing.ensures c.size.ensures.local refl size_app c.size.ensures.app in record {
      app = app_if_added c.in_ok-sizing.sizing c.check_size.result c.add-2.result c.add-2.ensures c.check_size.ensures.local one check_size_app c.check_size.ensures.app;
    }
