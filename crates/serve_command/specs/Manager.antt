-- What a service manager is told of a farm.
use Rattle.std.specs.Prelude.{Option, None, Some}
use Rattle.service_manager.specs.declared.notice.Notice.{Notice}
use Rattle.service_manager.specs.declared.notice.Notice.TheVariants as notice
use Rattle.serve_command.specs.declared.manager.Stage.{Stage}
use Rattle.serve_command.specs.declared.manager.Stage.TheVariants.{Starting, Ready, Stopping}

-- What is told of a farm at the second stage to whoever knows it at the first one: that it is ready, and that it is about to end, each
-- once, and never that it is ready once it ends.
abbrev pub news : Stage → Stage → Option Notice
news Starting Starting = None
news Starting Ready = Some notice.Ready
news Starting Stopping = Some notice.Stopping
news Ready Starting = None
news Ready Ready = None
news Ready Stopping = Some notice.Stopping
news Stopping stage = None
