-- A session holds on to its parts.
use Rattle.std.proofs.Common.{◌∙◌}
use Rattle.job_runner.specs.declared.state.Session as running
use Rattle.job_runner.specs.Holding.{SameParts}

pub same_parts : {L P J : Type 0} (first middle last : running.Session L P J) → SameParts first middle → SameParts middle last → SameParts first last
same_parts first middle last a b = record { link = b.link ∙ a.link; port = b.port ∙ a.port; jobs = b.jobs ∙ a.jobs }
