use Rattle.std.proofs.Common.{◌≡◌, List, sym, subst, ◌∙◌}
use Rattle.pool_supervisor.specs.declared.attempt.Attempt.{Attempt}
use Rattle.pool_supervisor.specs.Runs.{Keeps}
use Rattle.pool_supervisor.specs.FarmPosts.{TellsBy}
use Rattle.pool_supervisor.specs.Tries.{LooksBy}
use Rattle.pool_supervisor.specs.declared.attempts.Until.{Until}
use Rattle.pool_supervisor.proofs.FarmPosts.{tells_by}
use Rattle.pool_supervisor.proofs.Tries.{dials_of_run, dials_until}
use Rattle.pool_supervisor.proofs.attempts.Supervisor.supervise.Goals as goal

-- what the crew hands out has the lines of the attempts, and totals of the history whose rounds they told
pub returns : goal.returns
returns g c =
    let made = c.in_ok-attempted.ensures.attempts in
    let settings = g.N.RunId.settings in
    let allows = g.N.RunId.allows in
    let had = g.N.RunId.had_jobs in
    let before = g.Y.Dial.calls c.args.self.dial in
    let until : g.N.RunId.until ≡ c.args.lines.until = sym c.args.self.site.run.until_is ∙ c.requires.until in
    let all = made.3 in
    let now = c.attempt_and_stop-attempted.new.self in
    let told = tells_by g.N.RunId.until settings c.args.lines.told.items made.0 c.args.self.seats.publisher.posts now.seats.publisher.posts all.0 in
    let dials = dials_of_run (LooksBy g.N.RunId.until settings allows) settings had c.args.lines.told.items made.0 c.args.self.crew.counts
    now.crew.counts c.join_all-ended.result before (g.Y.Dial.calls now.dial) _ c.requires.none_joined all.1 c.join_all-ended.ensures.joins in record {
      runs = record {
        lines = made.0;
        keeps = subst (λ (l : List Attempt). Keeps c.args.lines.until made.0 l) (sym c.join_all-ended.ensures.told) made.1;
        tells = subst (λ (u : Until). TellsBy u settings c.args.lines.told.items made.0 c.args.self.seats.publisher.posts) until told;
        dials = dials_until g.N.RunId.until c.args.lines.until settings allows had c.args.lines.told.items made.0 c.join_all-ended.result before _ until dials;
        history = (now.rounds, c.join_all-ended.ensures.counts, made.2);
      };
    }
