use Rattle.std.proofs.Common.{List, [], Option, Ok, Err, ℕ, subst, sym}
use Rattle.std.specs.Prelude.{Result, IfOk}
use Rattle.pool_settings.specs.Settings.{Settings}
use Rattle.pool_supervisor.specs.declared.attempt.Attempt.{Attempt}
use Rattle.pool_supervisor.specs.declared.attempts.Until.TheVariants.{Rounds}
use Rattle.pool_supervisor.specs.declared.run_end.RunEnd.{RunEnd}
use Rattle.pool_supervisor.specs.Dials.{DialCall}
use Rattle.pool_supervisor.specs.Runs.{IsRun}
use Rattle.pool_supervisor.specs.Sessions.{PastSession, Covers, HadNamedJobs}
use Rattle.pool_supervisor.specs.Tries.{Dials, InOrder, Rule, all_slots}
use Rattle.pool_supervisor.proofs.Sessions.{named}
use Rattle.pool_supervisor.proofs.Tries.{dials_covered}
use Rattle.pool_supervisor.proofs.run.run_pool.Goals as goal

dials_of : {A E : Type 0} (r : Result A E) (run : A → RunEnd) (calls : A → Option (List DialCall)) (settings : Settings) (allows : Rule)
    (wide narrow : PastSession → Type 0) (rounds : ℕ) (before : Option (List DialCall)) → Covers wide narrow
    → IfOk r (λ e. IsRun settings allows narrow (Rounds rounds) [] (run e) [] before (calls e))
    → IfOk r (λ e. Dials settings allows wide [] (run e).lines.items (run e) before (calls e))
dials_of (Ok e) run calls settings allows wide narrow rounds before covers ran =
    subst (λ (l : List Attempt). Dials settings allows wide [] l (run e) before (calls e)) (sym ran.keeps.0)
    (dials_covered (InOrder settings allows) settings wide narrow [] ran.lines (run e) before (calls e) covers ran.dials)
dials_of (Err e) run calls settings allows wide narrow rounds before covers ran = tt

-- each session has the jobs by name
pub returns-clause-dials : goal.returns-clause-dials
returns-clause-dials g c =
    dials_of c.run_whole.result (λ e. e.0) (λ e. g.Y.Dial.calls e.1) c.args.settings all_slots
    (HadNamedJobs (g.J.NamedJobs.told c.args.jobs.now)) _ c.args.rounds (g.Y.Dial.calls c.args.dial) (named c.args.jobs (λ j. g.J.NamedJobs.told j.now) _) c.run_whole.ensures.runs
