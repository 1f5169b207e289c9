use Rattle.std.proofs.Common.{List, [], Option, Ok, Err, ℕ, subst, sym}
use Rattle.std.specs.Prelude.{Result, IfOk}
use Rattle.pool_settings.specs.Settings.{Settings}
use Rattle.pool_supervisor.specs.declared.attempt.Attempt.{Attempt}
use Rattle.pool_supervisor.specs.declared.attempts.Until.TheVariants.{Rounds}
use Rattle.pool_supervisor.specs.declared.run_end.RunEnd.{RunEnd}
use Rattle.pool_supervisor.specs.Dials.{DialCall}
use Rattle.pool_supervisor.specs.Runs.{IsRun}
use Rattle.pool_supervisor.specs.Sessions.{PastSession}
use Rattle.pool_supervisor.specs.Tries.{Dials, Rule}
use Rattle.pool_supervisor.proofs.run.run_sessions.Goals as goal

dials_of : {A E : Type 0} (r : Result A E) (run : A → RunEnd) (calls : A → Option (List DialCall)) (settings : Settings) (allows : Rule) (had : PastSession → Type 0) (rounds : ℕ) (before : Option (List DialCall))
    → IfOk r (λ e. IsRun settings allows had (Rounds rounds) [] (run e) [] before (calls e))
    → IfOk r (λ e. Dials settings allows had [] (run e).lines.items (run e) before (calls e))
dials_of (Ok e) run calls settings allows had rounds before ran =
    subst (λ (l : List Attempt). Dials settings allows had [] l (run e) before (calls e)) (sym ran.keeps.0) ran.dials
dials_of (Err e) run calls settings allows had rounds before ran = tt

pub returns-clause-dials : goal.returns-clause-dials
returns-clause-dials g c =
    dials_of c.run_whole.result (λ e. e.0) (λ e. g.Y.Dial.calls e.1) c.args.settings (g.S.JobSource.allows c.args.lent.jobs.now) _ c.args.rounds (g.Y.Dial.calls c.args.dial) c.run_whole.ensures.runs
