use Rattle.std.proofs.Common.{◌≡◌, [], ℕ, List, Option, Ok, Err}
use Rattle.std.specs.Prelude.{Result, OnOk}
use Rattle.pool_settings.specs.Settings.{Settings}
use Rattle.pool_supervisor.specs.declared.attempts.Until.{Until}
use Rattle.pool_supervisor.specs.declared.attempts.Until.TheVariants.{Ended}
use Rattle.pool_supervisor.specs.Dials.{DialCall}
use Rattle.pool_supervisor.specs.Joined.{Joins}
use Rattle.pool_supervisor.specs.Sessions.{Counts, PastSession}
use Rattle.pool_supervisor.specs.Tries.{Attempts, FillsBy, Rule}
use Rattle.pool_supervisor.proofs.Tries.{one_refill}
use Rattle.pool_supervisor.proofs.attempts.Supervisor.refill.Goals as goal

refilled : {A E : Type 0} (r : Result A E) (until : Until) (settings : Settings) (allows : Rule) (had_jobs : PastSession → Type 0) (old mid new : Counts) (before joined now : Option (List DialCall)) → until ≡ Ended
    → Joins settings had_jobs old mid before joined → new ≡ mid → OnOk r (FillsBy Ended settings allows joined now) → OnOk r (Attempts until settings allows had_jobs [] [] old new before now)
refilled (Ok x) until settings allows had_jobs old mid new before joined now ended joins same fills =
    one_refill until settings allows had_jobs old mid new before joined now ended joins same fills
refilled (Err e) until settings allows had_jobs old mid new before joined now ended joins same fills = tt

pub returns-clause-calls : goal.returns-clause-calls
returns-clause-calls g c =
    refilled c.start_in_turn.result g.N.RunId.until g.N.RunId.settings g.N.RunId.allows g.N.RunId.had_jobs c.args.self.now.crew.counts _ c.start_in_turn.new.self.crew.counts
    (g.Y.Dial.calls c.args.self.now.dial) _ (g.Y.Dial.calls c.start_in_turn.new.self.dial) c.requires.ended c.join_ended.ensures.joins c.start_in_turn.ensures.counts c.start_in_turn.ensures.fills
