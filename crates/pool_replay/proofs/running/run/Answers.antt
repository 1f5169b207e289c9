use Rattle.std.proofs.Common.{refl, inl, inr, subst, string_bytes}
use Rattle.pool_settings.specs.Settings.{AreSettings}
use Rattle.pool_replay.specs.declared.desk.Desk.{Desk}
use Rattle.pool_replay.proofs.Promised.{has_kept}
use Rattle.pool_replay.proofs.running.run.Goals as goal

pub returns-in_default : goal.returns-in_default
returns-in_default c = record { run = inl (c.new-output.ensures.bytes, refl) }

-- by the laws, the pool where the lines end has kept its promise
pub returns : goal.returns
returns c =
    let settings = c.args.settings.now in
    let led = c.run_lines-end.ensures in
    let valid = subst (λ (d : Desk). AreSettings d.pool.settings) c.in-Ok.ensures c.facts.ensures.settings in
    let kept = has_kept settings c.args.input.now (string_bytes c.run_lines-end.new.output) c.run_lines-end.result led.0 valid
    c.transcripts_are_histories.ensures c.rounds_are_shown.ensures c.jobs_are_accounted_for.ensures led.1 in
    record { run = inr (led.0, led.1, kept) }
