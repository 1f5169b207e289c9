use Rattle.std.proofs.Common.{◌≤◌, List, [], subst, sym, ◌∙◌}
use Rattle.std.specs.Prelude.{IfOk}
use Rattle.pool_settings.specs.Settings.{Settings}
use Rattle.pool_settings.specs.Slots.{slots as slot_count}
use Rattle.order_board.specs.declared.view.Post.{Post}
use Rattle.pool_supervisor.specs.declared.attempt.Attempt.{Attempt}
use Rattle.pool_supervisor.specs.Runs.{IsRun}
use Rattle.slot_turns.specs.Turns.{IsEachSlotOnce}
use Rattle.pool_supervisor.proofs.run.Tools.run.Goals as goal

-- the pool has the settings that are lent, so the board has a place for each of their slots
pub invariant_of-supervisor : goal.invariant_of-supervisor
invariant_of-supervisor g c =
    record {
      here = c.requires.board;
      settings_are = c.requires.settings.0;
      until_is = c.requires.until;
      room = subst (λ s. slot_count s ≤ c.args.made.board.slots) (c.requires.settings.1 ∙ sym c.requires.settings.0) c.args.made.room;
    }

-- nothing was told or posted before
pub returns : goal.returns
returns g c =
    let settings = g.N.RunId.settings in
    let until = c.args.made.lines.until in
    let called = g.Y.Dial.calls c.args.self.dial in
    let posts = c.args.made.seats.publisher.posts in
    let from_first =
    subst (λ (l : List Attempt). IfOk c.run.result (λ e. IsRun settings g.N.RunId.allows g.N.RunId.had_jobs until l e.0 posts called (g.Y.Dial.calls e.1))) c.args.made.none_told c.run.ensures.runs
    in
    let from_empty =
    subst (λ (p : List Post). IfOk c.run.result (λ e. IsRun settings g.N.RunId.allows g.N.RunId.had_jobs until [] e.0 p called (g.Y.Dial.calls e.1))) c.args.made.none_posted from_first
    in
    record { runs = subst (λ (s : Settings). IfOk c.run.result (λ e. IsRun s g.N.RunId.allows g.N.RunId.had_jobs until [] e.0 [] called (g.Y.Dial.calls e.1))) (sym c.requires.settings.1) from_empty }

pub invariant_of-supervisor-2-clause-each_once : goal.invariant_of-supervisor-2-clause-each_once
invariant_of-supervisor-2-clause-each_once g c =
    subst (λ (s : Settings). ∥ IsEachSlotOnce s c.args.made.turns ∥₁) c.requires.settings.1 c.args.made.each_once
