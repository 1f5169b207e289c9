-- Each command makes at most one event of the pool, or ends the chapter of its history.
use Rattle.std.proofs.Common.{◌≡◌, ℕ, List, Bool, true, false, Option, Some, None, Result, Ok, Err, IfOk, OnOk, OnErr, ◌⊎◌, ap, refl, inl, inr}
use Rattle.std.specs.FinSet as set
use Rattle.plan_model.specs.Certificate.{Certificate}
use Rattle.pool_settings.specs.Settings.{Settings}
use Rattle.pool_core.specs.declared.event.Event.{Event}
use Rattle.pool_core.specs.declared.event.Event.TheVariants as event
use Rattle.pool_core.specs.declared.answer.Ran.{Ran}
use Rattle.pool_core.specs.declared.error.RoundError.{RoundError}
use Rattle.pool_core.specs.declared.event.Chapter.{Chapter}
use Rattle.pool_core.specs.declared.error.ChapterError.{ChapterError}
use Rattle.pool_core.specs.Book.{Book, IsStep, next_chapter}
use Rattle.pool_core.specs.Calls.{IsRound}
use Rattle.pool_core.specs.Laws.{Called}
use Rattle.pool_commands.specs.declared.command.Command.{Command}
use Rattle.pool_commands.specs.declared.command.Command.TheVariants as command
use Rattle.pool_replay.specs.declared.desk.Desk.{Desk}
use Rattle.pool_replay.specs.Step.{StepOf, IfPass, TellsAdoption}
use Rattle.pool_replay.specs.Law.{DoesTo, is_chapter}

one_event : {A E : Type 0} (result : Result A E) (e : Event) (old new : Book) → OnOk result (IsStep e old new) → OnErr result (new ≡ old) → Called old new
one_event (Ok x) e old new step err = inr (e, step)
one_event (Err x) e old new step err = inl err

rounds : (result : Result Ran RoundError) (old new : Book)
    → IfOk result (IsRound old new) → OnErr result (new ≡ old) → Called old new
rounds (Ok x) old new step err = inr (event.Round step.0, step.1)
rounds (Err x) old new step err = inl err

with_pass : (has : Bool) (Steps : Desk → List ℕ → Desk → Type 0) (old : Desk) (line : List ℕ) (new : Desk)
    → (Steps old line new → Called old.pool new.pool) → IfPass has Steps old line new → Called old.pool new.pool
with_pass true Steps old line new called step = called step
with_pass false Steps old line new called step = inl (ap (λ d. d.pool) step.1)

adopted : (viewed : Option Certificate) (old : Desk) (line : List ℕ) (new : Desk) → TellsAdoption viewed old line new → Called old.pool new.pool
adopted None old line new step = inl (ap (λ d. d.pool) step.1)
adopted (Some viewed) old line new step = one_event step.0 _ old.pool new.pool step.1.0.0 step.1.0.1

ends_chapter : (result : Result Chapter ChapterError) (old new : Book)
    → OnOk result (new ≡ next_chapter old) → OnErr result (new ≡ old) → (new ≡ old) ⊎ (new ≡ next_chapter old)
ends_chapter (Ok x) old new ok err = inr ok
ends_chapter (Err x) old new ok err = inl err

pub called : (p : Settings) (c : Command) (old : Desk) (line : List ℕ) (new : Desk) → StepOf p c old line new → DoesTo c old.pool new.pool
called p (command.Join slot) old line new step = one_event step.0 _ old.pool new.pool step.1.0.0 step.1.0.1
called p (command.Load load) old line new step = one_event step.0 _ old.pool new.pool step.1.0.0 step.1.0.1
called p command.Round old line new step = rounds step.0 old.pool new.pool step.1.0 step.1.1
called p command.View old line new step = inl step.5
called p command.Adopt old line new step = adopted old.viewed old line new step
called p (command.Grab worker handle function now) old line new step =
    with_pass (set.contains old.passes worker) _ old line new (λ s. one_event s.0 _ old.pool new.pool s.1.0.0 s.1.0.1) step
called p (command.Begin worker ticket) old line new step =
    with_pass (set.contains old.passes worker) _ old line new (λ s. one_event s.0 _ old.pool new.pool s.1.0.0 s.1.0.1) step
called p (command.Report worker ticket end) old line new step =
    with_pass (set.contains old.passes worker) _ old line new (λ s. one_event s.0 _ old.pool new.pool s.1.0.0 s.1.0.1) step
called p (command.Lose worker cause) old line new step =
    with_pass (set.contains old.passes worker) _ old line new (λ s. one_event s.0 _ old.pool new.pool s.1.0.0 s.1.0.1) step
called p (command.Expire worker now) old line new step = one_event step.0 _ old.pool new.pool step.1.0.0 step.1.0.1
called p (command.Job ticket) old line new step = inl (ap (λ d. d.pool) step.1)
called p (command.Order slot) old line new step = inl (ap (λ d. d.pool) step.2.1)
called p command.Totals old line new step = inl (ap (λ d. d.pool) step.1)
called p command.Chapter old line new step = ends_chapter step.0 old.pool new.pool step.1.2 step.1.3

-- nothing or one event, or the end of the chapter by that command
pub moves : (c : Command) (old new : Book) → DoesTo c old new → Called old new ⊎ ((is_chapter (Some c) ≡ true) × (new ≡ next_chapter old))
moves (command.Join slot) old new c = inl c
moves (command.Load load) old new c = inl c
moves command.Round old new c = inl c
moves command.View old new c = inl c
moves command.Adopt old new c = inl c
moves (command.Grab worker handle function now) old new c = inl c
moves (command.Begin worker ticket) old new c = inl c
moves (command.Report worker ticket end) old new c = inl c
moves (command.Lose worker cause) old new c = inl c
moves (command.Expire worker now) old new c = inl c
moves (command.Job ticket) old new c = inl c
moves (command.Order slot) old new c = inl c
moves command.Totals old new c = inl c
moves command.Chapter old new (inl same) = inl (inl same)
moves command.Chapter old new (inr ends) = inr (refl, ends)

pub same_rules : (old new : Book) → Called old new → new.settings ≡ old.settings
same_rules old new (inl same) = ap (λ b. b.settings) same
same_rules old new (inr (e, step)) = step.settings
