-- The jobs of sessions, said in other words.
use Rattle.std.proofs.Common.{◌≡◌, ◌∙◌, ℕ, List, [], ◌∷◌, Option, inl, inr}
use Rattle.std.specs.List.{AllByRecursion}
use Rattle.std.proofs.Math.Logic.{∥∥₁_elim, ∥∥₁_prop}
use Rattle.byte_io.specs.Sides.{Output}
use Rattle.job_runner.specs.Told.{Told, Telling, IsMeant}
use Rattle.plan_commands.specs.declared.ending.Exit.{Exit}
use Rattle.pool_supervisor.specs.Sessions.{PastSession, AllHad, Covers, HadNamedJobs}
use Rattle.run_command.specs.Run.{Supervises}

all_covered : (wide narrow : PastSession → Type 0) (sessions : List PastSession) → Covers wide narrow → AllHad narrow sessions → AllHad wide sessions
all_covered wide narrow [] covers all = tt
all_covered wide narrow (session ∷ sessions) covers all = (∥∥₁_elim all.0 ∥∥₁_prop (λ had. covers session had), all_covered wide narrow sessions covers all.1)

pub supervises_covered : (text : List ℕ) (wide narrow : PastSession → Type 0) (rounds : ℕ) (old new : Output) (exit : Exit) → Covers wide narrow
    → Supervises text narrow rounds old new exit → Supervises text wide rounds old new exit
supervises_covered text wide narrow rounds old new exit covers (inl ran) =
    let run = ran.1 in inl (ran.0, (run.0, run.1, run.2, run.3, run.4, run.5, all_covered wide narrow run.4 covers run.6), ran.2, ran.3)
supervises_covered text wide narrow rounds old new exit covers (inr kept) = inr kept

all_meant : (one other : List ℕ → List ℕ → Option Told) (told : List Telling) → ((name input : List ℕ) → one name input ≡ other name input)
    → AllByRecursion (IsMeant one) told → AllByRecursion (IsMeant other) told
all_meant one other [] same all = tt
all_meant one other (t ∷ ts) same all = (all.0 ∙ same t.job.function t.job.payload, all_meant one other ts same all.1)

-- two meanings that are equal for each name and input
pub same_meaning : (one other : List ℕ → List ℕ → Option Told) → ((name input : List ℕ) → one name input ≡ other name input)
    → Covers (HadNamedJobs other) (HadNamedJobs one)
same_meaning one other same session had = ∣ (had.0, had.1, all_meant one other had.0 same had.2) ∣₁
