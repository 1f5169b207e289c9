-- What was asked of the job server for a load, and what came of it.
use Rattle.std.specs.Prelude.{◌≡◌, ◌⊎◌, ◌+◌, Bool, true, false, List, [], ◌∷◌, ◌++◌, Result, Ok, Err, Option, codes}
use Rattle.byte_io.specs.Sides.{HasText}
use Rattle.gear_status.specs.Status.{Line}
use Rattle.gear_status.specs.declared.error.StatusError.{StatusError}
use Rattle.job_runner.specs.Run.{Link}
use Rattle.pool_core.specs.declared.error.LoadError.{LoadError}
use Rattle.pool_supervisor.specs.declared.attempt.Attempt.{Attempt}
use Rattle.pool_supervisor.specs.declared.attempt.Attempt.TheVariants as attempt
use Rattle.pool_supervisor.specs.declared.attempt.PoolRefusal.TheVariants as refusal
use Rattle.pool_supervisor.specs.Dials.{DialCall, failed, opened, closed, then_called, IsNew}
use Rattle.pool_supervisor.specs.Steps.{Reads}

-- The link took the request for a status, and what it gave then means this load, or is why there is none.
abbrev pub Answers : Result (List Line) StatusError → Link → Link → Type 0
Answers answer old new = HasText old.output (codes "status" ++ 10 ∷ []) new.output × Reads answer old.input new.input

-- A link was asked for a load: it answered, or did not take the request.
abbrev pub Asked : Result (List Line) Attempt → Link → Link → Type 0
Asked (Ok load) old new = Answers (Ok load) old new
Asked (Err (attempt.Status error)) old new = Answers (Err error) old new
Asked (Err attempt.NoLink) old new = new.output.failures ≡ old.output.failures + 1
Asked (Err other) old new = ⊥

-- a new link was opened, asked, and closed
pub record AskedOver (answer : Result (List Line) Attempt) (calls : List DialCall) : Type 0 where
  pub first : Link
  pub last : Link
  pub new : IsNew first
  pub asked : Asked answer first last
  pub calls_are : calls ≡ opened ∷ closed last ∷ []

-- the calls for a load: a dial that failed, or those of one link
abbrev pub AsksFor : Result (List Line) Attempt → List DialCall → Type 0
AsksFor answer calls = ((calls ≡ failed ∷ []) × (answer ≡ Err attempt.NoLink)) ⊎ AskedOver answer calls

-- such calls were made
pub record Asks (answer : Result (List Line) Attempt) (before now : Option (List DialCall)) : Type 0 where
  pub asked : List DialCall
  pub calls : now ≡ then_called before asked
  pub answers : AsksFor answer asked

-- a load was asked for, and came
abbrev pub GetsLoad : List DialCall → Type 0
GetsLoad asked = (load : List Line) × AsksFor (Ok load) asked

-- calls were made for a load, which came
pub record Given (before now : Option (List DialCall)) : Type 0 where
  pub asked : List DialCall
  pub calls : now ≡ then_called before asked
  pub gets : GetsLoad asked

-- the line says why the pool did not take the load
abbrev pub IsNotTaken : Attempt → Type 0
IsNotTaken line = (error : LoadError) × (line ≡ attempt.Refused (refusal.Load error))

-- whether it is the line of an attempt whose load was taken
abbrev pub is_planned : Attempt → Bool
is_planned attempt.NoLink = false
is_planned (attempt.Status error) = false
is_planned (attempt.Refused (refusal.Load error)) = false
is_planned other = true

-- The line of an attempt follows from its calls for the load: why there was none, or what came after it.
abbrev pub Follows : List DialCall → Attempt → Type 0
Follows asked attempt.NoLink = AsksFor (Err attempt.NoLink) asked
Follows asked (attempt.Status error) = AsksFor (Err (attempt.Status error)) asked
Follows asked other = GetsLoad asked

-- such calls were made
pub record Tells (line : Attempt) (before now : Option (List DialCall)) : Type 0 where
  pub asked : List DialCall
  pub calls : now ≡ then_called before asked
  pub follows : Follows asked line
