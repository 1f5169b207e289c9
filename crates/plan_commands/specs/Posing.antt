-- What a call that poses a problem may answer, and how far it reads.
use Rattle.std.specs.Prelude.{◌≡◌, ◌⊎◌, ℕ, ◌+◌, ◌≤◌, true, List, length, Result, Ok, Err}
use Rattle.devices.specs.Whole.{IsUntouched, limit}
use Rattle.byte_io.specs.Sides.{GaveUp, Met, Undisturbed}
use Rattle.gear_status.specs.Status.{Line, status}
use Rattle.gear_status.specs.Stream.{EndsWithPiece}
use Rattle.gear_status.specs.declared.error.StatusError.TheVariants.{Truncated}
use Rattle.pool_settings.specs.Settings.{Settings}
use Rattle.pool_settings.specs.Reading.{reading}
use Rattle.plan_commands.specs.Mistake.{Reads}
use Rattle.plan_commands.specs.Problem.{are_workers, load_within, problem}
use Rattle.plan_commands.specs.declared.fault.Fault.{Fault}
use Rattle.plan_commands.specs.declared.fault.Fault.TheVariants as fault
use Rattle.plan_commands.specs.declared.problem.Problem.{Problem}

-- A call answers what is due, or memory was refused.
abbrev pub IsDue : {A : Type 0} → Result A Fault → Result A Fault → Type 0
IsDue due result = (result ≡ due) ⊎ (result ≡ Err fault.Memory)

-- The settings mean something.
abbrev pub HaveMeaning : List ℕ → Type 0
HaveMeaning settings_text = (settings : Settings) × (reading settings_text ≡ Ok settings)

-- The settings were read, and each lost worker is one of theirs.
abbrev pub AreRight : Result Settings Fault → List (List ℕ) → Type 0
AreRight settings lost = (s : Settings) × (settings ≡ Ok s) × (are_workers s lost ≡ true)

-- The source failed, or timed out for the 65th time, before its bytes decided anything.
abbrev pub IsReadFault : Met → Type 0
IsReadFault met = (status met.bytes ≡ Err Truncated) × GaveUp met

-- The bytes were taken up to the piece that decides, and none after it, no more than the limit of them.
abbrev pub IsDecided : Met → Type 0
IsDecided met = EndsWithPiece met × (length met.bytes ≤ limit) × Undisturbed met

-- How far a source was read before a fault. For one of the status text: up to the end for a text that is cut off, one byte above the
-- limit for one that is too long, and else up to the piece that decides. For one of settings or lost workers: not at all.
abbrev pub ReadsTo : Fault → Met → Type 0
ReadsTo (fault.Status Truncated) met = (met.has_ended ≡ true) × (length met.bytes ≤ limit) × Undisturbed met
ReadsTo (fault.Status e) met = IsDecided met
ReadsTo fault.TooLong met = (length met.bytes ≡ limit + 1) × Undisturbed met
ReadsTo f met = IsUntouched met

-- the load of what was met, or why there is none; if memory is refused, nothing before the last piece decided
abbrev pub GivesLoad : Met → Result (List Line) Fault → Type 0
GivesLoad met (Ok load) = (load_within met.bytes ≡ Ok load) × IsDecided met
GivesLoad met (Err fault.Memory) = IsDecided met
GivesLoad met (Err fault.ReadFault) = IsReadFault met
GivesLoad met (Err fault.WriteFault) = ⊥
GivesLoad met (Err f) = (load_within met.bytes ≡ Err f) × ReadsTo f met

-- the problem that the settings which were read, lost workers and what was met at the source of the status text pose, or why there is
-- none; if memory is refused, nothing was read, or nothing before the last piece decided
abbrev pub PosesBy : Result Settings Fault → List (List ℕ) → Met → Result Problem Fault → Type 0
PosesBy settings lost met (Ok posed) = (problem settings lost (load_within met.bytes) ≡ Ok posed) × IsDecided met
PosesBy settings lost met (Err fault.Memory) = IsUntouched met ⊎ IsDecided met
PosesBy settings lost met (Err fault.ReadFault) = AreRight settings lost × IsReadFault met
PosesBy settings lost met (Err fault.WriteFault) = ⊥
PosesBy settings lost met (Err f) = (problem settings lost (load_within met.bytes) ≡ Err f) × ReadsTo f met

-- The same of a settings text.
abbrev pub Poses : List ℕ → List (List ℕ) → Met → Result Problem Fault → Type 0
Poses settings_text lost met result =
    (settings : Result Settings Fault) × Reads settings_text settings × PosesBy settings lost met result

-- A problem that is due by a settings text, lost workers and a load, or its first fault.
abbrev pub PosesText : List ℕ → List (List ℕ) → Result (List Line) Fault → Result Problem Fault → Type 0
PosesText settings_text lost load result =
    (settings : Result Settings Fault) × Reads settings_text settings × IsDue (problem settings lost load) result
