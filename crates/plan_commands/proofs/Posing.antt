-- Why there is no problem, by the fault of each text, where nothing was read.
use Rattle.std.proofs.Common.{◌≡◌, ◌≢◌, ◌∙◌, ℕ, Bool, List, [], Ok, Err, true, false, refl, ap, sym, arith, inl, inr}
use Rattle.std.specs.Prelude.{Result}
use Rattle.devices.specs.Whole.{IsUntouched}
use Rattle.byte_io.specs.Sides.{Input, Meets, Met}
use Rattle.byte_io.proofs.Devices.{counted_nothing, told_nothing}
use Rattle.gear_status.specs.Status.{Line}
use Rattle.plan_model.specs.Planning.{Instance}
use Rattle.pool_settings.specs.Planning.{instance_of, waiting_of}
use Rattle.pool_settings.specs.Settings.{Settings}
use Rattle.plan_commands.specs.Mistake.{Reads}
use Rattle.plan_commands.specs.Posing.{GivesLoad, Poses}
use Rattle.plan_commands.specs.Problem.{are_workers, live_marks, load_within, problem, problem_of, unknown_place}
use Rattle.plan_commands.specs.declared.fault.Fault.{Fault}
use Rattle.plan_commands.specs.declared.fault.Fault.TheVariants as fault
use Rattle.plan_commands.specs.declared.problem.Problem.{Problem}

-- what a call met that did not read
abbrev pub nothing_from : Input → Met
nothing_from side = record { bytes = []; lulls = 0; failures = 0; has_ended = side.has_ended }

pub meets_nothing : (side : Input) → Meets side (nothing_from side) side
meets_nothing side = (told_nothing side.given, counted_nothing side.lulls, omega arith, refl)

-- the settings are refused
pub settings_refused : (text : List ℕ) (lost : List (List ℕ)) (side : Input) (f : Fault) → Reads text (Err f)
    → Poses text lost (nothing_from side) (Err f)
settings_refused text lost side fault.Memory reads = (Err fault.Memory, reads, inl (refl, refl, refl))
settings_refused text lost side (fault.Settings mistake) reads = (Err (fault.Settings mistake), reads, (refl, (refl, refl, refl)))
settings_refused text lost side (fault.Services mistake) reads = absurd reads
settings_refused text lost side fault.ReadFault reads = absurd reads
settings_refused text lost side (fault.BadCommand n) reads = absurd reads
settings_refused text lost side (fault.UnknownWorker place) reads = absurd reads
settings_refused text lost side fault.TooLong reads = absurd reads
settings_refused text lost side fault.WriteFault reads = absurd reads
settings_refused text lost side (fault.Page e) reads = absurd reads
settings_refused text lost side (fault.File file e) reads = absurd reads
settings_refused text lost side (fault.Status e) reads = absurd reads
settings_refused text lost side (fault.Report e) reads = absurd reads

-- a lost worker is unknown
pub lost_refused : (text : List ℕ) (lost : List (List ℕ)) (side : Input) (p : Settings) (f : Fault) → Reads text (Ok p)
    → (f ≢ fault.Memory → (f ≡ fault.UnknownWorker (unknown_place p lost)) × (are_workers p lost ≡ false))
    → Poses text lost (nothing_from side) (Err f)
lost_refused text lost side p fault.Memory good due = (Ok p, good, inl (refl, refl, refl))
lost_refused text lost side p (fault.UnknownWorker place) good due =
    let is_due = due (λ q. cc) in (Ok p, good, (rw (is_due.1, is_due.0) refl, (refl, refl, refl)))
lost_refused text lost side p fault.ReadFault good due = (let other = (due (λ q. cc)).0 in cc)
lost_refused text lost side p (fault.BadCommand n) good due = (let other = (due (λ q. cc)).0 in cc)
lost_refused text lost side p fault.TooLong good due = (let other = (due (λ q. cc)).0 in cc)
lost_refused text lost side p fault.WriteFault good due = (let other = (due (λ q. cc)).0 in cc)
lost_refused text lost side p (fault.Page e) good due = (let other = (due (λ q. cc)).0 in cc)
lost_refused text lost side p (fault.File file e) good due = (let other = (due (λ q. cc)).0 in cc)
lost_refused text lost side p (fault.Services e) good due = (let other = (due (λ q. cc)).0 in cc)
lost_refused text lost side p (fault.Settings e) good due = (let other = (due (λ q. cc)).0 in cc)
lost_refused text lost side p (fault.Status e) good due = (let other = (due (λ q. cc)).0 in cc)
lost_refused text lost side p (fault.Report e) good due = (let other = (due (λ q. cc)).0 in cc)

-- the status text is not read
pub load_refused : (text : List ℕ) (lost : List (List ℕ)) (met : Met) (p : Settings) (f : Fault) → Reads text (Ok p)
    → are_workers p lost ≡ true → GivesLoad met (Err f) → Poses text lost met (Err f)
load_refused text lost met p fault.Memory good workers told = (Ok p, good, inr told)
load_refused text lost met p fault.ReadFault good workers told = (Ok p, good, ((p, refl, workers), told))
load_refused text lost met p fault.WriteFault good workers told = absurd told
load_refused text lost met p (fault.Page e) good workers told = (Ok p, good, (rw (workers, told.0) refl, told.1))
load_refused text lost met p (fault.UnknownWorker place) good workers told = (Ok p, good, (rw (workers, told.0) refl, told.1))
load_refused text lost met p (fault.BadCommand n) good workers told = (Ok p, good, (rw (workers, told.0) refl, told.1))
load_refused text lost met p fault.TooLong good workers told = (Ok p, good, (rw (workers, told.0) refl, told.1))
load_refused text lost met p (fault.File file e) good workers told = (Ok p, good, (rw (workers, told.0) refl, told.1))
load_refused text lost met p (fault.Services e) good workers told = (Ok p, good, (rw (workers, told.0) refl, told.1))
load_refused text lost met p (fault.Settings e) good workers told = (Ok p, good, (rw (workers, told.0) refl, told.1))
load_refused text lost met p (fault.Status e) good workers told = (Ok p, good, (rw (workers, told.0) refl, told.1))
load_refused text lost met p (fault.Report e) good workers told = (Ok p, good, (rw (workers, told.0) refl, told.1))

abbrev with_input : Settings → Instance → Result Problem Fault
with_input p input = Ok (record { settings = p; input = input })

-- there is a problem
pub posed : (text : List ℕ) (lost : List (List ℕ)) (met : Met) (p : Settings) (live : List Bool) (load : List Line) (input : Instance)
    → Reads text (Ok p) → are_workers p lost ≡ true → live ≡ live_marks p lost → GivesLoad met (Ok load)
    → input ≡ instance_of p live (waiting_of p load) → Poses text lost met (Ok (record { settings = p; input = input }))
posed text lost met p live load input good workers marks told is =
    let due : problem (Ok p) lost (load_within met.bytes) ≡ Ok (problem_of p lost load) = rw (workers, told.0) refl in
    let same : instance_of p (live_marks p lost) (waiting_of p load) ≡ input =
    sym (is ∙ ap (λ l. instance_of p l (waiting_of p load)) marks) in
    (Ok p, good, (due ∙ ap (with_input p) same, told.1))
