-- How an examination ends, by the faults on its way.
use Rattle.std.proofs.Common.{◌≡◌, Ok, Err, inl, inr, refl, ap, sym, subst, arith}
use Rattle.std.specs.Prelude.{Result}
use Rattle.devices.specs.Whole.{IsNotWhole, IsWhole}
use Rattle.devices.specs.declared.error.InputError.{InputError}
use Rattle.devices.specs.declared.error.InputError.TheVariants as input
use Rattle.byte_io.specs.Sides.{Input, Met}
use Rattle.plan_commands.specs.Check.{Examines, Judges}
use Rattle.plan_commands.specs.Fault.{input_fault}
use Rattle.plan_commands.specs.Posing.{IsDue}
use Rattle.plan_commands.specs.declared.check.Verdict.{Verdict}
use Rattle.plan_commands.specs.declared.fault.Fault.{Fault}
use Rattle.plan_commands.specs.declared.fault.Fault.TheVariants as fault
use Rattle.plan_commands.specs.declared.problem.Problem.{Problem}
use Rattle.plan_commands.proofs.Posing.{nothing_from}

-- memory was refused before anything was read
untouched : (posed : Result Problem Fault) (side : Input) → Examines posed (nothing_from side) (Err fault.Memory)
untouched (Ok p) side = (refl, omega arith)
untouched (Err f) side = (inr refl, (refl, refl, refl))

abbrev fault_at : Result Problem Fault → Fault
fault_at (Ok p) = fault.Memory
fault_at (Err f) = f

-- there is no problem, and nothing is read
pub unposed : (posed : Result Problem Fault) (side : Input) (f : Fault) → IsDue posed (Err f) → Examines posed (nothing_from side) (Err f)
unposed posed side f (inl due) = subst (λ d. Examines d (nothing_from side) (Err f)) due (inl refl, (refl, refl, refl))
unposed posed side f (inr memory) =
    subst (λ t. Examines posed (nothing_from side) (Err t)) (sym (ap fault_at memory)) (untouched posed side)

posed_so : (posed : Result Problem Fault) (p : Problem) → IsDue posed (Ok p) → Ok p ≡ posed
posed_so posed p (inl due) = due
posed_so posed p (inr bad) = absurd (let other : Ok p ≡ Err fault.Memory = bad in cc)

untaken_at : (p : Problem) (met : Met) (e : InputError) → IsNotWhole met e → Examines (Ok p) met (Err (input_fault e))
untaken_at p met input.TooLong taken = taken
untaken_at p met input.ReadFault taken = taken
untaken_at p met input.Memory taken = taken
untaken_at p met input.NoFile taken = absurd taken
untaken_at p met input.NoPermission taken = absurd taken

-- a problem, and no report
pub untaken : (posed : Result Problem Fault) (p : Problem) (met : Met) (e : InputError) → IsDue posed (Ok p) → IsNotWhole met e
    → Examines posed met (Err (input_fault e))
untaken posed p met e due taken = subst (λ d. Examines d met (Err (input_fault e))) (posed_so posed p due) (untaken_at p met e taken)

judged_at : (p : Problem) (met : Met) → IsWhole met → (r : Result Verdict Fault) → Judges p met.bytes r → Examines (Ok p) met r
judged_at p met whole (Ok found) judges = (whole, judges)
judged_at p met whole (Err (fault.Report e)) judges = (whole, judges)
judged_at p met whole (Err fault.Memory) judges = whole.2
judged_at p met whole (Err (fault.BadCommand n)) judges = absurd judges
judged_at p met whole (Err (fault.UnknownWorker place)) judges = absurd judges
judged_at p met whole (Err (fault.Settings e)) judges = absurd judges
judged_at p met whole (Err (fault.Services e)) judges = absurd judges
judged_at p met whole (Err (fault.Status e)) judges = absurd judges
judged_at p met whole (Err fault.TooLong) judges = absurd judges
judged_at p met whole (Err fault.ReadFault) judges = absurd judges
judged_at p met whole (Err fault.WriteFault) judges = absurd judges
judged_at p met whole (Err (fault.Page e)) judges = absurd judges
judged_at p met whole (Err (fault.File file e)) judges = absurd judges

-- a problem and a report
pub judged : (posed : Result Problem Fault) (p : Problem) (met : Met) (r : Result Verdict Fault) → IsDue posed (Ok p) → IsWhole met
    → Judges p met.bytes r → Examines posed met r
judged posed p met r due whole judges = subst (λ d. Examines d met r) (posed_so posed p due) (judged_at p met whole r judges)
