-- What error output gets of a fault.
use Rattle.std.specs.Prelude.{◌≡◌, ◌⊎◌, ℕ, List, [], ◌∷◌, ◌++◌, codes}
use Rattle.byte_io.specs.Sides.{HasPrefix, HasText, Output}
use Rattle.plan_commands.specs.Fault.{fault_line}
use Rattle.plan_commands.specs.declared.fault.Fault.{Fault}
use Rattle.fault_detail.specs.Detail.{IsDetail, Names}
use Rattle.fault_detail.specs.declared.complaint.Reader.{Reader}
use Rattle.fault_detail.specs.declared.complaint.Reader.TheVariants as reader

-- a write failed, and the sink has a prefix of the text
abbrev pub IsCut : Output → List ℕ → Output → Type 0
IsCut old text new = (count : ℕ) × HasPrefix old text count new

-- A sink has the text, or a prefix of it if a write failed.
abbrev pub SaysLine : List ℕ → Output → Output → Type 0
SaysLine text old new = HasText old text new ⊎ IsCut old text new

-- the line of a fault, as error output shows it
abbrev pub fault_text : Fault → List ℕ
fault_text fault = codes "poolman: " ++ fault_line fault ++ 10 ∷ []

-- Error output has the line of the fault.
abbrev pub Complains : Fault → Output → Output → Type 0
Complains fault old new = SaysLine (fault_text fault) old new

-- Error output has a line that says what the fault is about. Or there is no memory for that line, and it has nothing.
abbrev pub TellsMore : Names → Fault → Output → Output → Type 0
TellsMore names fault old new = ((line : List ℕ) × IsDetail names fault line × SaysLine line old new) ⊎ (new ≡ old)

-- Error output has the line of the fault, and then what the fault is about, or nothing more.
abbrev pub TellsPerson : Names → Fault → Output → Output → Type 0
TellsPerson names fault old new = (middle : Output) × Complains fault old middle × TellsMore names fault middle new

-- Error output has the line of the fault; and then, for a person and only there, what the fault is about.
abbrev pub Tells : Reader → Names → Fault → Output → Output → Type 0
Tells reader.Program names fault old new = Complains fault old new
Tells reader.Person names fault old new = TellsPerson names fault old new
