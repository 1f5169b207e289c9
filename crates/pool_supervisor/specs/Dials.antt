-- What contracts see of the calls of what dials.
use Rattle.std.specs.Prelude.{◌≡◌, List, [], ◌++◌, Option, Some, None, option_map}
use Rattle.job_runner.specs.Run.{Link}

-- One call: a dial that failed, a dial that opened a link, or word that a link was closed, with what it shows of its two sides then.
pub data DialCall : Type 0 where
  failed : DialCall
  opened : DialCall
  closed : Link → DialCall

-- the calls so far, if they are shown, and these more
abbrev pub then_called : Option (List DialCall) → List DialCall → Option (List DialCall)
then_called before more = option_map (λ calls. calls ++ more) before

abbrev pub dialled : {A : Type 0} → Option A → DialCall
dialled None = failed
dialled (Some link) = opened

-- the list is empty, if it is known
abbrev pub IsNothing : {A : Type 0} → Option (List A) → Type 0
IsNothing told = told ≡ option_map (λ _. []) told

-- the link has given and taken nothing yet, and has not failed
abbrev pub IsNew : Link → Type 0
IsNew link =
    (link.input.failures ≡ 0) × (link.output.failures ≡ 0) × IsNothing link.input.given × IsNothing link.output.got
