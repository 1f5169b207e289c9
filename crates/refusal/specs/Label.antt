-- How a refusal is reported, and which one is due.
use Rattle.std.specs.Prelude.{ℕ, List, ◌++◌, Option, None, Some, Result, Ok, Err, Bool, false, if◌then◌else◌, codes}
use Rattle.std.specs.Fmt.{decimal}

-- a number and a name
pub record Label : Type 0 where
  pub number : ℕ
  pub name : List ℕ

abbrev pub label : ℕ → List ℕ → Label
label number name = record { number = number; name = name }

-- as a line gives it: the number, a space and the name
abbrev pub label_words : Label → List ℕ
label_words label = decimal label.number ++ codes " " ++ label.name

-- The refusal that an answer gives. Out of memory is none: it says nothing of what was asked for.
abbrev pub due : {A E : Type 0} → (E → Bool) → Result A E → Option E
due is_memory (Ok x) = None
due is_memory (Err e) = if is_memory e then None else Some e

-- which value is out of memory, of a call that takes none
abbrev pub never : {E : Type 0} → E → Bool
never e = false
