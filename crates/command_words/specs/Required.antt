-- Operands that have to be there: what each parse of a command's words gives for them.
use Rattle.std.specs.Prelude.{◌≡◌, ℕ, Some, is_some, pos, true}
use Rattle.clap.specs.Lexer.{without_minus}
use Rattle.clap.specs.Matches.{found_of, first_value, one_text}
use Rattle.clap.specs.Values.{IsSignedIn}
use Rattle.clap.specs.Walk.{Text}
use Rattle.clap.specs.Words.{IsParsedFrom}
use Rattle.clap.specs.declared.builder.command.Command.{Command}
use Rattle.clap.specs.declared.parser.matches.ArgMatches.{ArgMatches}

-- a text
abbrev pub Requires : Text → Command → Type 0
Requires id command = (m : ArgMatches) → IsParsedFrom command m → is_some (first_value (found_of m) id) ≡ true

-- a number from `least` to `most`
abbrev pub RequiresNumber : Text → ℕ → ℕ → Command → Type 0
RequiresNumber id least most command = (m : ArgMatches) → IsParsedFrom command m
    → (t : Text) × (one_text (found_of m) id ≡ Some (without_minus t)) × IsSignedIn (pos least) (pos most) t
