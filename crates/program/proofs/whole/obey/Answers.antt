use Rattle.std.proofs.Common.{◌≡◌, ◌≢◌, [], ◌∷◌, inl, inr, map, refl, ap, sym, subst, string_bytes}
use Rattle.clap.specs.Words.{IsAmong, Kinds, kind_of}
use Rattle.clap.specs.declared.error.kind.ErrorKind.{ErrorKind}
use Rattle.command_line.specs.Named.{IsOfKinds}
use Rattle.command_words.specs.Words.{faults_in}
use Rattle.command_line.specs.declared.command.CommandError.{CommandError}
use Rattle.plan_commands.proofs.Posing.{meets_nothing, nothing_from}
use Rattle.program.proofs.whole.obey.Goals as goal

-- kinds among which one is are some
filled : (k : ErrorKind) (kinds : Kinds) → IsAmong k kinds → kinds ≢ []
filled k [] among none = among
filled k (x ∷ xs) among none = cc

pub returns-in-Err-Usage : goal.returns-in-Err-Usage
returns-in-Err-Usage g c =
    let side = g.R.Device.input c.args.input.now in
    let kinds = faults_in (map (λ w. string_bytes w) c.args.words.now) in
    let told = subst (IsOfKinds kinds) c.in-Err-Usage.field-0-is c.in-Err-Usage.ensures.usage in record {
      obeys = (
        nothing_from side,
        meets_nothing side,
        inr ((refl, refl, refl), refl, inl (filled (kind_of c.in-Err-Usage.error) kinds told, c.advise.ensures)),
      );
    }

pub returns-in-Err-Memory : goal.returns-in-Err-Memory
returns-in-Err-Memory g c =
    let side = g.R.Device.input c.args.input.now in record {
      obeys = (
        nothing_from side,
        meets_nothing side,
        inr (
          (refl, refl, refl),
          refl,
          inr c.end_lacking.ensures,
        ),
      );
    }
