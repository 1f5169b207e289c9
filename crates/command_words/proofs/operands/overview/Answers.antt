use Rattle.std.proofs.Common.{◌≡◌, [], ◌∷◌, map, inl, inr, refl, true, subst, Result, Ok, Err}
use Rattle.std.specs.Prelude.{IfOk}
use Rattle.clap.specs.Kinds.{or_else}
use Rattle.clap.specs.Words.{HasKind, Kinds, fault_of, is_simple_and_free, kind_of}
use Rattle.clap.specs.declared.error.Error.{Error}
use Rattle.clap.specs.declared.error.kind.ErrorKind.TheVariants.{MissingSubcommand}
use Rattle.command_words.specs.Words as spec
use Rattle.command_words.proofs.Chain.{in_first}
use Rattle.command_words.proofs.operands.overview.Goals as goal

missing : {E : Type 0} (first : Kinds) (result : Result Error E) → first ≡ [] → IfOk result (λ e. kind_of e ≡ MissingSubcommand)
    → IfOk result (HasKind (or_else first (MissingSubcommand ∷ [])))
missing first (Ok e) none is = rw none (inr (inl is))
missing first (Err e) none is = tt

pub returns-in-Ok : goal.returns-in-Ok
returns-in-Ok g c = record {
  kinds = missing (fault_of spec.overview_app (map g.W.AsStr.text c.args.words.now)) c.error.result
      (subst (λ a. is_simple_and_free a ≡ true → fault_of a (map g.W.AsStr.text c.args.words.now) ≡ [])
      c.in_ok-program.ensures.app c.in-Ok.ensures.kinds refl) c.error.ensures.kind;
}

pub returns : goal.returns
returns g c = record {
  kinds = in_first (fault_of spec.overview_app (map g.W.AsStr.text c.args.words.now)) (MissingSubcommand ∷ []) c.in-Err.error
      (subst (λ a. is_simple_and_free a ≡ true → HasKind (fault_of a (map g.W.AsStr.text c.args.words.now)) c.in-Err.error)
      c.in_ok-program.ensures.app c.in-Err.ensures.kinds refl);
}
