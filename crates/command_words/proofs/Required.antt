-- Operands that have to be there are, in each parse.
use Rattle.std.proofs.Common.{◌≡◌, Result, Ok, Err, List, [], ◌∷◌, false, ap, subst, arith}
use Rattle.std.specs.Prelude.{IfOk, ℕ, Some, pos}
use Rattle.clap.specs.Built.{AddsArg, FitsChain, HasDistinctIds, TakesValue}
use Rattle.clap.specs.Facts.{args_of, groups_of}
use Rattle.clap.specs.Lexer.{without_minus}
use Rattle.clap.specs.Matches.{found_of, one_text}
use Rattle.clap.specs.Walk.{Text, rule_of}
use Rattle.clap.specs.declared.builder.arg.Arg.{Arg}
use Rattle.clap.specs.declared.builder.command.Command.{Command}
use Rattle.clap.specs.declared.builder.command.Command.TheViews.{out-Command}
use Rattle.clap.specs.declared.builder.value_parser.ValueParser.TheVariants.{Signed}
use Rattle.clap.proofs.CallerLemmas.{required_in_chain}
use Rattle.command_words.specs.Required.{Requires, RequiresNumber}
use Rattle.command_words.specs.Words.{number}
use Rattle.command_words.proofs.Chain.{Differ, all_fit, both_fit, in_turn, one_distinct, one_fits, one_in_turn, three_distinct, three_in_turn, two_distinct}
use Rattle.command_words.proofs.Chain.{four_fit, four_in_turn}
use Rattle.command_words.proofs.Number.{second_reads}

-- a command without operands
abbrev pub IsBare : Command → Type 0
IsBare start = (args_of start ≡ []) × (groups_of start ≡ []) × ((out-Command start).has_globals ≡ false)
    × ((out-Command start).subcommand_negates_reqs ≡ false)

module _ {E : Type 0} (start : Command) (bare : IsBare start) where
  pub only : (a : Arg) (id : Text) (result : Result Command E) → IfOk result (AddsArg start a) → FitsChain a → TakesValue a → a.id.now ≡ id
      → IfOk result (Requires id)
  only a id (Ok cmd) one fits value is = λ m parsed.
      rw is at (required_in_chain start cmd (a ∷ []) 0 a m (one_in_turn start cmd a one) bare.0 bare.1 bare.2 bare.3
      (one_fits a fits) (one_distinct a) (omega arith) value parsed)
  only a id (Err e) one fits value is = tt

  pub first_of_two : (mid : Command) (a b : Arg) (id : Text) (result : Result Command E) → AddsArg start a mid → IfOk result (AddsArg mid b)
      → FitsChain a → FitsChain b → Differ a b → TakesValue a → a.id.now ≡ id → IfOk result (Requires id)
  first_of_two mid a b id (Ok cmd) one two a_fits b_fits other value is = λ m parsed.
      rw is at (required_in_chain start cmd (a ∷ b ∷ []) 0 a m (in_turn start mid cmd a b one two) bare.0 bare.1 bare.2 bare.3
      (both_fit a b a_fits b_fits) (two_distinct a b other) (omega arith) value parsed)
  first_of_two mid a b id (Err e) one two a_fits b_fits other value is = tt

  -- the number of the second of two
  pub second_of_two : (mid : Command) (a b : Arg) (id : Text) (least most : ℕ) (result : Result Command E) → AddsArg start a mid
      → IfOk result (AddsArg mid b) → FitsChain a → FitsChain b → Differ a b → TakesValue b → rule_of b ≡ number id least most
      → IfOk result (RequiresNumber id least most)
  second_of_two mid a b id least most (Ok cmd) one two a_fits b_fits other value rule = λ m parsed.
      let read = second_reads start mid cmd a b m one two bare.0 bare.1 bare.2 bare.3 a_fits b_fits other value
      (Signed (pos least) (pos most)) (ap (λ x. x.parser) rule) parsed in
      let is : b.id.now ≡ id = ap (λ x. x.id) rule in
      (read.0, subst (λ (w : List ℕ). one_text (found_of m) w ≡ Some (without_minus read.0)) is read.1, read.2)
  second_of_two mid a b id least most (Err e) one two a_fits b_fits other value rule = tt

  module _ (mid late : Command) (a b c : Arg) (id : Text) (one : AddsArg start a mid) (two : AddsArg mid b late)
      (a_fits : FitsChain a) (b_fits : FitsChain b) (c_fits : FitsChain c) (ab : Differ a b) (ac : Differ a c) (bc : Differ b c) where
    pub first_of_three : (result : Result Command E) → IfOk result (AddsArg late c) → TakesValue a → a.id.now ≡ id → IfOk result (Requires id)
    first_of_three (Ok cmd) three value is = λ m parsed.
        rw is at (required_in_chain start cmd (a ∷ b ∷ c ∷ []) 0 a m (three_in_turn start mid late cmd a b c one two three)
        bare.0 bare.1 bare.2 bare.3 (all_fit a b c a_fits b_fits c_fits) (three_distinct a b c ab ac bc) (omega arith) value parsed)
    first_of_three (Err e) three value is = tt

    pub second_of_three : (result : Result Command E) → IfOk result (AddsArg late c) → TakesValue b → b.id.now ≡ id → IfOk result (Requires id)
    second_of_three (Ok cmd) three value is = λ m parsed.
        rw is at (required_in_chain start cmd (a ∷ b ∷ c ∷ []) 1 a m (three_in_turn start mid late cmd a b c one two three)
        bare.0 bare.1 bare.2 bare.3 (all_fit a b c a_fits b_fits c_fits) (three_distinct a b c ab ac bc) (omega arith) value parsed)
    second_of_three (Err e) three value is = tt

  module _ (one two three : Command) (a b c e : Arg) (first : AddsArg start a one) (second : AddsArg one b two) (third : AddsArg two c three)
      (a_fits : FitsChain a) (b_fits : FitsChain b) (c_fits : FitsChain c) (e_fits : FitsChain e)
      (distinct : HasDistinctIds (a ∷ b ∷ c ∷ e ∷ [])) where
    pub first_of_four : (id : Text) (result : Result Command E) → IfOk result (AddsArg three e) → TakesValue a → a.id.now ≡ id → IfOk result (Requires id)
    first_of_four id (Ok cmd) last value is = λ m parsed.
        rw is at (required_in_chain start cmd (a ∷ b ∷ c ∷ e ∷ []) 0 a m (four_in_turn start one two three cmd a b c e first second third last)
        bare.0 bare.1 bare.2 bare.3 (four_fit a b c e a_fits b_fits c_fits e_fits) distinct (omega arith) value parsed)
    first_of_four id (Err x) last value is = tt

    pub second_of_four : (id : Text) (result : Result Command E) → IfOk result (AddsArg three e) → TakesValue b → b.id.now ≡ id → IfOk result (Requires id)
    second_of_four id (Ok cmd) last value is = λ m parsed.
        rw is at (required_in_chain start cmd (a ∷ b ∷ c ∷ e ∷ []) 1 a m (four_in_turn start one two three cmd a b c e first second third last)
        bare.0 bare.1 bare.2 bare.3 (four_fit a b c e a_fits b_fits c_fits e_fits) distinct (omega arith) value parsed)
    second_of_four id (Err x) last value is = tt

    pub third_of_four : (id : Text) (result : Result Command E) → IfOk result (AddsArg three e) → TakesValue c → c.id.now ≡ id → IfOk result (Requires id)
    third_of_four id (Ok cmd) last value is = λ m parsed.
        rw is at (required_in_chain start cmd (a ∷ b ∷ c ∷ e ∷ []) 2 a m (four_in_turn start one two three cmd a b c e first second third last)
        bare.0 bare.1 bare.2 bare.3 (four_fit a b c e a_fits b_fits c_fits e_fits) distinct (omega arith) value parsed)
    third_of_four id (Err x) last value is = tt
