-- What `get_one` reads of the second of two operands, where it is a number.
use Rattle.std.proofs.Common.{◌≡◌, ◌∙◌, ◌<◌, ◌≤◌, ◌^◌, ◌++◌, ◌||◌, ap, ℕ, zero, suc, Bool, true, false, List, [], ◌∷◌, length, Option, Some, None, Result, Ok, refl, sym, subst, inl, inr, arith}
use Rattle.std.specs.Prelude.{option_map, pos}
use Rattle.std.specs.List.{All, slice_index_or}
use Rattle.std.specs.Str.{bytes_eq}
use Rattle.std.specs.Str.Parse.{ParsesUnsigned}
use Rattle.std.proofs.lemmas.Bool.{false≢true}
use Rattle.std.proofs.lemmas.List.Elements.{All-nil}
use Rattle.clap.specs.Lexer.{without_minus}
use Rattle.clap.specs.Facts.{args_of, groups_of, least_values}
use Rattle.clap.specs.Built.{AddsArg, FitsChain, IsParsedFrom, IsPlain, IsPlainArg, TakesValue}
use Rattle.clap.specs.Matches.{ReadsOne, found_of, one_text}
use Rattle.clap.specs.Values.{Accepts, IsSignedIn, read_as, reading_of}
use Rattle.clap.specs.Walk.{one_of, rows_of}
use Rattle.clap.specs.declared.builder.action.ArgAction.TheVariants.{Set}
use Rattle.clap.specs.declared.builder.arg.Arg.{Arg}
use Rattle.clap.specs.declared.builder.command.Command.{Command}
use Rattle.clap.specs.declared.builder.command.Command.TheViews.{out-Command}
use Rattle.clap.specs.declared.builder.value_parser.ValueParser.{ValueParser}
use Rattle.clap.specs.declared.parser.matches.ArgMatches.{ArgMatches}
use Rattle.clap.specs.declared.parser.matches.Found.{Found}
use Rattle.clap.proofs.CallerLemmas.{added_plain}
use Rattle.clap.proofs.CallerReads.{required_reads, signed_reads}
use Rattle.clap.proofs.WalkLemmas.{one_text-rows}
use Rattle.command_words.specs.Words.{number_in}
use Rattle.command_words.proofs.Chain.{Differ}

-- no argument of the two but the second has the second's id
only_second : (a b : Arg) (xs : List Arg) → xs ≡ a ∷ b ∷ [] → bytes_eq a.id.now b.id.now ≡ false
    → (d : Arg) (j : ℕ) (e : Arg) → j < length xs → bytes_eq (slice_index_or xs j e).id.now (slice_index_or xs 1 d).id.now ≡ true → j ≡ 1
only_second a b xs list other d j e low same =
    go j (subst (λ l. j < length l) list low) (subst (λ l. bytes_eq (slice_index_or l j e).id.now (slice_index_or l 1 d).id.now ≡ true) list same)
  where
    go : (i : ℕ) → i < 2 → bytes_eq (slice_index_or (a ∷ b ∷ []) i e).id.now b.id.now ≡ true → i ≡ 1
    go zero lt s = absurd (false≢true (sym other ∙ s))
    go (suc zero) lt s = refl
    go (suc (suc i)) lt s = absurd (omega arith)

-- the second of two arguments, required and with a parser, has a text that passed the parser, and is read as the parser says
pub second_reads : (start mid cmd : Command) (a b : Arg) (m : ArgMatches) → AddsArg start a mid → AddsArg mid b cmd
    → args_of start ≡ [] → groups_of start ≡ [] → (out-Command start).has_globals ≡ false → (out-Command start).subcommand_negates_reqs ≡ false
    → FitsChain a → FitsChain b → Differ a b → TakesValue b → (q : ValueParser) → b.value_parser ≡ Some q → IsParsedFrom cmd m
    → (t : List ℕ) × (one_text (found_of m) b.id.now ≡ Some (read_as (reading_of q) t)) × Accepts b.ignore_case q t
second_reads start mid cmd a b m one two args groups globals negates a_fits b_fits other value q parser p =
    let list : args_of cmd ≡ one.arg ∷ two.arg ∷ [] = two.args ∙ ap (λ l. l ++ two.arg ∷ []) (one.args ∙ ap (λ l. l ++ one.arg ∷ []) args) in
    let start_plain : IsPlain start = (subst (All IsPlainArg) (sym args) (All-nil IsPlainArg), groups) in
    let plain = added_plain mid cmd b two (added_plain start mid a one start_plain a_fits.0) b_fits.0 in
    let mid_local : (out-Command mid).has_globals ≡ false = one.globals ∙ (ap (λ g. g || a.global) globals ∙ ap (λ g. false || g) a_fits.1) in
    let local : (out-Command cmd).has_globals ≡ false = two.globals ∙ (ap (λ g. g || b.global) mid_local ∙ ap (λ g. false || g) b_fits.1) in
    let elem : slice_index_or (args_of cmd) 1 b ≡ two.arg = ap (λ l. slice_index_or l 1 b) list in
    let lt : 1 < length (args_of cmd) = subst (λ l. 1 < length l) (sym list) (omega arith) in
    let same_now : (slice_index_or (args_of cmd) 1 b).id.now ≡ b.id.now = ap (λ x. x.id.now) elem ∙ ap (λ i. i.now) two.rules.id in
    let distinct : bytes_eq one.arg.id.now two.arg.id.now ≡ false = rw (one.rules.id, two.rules.id) other.0 in
    let wanted : (slice_index_or (args_of cmd) 1 b).required ≡ true = ap (λ x. x.required) elem ∙ (two.rules.required ∙ value.0) in
    let is_set : (slice_index_or (args_of cmd) 1 b).action ≡ Some Set = ap (λ x. x.action) elem ∙ two.rules.action Set value.1 in
    let no_delim : (slice_index_or (args_of cmd) 1 b).val_delim ≡ None = ap (λ x. x.val_delim) elem ∙ (two.rules.val_delim ∙ value.2) in
    let some_value : 1 ≤ least_values (slice_index_or (args_of cmd) 1 b) = subst (λ x. 1 ≤ least_values x) (sym elem) (two.rules.least value.1 value.3) in
    let same_parser : (slice_index_or (args_of cmd) 1 b).value_parser ≡ Some q = ap (λ x. x.value_parser) elem ∙ two.rules.parser q parser in
    let same_case : (slice_index_or (args_of cmd) 1 b).ignore_case ≡ b.ignore_case = ap (λ x. x.ignore_case) elem ∙ two.rules.ignore_case in
    let got = required_reads cmd m p plain local (two.negates ∙ (one.negates ∙ negates)) 1 b lt wanted is_set no_delim some_value
    (only_second one.arg two.arg (args_of cmd) list distinct b)
    (λ empty. b_fits.2 (sym same_now ∙ empty))
    (λ auto. b_fits.3 (elim auto [ inl h ↦ inl (sym same_now ∙ h) | inr h ↦ inr (sym same_now ∙ h) ]))
    q same_parser in (
      got.0,
      subst (λ (w : List ℕ). one_text (found_of m) w ≡ Some (read_as (reading_of q) got.0)) same_now got.1,
      subst (λ (c : Bool). Accepts c q got.0) same_case got.2,
    )

-- what `get_one` reads of a text is the number of its digits
read_is_number : {E : Type 0} (G : List ℕ → Result ℕ E → Type 0) (k : ℕ) (u : List ℕ) (n : ℕ)
    → ((w : List ℕ) (x : Result ℕ E) → G w x → ParsesUnsigned k 10 w x) → ReadsOne G u (Some n) → n ≡ number_in u
read_is_number G k u n only read = (only u (Ok n) read).1

-- `get_one` of an operand whose text passed a range without negative numbers gives a number in the range, that of the text
pub number_given : {E : Type 0} (G : List ℕ → Result ℕ E → Type 0) (k low high : ℕ) (f : Found) (id t : List ℕ) (r : Option ℕ)
    → ((u : List ℕ) → one_text f id ≡ Some u → ReadsOne G u r)
    → ((w : List ℕ) (x : Result ℕ E) → G w x → ParsesUnsigned k 10 w x) → high < 2 ^ k
    → one_text f id ≡ Some (without_minus t) → IsSignedIn (pos low) (pos high) t
    → (n : ℕ) × (r ≡ Some n) × (low ≤ n) × (n ≤ high) × (option_map number_in (one_of id (rows_of f)) ≡ Some n)
number_given {E} G k low high f id t r reads only small text passed =
    let read = reads (without_minus t) text in
    let got = signed_reads E G k low high t r read only small passed in
    let is : got.0 ≡ number_in (without_minus t) = read_is_number G k (without_minus t) got.0 only (subst (ReadsOne G (without_minus t)) got.1 read) in (
      got.0,
      got.1,
      got.2,
      got.3,
      ap (option_map number_in) (sym (one_text-rows f id) ∙ text) ∙ ap (λ n. Some n) (sym is),
    )
