-- A command of several arguments, added one by one.
use Rattle.std.proofs.Common.{◌≡◌, ◌<◌, Result, Ok, Err, slice_index, codes, inl, inr, ℕ, zero, suc, List, [], ◌∷◌, map, false, refl, ap, sym, ◌∙◌, arith}
use Rattle.std.specs.List.{All}
use Rattle.std.specs.Prelude.{IfOk, IsOkAnd}
use Rattle.std.specs.Str.{bytes_eq}
use Rattle.std.proofs.lemmas.Bool.{false≢true}
use Rattle.std.proofs.lemmas.List.Elements.{All-from_recursion}
use Rattle.clap.specs.Built.{AddsArg, AddsInTurn, AddsSubcommand, FitsChain, HasDistinctIds, IsPlainArg}
use Rattle.clap.specs.Kinds.{or_else}
use Rattle.clap.specs.Simple.{App, app_of, with_subcommand}
use Rattle.clap.specs.Walk.{Rule, rule_of}
use Rattle.clap.specs.declared.builder.arg.Arg.{Arg}
use Rattle.clap.specs.Words.{HasKind, Kinds}
use Rattle.clap.specs.declared.builder.command.Command.{Command}
use Rattle.clap.specs.declared.builder.command.Command.TheViews.{out-Command}
use Rattle.clap.specs.declared.error.Error.{Error}
use Rattle.command_words.specs.Words.{with_rules}

-- two ids that differ, either way round
abbrev pub Differ : Arg → Arg → Type 0
Differ a b = (bytes_eq a.id.now b.id.now ≡ false) × (bytes_eq b.id.now a.id.now ≡ false)

pub two_distinct : (a b : Arg) → Differ a b → HasDistinctIds (a ∷ b ∷ [])
two_distinct a b ab zero zero d e h k s = refl
two_distinct a b ab zero (suc zero) d e h k s = absurd (false≢true (sym ab.0 ∙ s))
two_distinct a b ab (suc zero) zero d e h k s = absurd (false≢true (sym ab.1 ∙ s))
two_distinct a b ab (suc zero) (suc zero) d e h k s = refl
two_distinct a b ab (suc (suc j)) k d e h l s = absurd (omega arith)
two_distinct a b ab j (suc (suc k)) d e h l s = absurd (omega arith)

pub three_distinct : (a b c : Arg) → Differ a b → Differ a c → Differ b c → HasDistinctIds (a ∷ b ∷ c ∷ [])
three_distinct a b c ab ac bc zero zero d e h k s = refl
three_distinct a b c ab ac bc zero (suc zero) d e h k s = absurd (false≢true (sym ab.0 ∙ s))
three_distinct a b c ab ac bc zero (suc (suc zero)) d e h k s = absurd (false≢true (sym ac.0 ∙ s))
three_distinct a b c ab ac bc (suc zero) zero d e h k s = absurd (false≢true (sym ab.1 ∙ s))
three_distinct a b c ab ac bc (suc zero) (suc zero) d e h k s = refl
three_distinct a b c ab ac bc (suc zero) (suc (suc zero)) d e h k s = absurd (false≢true (sym bc.0 ∙ s))
three_distinct a b c ab ac bc (suc (suc zero)) zero d e h k s = absurd (false≢true (sym ac.1 ∙ s))
three_distinct a b c ab ac bc (suc (suc zero)) (suc zero) d e h k s = absurd (false≢true (sym bc.1 ∙ s))
three_distinct a b c ab ac bc (suc (suc zero)) (suc (suc zero)) d e h k s = refl
three_distinct a b c ab ac bc (suc (suc (suc j))) k d e h l s = absurd (omega arith)
three_distinct a b c ab ac bc j (suc (suc (suc k))) d e h l s = absurd (omega arith)

pub four_distinct : (a b c e : Arg) → Differ a b → Differ a c → Differ a e → Differ b c → Differ b e → Differ c e → HasDistinctIds (a ∷ b ∷ c ∷ e ∷ [])
four_distinct a b c e ab ac ae bc be ce zero zero d h k l s = refl
four_distinct a b c e ab ac ae bc be ce zero (suc zero) d h k l s = absurd (false≢true (sym ab.0 ∙ s))
four_distinct a b c e ab ac ae bc be ce zero (suc (suc zero)) d h k l s = absurd (false≢true (sym ac.0 ∙ s))
four_distinct a b c e ab ac ae bc be ce zero (suc (suc (suc zero))) d h k l s = absurd (false≢true (sym ae.0 ∙ s))
four_distinct a b c e ab ac ae bc be ce (suc zero) zero d h k l s = absurd (false≢true (sym ab.1 ∙ s))
four_distinct a b c e ab ac ae bc be ce (suc zero) (suc zero) d h k l s = refl
four_distinct a b c e ab ac ae bc be ce (suc zero) (suc (suc zero)) d h k l s = absurd (false≢true (sym bc.0 ∙ s))
four_distinct a b c e ab ac ae bc be ce (suc zero) (suc (suc (suc zero))) d h k l s = absurd (false≢true (sym be.0 ∙ s))
four_distinct a b c e ab ac ae bc be ce (suc (suc zero)) zero d h k l s = absurd (false≢true (sym ac.1 ∙ s))
four_distinct a b c e ab ac ae bc be ce (suc (suc zero)) (suc zero) d h k l s = absurd (false≢true (sym bc.1 ∙ s))
four_distinct a b c e ab ac ae bc be ce (suc (suc zero)) (suc (suc zero)) d h k l s = refl
four_distinct a b c e ab ac ae bc be ce (suc (suc zero)) (suc (suc (suc zero))) d h k l s = absurd (false≢true (sym ce.0 ∙ s))
four_distinct a b c e ab ac ae bc be ce (suc (suc (suc zero))) zero d h k l s = absurd (false≢true (sym ae.1 ∙ s))
four_distinct a b c e ab ac ae bc be ce (suc (suc (suc zero))) (suc zero) d h k l s = absurd (false≢true (sym be.1 ∙ s))
four_distinct a b c e ab ac ae bc be ce (suc (suc (suc zero))) (suc (suc zero)) d h k l s = absurd (false≢true (sym ce.1 ∙ s))
four_distinct a b c e ab ac ae bc be ce (suc (suc (suc zero))) (suc (suc (suc zero))) d h k l s = refl
four_distinct a b c e ab ac ae bc be ce (suc (suc (suc (suc i)))) j d h k l s = absurd (omega arith)
four_distinct a b c e ab ac ae bc be ce i (suc (suc (suc (suc j)))) d h k l s = absurd (omega arith)

-- an argument whose id begins neither as `help` nor as `version`, and is there
pub fits : (a : Arg) (first : ℕ) (name : List ℕ) → IsPlainArg a → a.global ≡ false → a.id.now ≡ name → slice_index name 0 ≡ first
    → (first ≡ 104 → ⊥) × (first ≡ 118 → ⊥) → 0 < first → FitsChain a
fits a first name plain local is begins others some =
    let at : (t : List ℕ) → a.id.now ≡ t → slice_index t 0 ≡ first = λ t e. rw (← e, is) begins in (
      plain,
      local,
      λ e. let bad : 0 ≡ first = at [] e in absurd (omega arith),
      λ auto. elim auto [
        | inl h ↦ others.0 (let same : 104 ≡ first = at (codes "help") h in omega arith)
        | inr h ↦ others.1 (let same : 118 ≡ first = at (codes "version") h in omega arith)
      ],
    )

-- the command that arguments make, one after the other
pub app_of_chain : (start cmd : Command) (xs : List Arg) → AddsInTurn AddsArg start xs cmd → All FitsChain xs
    → app_of cmd ≡ with_rules (app_of start) (map rule_of xs)
app_of_chain start cmd [] same fit = ap app_of (sym same)
app_of_chain start cmd (x ∷ xs) chain fit =
    let local = (fit 0 x (omega arith)).1 in
    app_of_chain chain.0 cmd xs chain.2 (λ k d lt. fit (suc k) d (omega arith))
    ∙ ap (λ app. with_rules app (map rule_of xs)) (chain.1.shape local)

pub differ : (a b : Arg) (x y : List ℕ) → a.id.now ≡ x → b.id.now ≡ y → bytes_eq x y ≡ false → bytes_eq y x ≡ false → Differ a b
differ a b x y is also xy yx = (rw (is, also) xy, rw (is, also) yx)

pub both_fit : (a b : Arg) → FitsChain a → FitsChain b → All FitsChain (a ∷ b ∷ [])
both_fit a b fa fb = All-from_recursion FitsChain (a ∷ b ∷ []) (fa, (fb, tt))

pub all_fit : (a b c : Arg) → FitsChain a → FitsChain b → FitsChain c → All FitsChain (a ∷ b ∷ c ∷ [])
all_fit a b c fa fb fc = All-from_recursion FitsChain (a ∷ b ∷ c ∷ []) (fa, (fb, (fc, tt)))

pub in_turn : (old mid new : Command) (a b : Arg) → AddsArg old a mid → AddsArg mid b new → AddsInTurn AddsArg old (a ∷ b ∷ []) new
in_turn old mid new a b one two = (mid, one, (new, two, refl))

pub three_in_turn : (old one two new : Command) (a b c : Arg) → AddsArg old a one → AddsArg one b two → AddsArg two c new
    → AddsInTurn AddsArg old (a ∷ b ∷ c ∷ []) new
three_in_turn old one two new a b c first second third = (one, first, (two, second, (new, third, refl)))

pub four_fit : (a b c e : Arg) → FitsChain a → FitsChain b → FitsChain c → FitsChain e → All FitsChain (a ∷ b ∷ c ∷ e ∷ [])
four_fit a b c e fa fb fc fe = All-from_recursion FitsChain (a ∷ b ∷ c ∷ e ∷ []) (fa, (fb, (fc, (fe, tt))))

pub four_in_turn : (old one two three new : Command) (a b c e : Arg) → AddsArg old a one → AddsArg one b two → AddsArg two c three → AddsArg three e new
    → AddsInTurn AddsArg old (a ∷ b ∷ c ∷ e ∷ []) new
four_in_turn old one two three new a b c e first second third last = (one, first, (two, second, (three, third, (new, last, refl))))

-- one argument
pub one_distinct : (a : Arg) → HasDistinctIds (a ∷ [])
one_distinct a zero zero d e h k s = refl
one_distinct a (suc j) k d e h l s = absurd (omega arith)
one_distinct a j (suc k) d e h l s = absurd (omega arith)

pub one_fits : (a : Arg) → FitsChain a → All FitsChain (a ∷ [])
one_fits a fa = All-from_recursion FitsChain (a ∷ []) (fa, tt)

pub one_in_turn : (old new : Command) (a : Arg) → AddsArg old a new → AddsInTurn AddsArg old (a ∷ []) new
one_in_turn old new a one = (new, one, refl)

-- the command that one argument makes
pub app_of_one : (start cmd : Command) (a : Arg) → AddsArg start a cmd → FitsChain a
    → {app : App} → app_of start ≡ app → {r : Rule} → rule_of a ≡ r → app_of cmd ≡ with_rules app (r ∷ [])
app_of_one start cmd a one a_fits whole a_rule =
    rw (← whole, ← a_rule) (app_of_chain start cmd (a ∷ []) (one_in_turn start cmd a one) (one_fits a a_fits))

-- two
pub app_of_two : (start mid cmd : Command) (a b : Arg) → AddsArg start a mid → AddsArg mid b cmd → FitsChain a → FitsChain b
    → {app : App} → app_of start ≡ app → {r t : Rule} → rule_of a ≡ r → rule_of b ≡ t → app_of cmd ≡ with_rules app (r ∷ t ∷ [])
app_of_two start mid cmd a b one two a_fits b_fits whole a_rule b_rule =
    rw (← whole, ← a_rule, ← b_rule) (app_of_chain start cmd (a ∷ b ∷ []) (in_turn start mid cmd a b one two) (both_fit a b a_fits b_fits))

-- and three
pub app_of_three : (start one two cmd : Command) (a b c : Arg) → AddsArg start a one → AddsArg one b two → AddsArg two c cmd
    → FitsChain a → FitsChain b → FitsChain c
    → {app : App} → app_of start ≡ app → {r s t : Rule} → rule_of a ≡ r → rule_of b ≡ s → rule_of c ≡ t → app_of cmd ≡ with_rules app (r ∷ s ∷ t ∷ [])
app_of_three start one two cmd a b c first second third a_fits b_fits c_fits whole a_rule b_rule c_rule =
    rw (← whole, ← a_rule, ← b_rule, ← c_rule)
    (app_of_chain start cmd (a ∷ b ∷ c ∷ []) (three_in_turn start one two cmd a b c first second third) (all_fit a b c a_fits b_fits c_fits))

-- and four
pub app_of_four : (start one two three cmd : Command) (a b c e : Arg) → AddsArg start a one → AddsArg one b two → AddsArg two c three → AddsArg three e cmd
    → FitsChain a → FitsChain b → FitsChain c → FitsChain e
    → {app : App} → app_of start ≡ app → {r s t u : Rule} → rule_of a ≡ r → rule_of b ≡ s → rule_of c ≡ t → rule_of e ≡ u
    → app_of cmd ≡ with_rules app (r ∷ s ∷ t ∷ u ∷ [])
app_of_four start one two three cmd a b c e first second third last a_fits b_fits c_fits e_fits whole a_rule b_rule c_rule e_rule =
    rw (← whole, ← a_rule, ← b_rule, ← c_rule, ← e_rule)
    (app_of_chain start cmd (a ∷ b ∷ c ∷ e ∷ []) (four_in_turn start one two three cmd a b c e first second third last) (four_fit a b c e a_fits b_fits c_fits e_fits))

-- an error of the first list is one of either
pub in_first : (first second : Kinds) (error : Error) → HasKind first error → HasKind (or_else first second) error
in_first first second error (inl memory) = inl memory
in_first [] second error (inr among) = absurd among
in_first (k ∷ ks) second error (inr among) = inr among

-- a command to which one without global arguments was added
pub app_with_subcommand : (old sub new : Command) → AddsSubcommand old sub new → (out-Command sub).has_globals ≡ false
    → {app below : App} → app_of old ≡ app → app_of sub ≡ below → app_of new ≡ with_subcommand app below.top
app_with_subcommand old sub new adds local whole part = rw (← whole, ← part) (adds.shape local)

-- the same of one that could be made
pub app_added : {E : Type 0} (old new : Command) (made : Result Command E) → IsOkAnd made (λ c. AddsSubcommand old c new)
    → IfOk made (λ c. (out-Command c).has_globals ≡ false) → {app : App} → app_of old ≡ app
    → (below : App) → IfOk made (λ c. app_of c ≡ below) → app_of new ≡ with_subcommand app below.top
app_added old new (Ok sub) adds local whole below part = app_with_subcommand old sub new adds local whole part
app_added old new (Err e) adds local whole below part = absurd adds

pub app_if_added : {E : Type 0} (old : Command) (made result : Result Command E)
    → IfOk result (λ new. IsOkAnd made (λ c. AddsSubcommand old c new)) → IfOk made (λ c. (out-Command c).has_globals ≡ false)
    → {app : App} → app_of old ≡ app → (below : App) → IfOk made (λ c. app_of c ≡ below)
    → IfOk result (λ new. app_of new ≡ with_subcommand app below.top)
app_if_added old made (Ok new) adds local whole below part = app_added old new made adds local whole below part
app_if_added old made (Err e) adds local whole below part = tt
