use Rattle.std.proofs.Common.{◌++◌, ◌-◌, ◌∙◌, ℕ, Bor, List, Option, map, option_map, take, ap, sym, arith}
use Rattle.pool_commands.specs.Words.{words_after}
use Rattle.pool_commands.proofs.Lines.{words_all, words_full, words_kept}
use Rattle.pool_commands.proofs.line.first_words.Goals as goal

abbrev word_of : Bor (List ℕ) → List ℕ
word_of word = word.now

abbrev left_in : Option (Bor (List ℕ)) → List (List ℕ)
left_in rest = words_after (option_map word_of rest)

pub loop-count-preserved : goal.loop-count-preserved
loop-count-preserved c =
    let i = c.loop-count._count in
    let made = c.loop-count.words.items in
    let cut = ap left_in c.in-Some.is ∙ c.cut_word.ensures.words in
    words_kept word_of made c.push.new.self.items c.cut_word.result.0 i (left_in c.cut_word.result.1) _ c.in_ok-push.ensures.items (omega arith)
    (ap (λ ws. map word_of made ++ take (5 - i) ws) (sym cut) ∙ c.loop-count.invariant)

pub returns-in_default : goal.returns-in_default
returns-in_default c =
    let made = c.loop-count.words.items in
    let i = c.loop-count._count in
    words_all word_of made (5 - i) _ (ap (λ rest. map word_of made ++ take (5 - i) (left_in rest)) (sym c.in_default.is) ∙ c.loop-count.invariant)

pub returns : goal.returns
returns c =
    words_full word_of c.loop-count.words.items c.loop-count._count (left_in c.loop-count.rest) _ c.loop-count-test.false c.loop-count.invariant
