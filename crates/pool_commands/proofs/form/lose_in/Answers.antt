use Rattle.std.proofs.Common.{rules, tests, ◌≢◌, ℕ, Bor, List, length}
use Rattle.pool_commands.proofs.Forms.{no_lose}
use Rattle.pool_commands.proofs.form.lose_in.Goals.{in_default-via-then-args-lt2, in_default-via-else-args-lt2+else-args-lt3}
use Rattle.pool_commands.proofs.form.lose_in.Goals as goal

abbrev word_of : Bor (List ℕ) → List ℕ
word_of word = word.now

pub returns-in_default-clause-all : goal.returns-in_default-clause-all
returns-in_default-clause-all c =
    let other : length c.args.args.now ≢ 2 = elim c.in_default.branch [
      | in_default-via-then-args-lt2 w ↦ λ e. search (rules, tests)
      | in_default-via-else-args-lt2+else-args-lt3 w ↦ λ e. search (rules, tests)
    ] in
    no_lose word_of c.args.settings.now c.args.args.now other
