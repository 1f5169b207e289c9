use Rattle.std.proofs.Common.{◌≡◌, ◌∙◌, ◌+◌, ◌-◌, ℕ, ◌||◌, Bool, true, false, ap, arith, length, rules, sym}
use Rattle.std.specs.List.{list_any, range_with_len}
use Rattle.pool_settings.specs.Rows.{may_do}
use Rattle.settings_command.proofs.Numbered.{any_more}
use Rattle.settings_command.proofs.remarks.is_listed.Goals as goal

pub returns-then-may : goal.returns-then-may
returns-then-may c =
    let lists : ℕ → Bool = λ machine. may_do c.args.settings.now machine c.args.function in
    let n = length c.args.settings.now.machines in
    let k = c.loop-number.number in
    let hit : lists c.new.result ≡ true = search rules in
    let here : lists k ≡ true = rw c.new.ensures at hit in
    sym (sym c.loop-number.invariant ∙ any_more lists n k (omega arith)
    ∙ ap (λ b. b || list_any lists (range_with_len (k + 1) (n - (k + 1)))) here)

pub loop-number-preserved : goal.loop-number-preserved
loop-number-preserved c =
    let lists : ℕ → Bool = λ machine. may_do c.args.settings.now machine c.args.function in
    let n = length c.args.settings.now.machines in
    let k = c.loop-number.number in
    let miss : lists c.new.result ≡ false = search rules in
    let here : lists k ≡ false = rw c.new.ensures at miss in
    sym (ap (λ b. b || list_any lists (range_with_len (k + 1) (n - (k + 1)))) here)
    ∙ sym (any_more lists n k (omega arith)) ∙ c.loop-number.invariant
