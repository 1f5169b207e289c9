use Rattle.std.proofs.Common.{◌≡◌, ◌++◌, List, ℕ, [], refl, subst}
use Rattle.std.proofs.lemmas.Result.{err_from_is_err_and}
use Rattle.gear_status.specs.Status.{status}
use Rattle.gear_status.specs.Stream.{LeadsTo, meaning_with}
use Rattle.gear_status.proofs.Stream.{complete, faulty, led_on, undecided}
use Rattle.gear_status.proofs.status.load_of.Goals as goal

pub returns-in_err-feed-clause-refused : goal.returns-in_err-feed-clause-refused
returns-in_err-feed-clause-refused c =
    let ahead : (rest : List ℕ) → status ([] ++ rest) ≡ meaning_with c.new-unfinished.result rest = λ rest. rw c.new-unfinished.ensures refl in
    let p = err_from_is_err_and c.from_residual.result c.from_residual.ensures.1 in
    rw (p.1, p.2) (λ other. faulty [] c.args.text.now c.new-unfinished.result c.in_err-feed.field-0.0 ahead (c.in_err-feed.ensures.err other))

pub returns-then-branch-clause-ok : goal.returns-then-branch-clause-ok
returns-then-branch-clause-ok c =
    let ahead : (rest : List ℕ) → status ([] ++ rest) ≡ meaning_with c.new-unfinished.result rest = λ rest. rw c.new-unfinished.ensures refl in
    let done = subst (λ b. LeadsTo c.new-unfinished.result c.args.text.now c.feed.new.self b) c.if-branch.true c.in_ok-feed.ensures.ok in
    rw c.into_load.ensures (complete [] c.args.text.now c.new-unfinished.result c.feed.new.self.load ahead done)

pub returns-else-branch-clause-refused : goal.returns-else-branch-clause-refused
returns-else-branch-clause-refused c =
    let ahead : (rest : List ℕ) → status ([] ++ rest) ≡ meaning_with c.new-unfinished.result rest = λ rest. rw c.new-unfinished.ensures refl in
    let on = subst (λ b. LeadsTo c.new-unfinished.result c.args.text.now c.feed.new.self b) c.if-branch.false c.in_ok-feed.ensures.ok in
    λ _. undecided c.args.text.now c.feed.new.self c.in_ok-feed.ensures.part (led_on [] c.args.text.now c.new-unfinished.result c.feed.new.self ahead on.0)
