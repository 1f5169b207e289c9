use Rattle.std.proofs.Common.{ℕ, ap, refl, ◌∙◌}
use Rattle.std.specs.Global.{Vec}
use Rattle.http_jobs.proofs.outcome.left_too_often.Goals as goal

pub returns : goal.returns
returns c =
    let words = ap (λ (v : Vec ℕ). v.items) c.into_bytes.ensures.value ∙ (rw c.new-warning.ensures.bytes at c.in_ok-push_left_words.ensures) in
    record { reason = c.as_str.result.now; told = (rw words at c.in_ok-failure_with.ensures); failure = refl }
