use Rattle.std.proofs.Common.{ap, ◌∙◌, sym, subst, refl, length, get_or, ◌≡◌, ◌<◌, ℕ, Some, true, ◌+◌}
use Rattle.pool_core.specs.Book.{Book, has_closed_prefix}
use Rattle.pool_core.specs.View.{state_of, book_of}
use Rattle.pool_core.specs.Calls.{Forgets}
use Rattle.pool_core.proofs.Calls.{kept_forget, forget_tells}
use Rattle.pool_core.proofs.pool.Pool.forget.Goals as goal

pub invariant_of-self-2 : goal.invariant_of-self-2
invariant_of-self-2 c =
    let p = c.self.inside in (
      kept_forget p.settings p.chapters p.standings.forgotten p.events.items (state_of p) p.owed p.reported p.lost _ c.self.invariant.0
          (ap has_closed_prefix c.self.view_is ∙ sym c.has_closed_prefix.ensures ∙ cc)
          c.forget.new.self.items c.in_ok-job.ensures.items
          c.forget-2.new.self.items c.in_ok-standing.ensures.items
          c.forget-2.new.self.forgotten c.in_ok-standing.ensures.forgotten,
      c.in_ok-job.ensures.forgotten ∙ ap (λ n. n + 1) c.self.invariant.1 ∙ sym c.in_ok-standing.ensures.forgotten,
    )

pub returns : goal.returns
returns c =
    let p = c.self.inside in
    let prefix : has_closed_prefix (book_of p) ≡ true = ap has_closed_prefix c.self.view_is ∙ sym c.has_closed_prefix.ensures ∙ cc in
    let after = book_of (record p { jobs = c.forget.new.self; standings = c.forget-2.new.self }) in
    subst (λ (b : Book). Forgets b after (Some (record { ticket = c.new-ticket.result; job = c.in_ok-job.job; standing = c.in_ok-standing.standing }))) c.self.view_is
    (forget_tells (book_of p) after prefix c.new-ticket.result c.in_ok-job.job c.in_ok-standing.standing
    (c.new-ticket.ensures ∙ c.forgotten.ensures ∙ c.in_ok-standing.ensures.forgotten)
    (subst (λ (n : ℕ). n < length p.jobs.items) c.self.invariant.1 (c.in_ok-job.ensures.variant.0 refl))
    (subst (λ (n : ℕ). c.in_ok-job.job ≡ get_or p.jobs.items n c.in_ok-job.job) c.self.invariant.1 c.in_ok-job.ensures.value)
    (c.in_ok-standing.ensures.variant.0 refl)
    c.in_ok-standing.ensures.value
    (rw (c.in_ok-job.ensures.items, c.in_ok-standing.ensures.items, c.in_ok-standing.ensures.forgotten) refl))
