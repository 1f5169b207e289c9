use Rattle.std.proofs.Common.{◌≡◌, ◌∙◌, true, false, Ok, Err, ap, subst, sym}
use Rattle.std.proofs.lemmas.Result.{err_from_is_err_and}
use Rattle.gear_status.specs.Status.{is_period, line_meaning, without_return}
use Rattle.gear_status.proofs.Stream.{feed_fault, feed_line, feed_many, feed_period, more_room}
use Rattle.gear_status.proofs.reader.Unfinished.end_line.Goals as goal

pub returns-then-is_period-clause-ok : goal.returns-then-is_period-clause-ok
returns-then-is_period-clause-ok c rest =
    let period = subst (λ t. is_period t ≡ true) c.as_slice.ensures.value (sym c.if-is_period.ensures) in
    rw (← c.self.view_is) (feed_period c.self.inside.number c.self.inside.line.items rest c.self.inside.load c.self.invariant.open_line c.self.invariant.short period)

pub returns-then-self-gt-MAX_LINES-clause-err : goal.returns-then-self-gt-MAX_LINES-clause-err
returns-then-self-gt-MAX_LINES-clause-err c _ rest =
    let period = subst (λ t. is_period t ≡ false) c.as_slice.ensures.value (sym c.if-is_period.ensures) in
    rw (← c.self.view_is) (feed_many c.self.inside.number c.self.inside.line.items rest c.self.inside.load c.self.invariant.open_line c.self.invariant.short period c.if-self-gt-MAX_LINES.true)

pub returns-in_err-name-clause-err : goal.returns-in_err-name-clause-err
returns-in_err-name-clause-err c =
    let p = err_from_is_err_and c.from_residual.result c.from_residual.ensures.1 in
    let period = subst (λ t. is_period t ≡ false) c.as_slice.ensures.value (sym c.if-is_period.ensures) in
    let bare = c.without_return.ensures ∙ ap without_return c.as_slice-2.ensures.value in
    let told = subst (λ t. line_meaning c.self.inside.number t ≡ Err c.in_err-name.field-0.0) bare c.in_err-name.ensures.err in
    rw (p.1, p.2) (λ _ rest. rw (← c.self.view_is)
    (feed_fault c.self.inside.number c.self.inside.line.items rest c.self.inside.load c.self.invariant.open_line c.self.invariant.short
    c.in_err-name.field-0.0 period c.if-self-gt-MAX_LINES.false told))

pub returns-clause-ok : goal.returns-clause-ok
returns-clause-ok c =
    let period = subst (λ t. is_period t ≡ false) c.as_slice.ensures.value (sym c.if-is_period.ensures) in
    let bare = c.without_return.ensures ∙ ap without_return c.as_slice-2.ensures.value in
    let told = subst (λ t. line_meaning c.self.inside.number t ≡ Ok (c.in_ok-name.name.now, c.in_ok-name.counts)) bare c.in_ok-name.ensures.ok in (
      λ rest. rw (← c.self.view_is, c.clear.ensures.items, c.in_ok-set_counts.ensures.ok)
          (feed_line c.self.inside.number c.self.inside.line.items rest c.self.inside.load c.self.invariant.open_line c.self.invariant.short
          (c.in_ok-name.name.now, c.in_ok-name.counts) period c.if-self-gt-MAX_LINES.false told),
      rw (← c.self.view_is, c.clear.ensures.items) (more_room c.self.inside.number c.self.inside.line.items c.if-self-gt-MAX_LINES.false c.self.invariant.short),
    )
