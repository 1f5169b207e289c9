use Rattle.std.proofs.Common.{◌≡◌, ◌++◌, ◌∙◌, sym, ap, subst, subst₂, drop, length, ◌<◌, Some, false, arith}
use Rattle.std.proofs.lemmas.List.{drop-drop}
use Rattle.httparse.specs.Spans.{span_bytes}
use Rattle.http1.specs.Client.{ReadsAt, RefusesAt}
use Rattle.http_jobs.specs.Reading.{left_of, Partway, IsWhole, WantsAt}
use Rattle.http_jobs.proofs.Coming.{interim_comes, final_comes, status_comes, data_comes, end_comes, rest_of, final_moves, interim_moves, data_moves, wants_more, nothing_whole, only_larger, never_answers}
use Rattle.http_jobs.proofs.reader.ResponseReader.step.Goals as goal

pub returns-in-Informational-clause-steps : goal.returns-in-Informational-clause-steps
returns-in-Informational-clause-steps c = λ limits read h.
    let s = c.args.self.now in
    let found : ReadsAt s.client.reading s.client (left_of s) c.read.new.headers c.read.new.self c.in-Ok.read = subst (λ x. ReadsAt s.client.reading s.client x c.read.new.headers c.read.new.self c.in-Ok.read) (rest_of s.at c.deref.result.now ∙ ap (drop s.at) c.deref.ensures.value) c.in-Ok.ensures.ok in
    subst (λ l. Partway limits read c.read.new.self l s.status s.body.items) (drop-drop c.in-Ok.read.consumed s.at s.unread.items)
    (interim_comes limits read (left_of s) s.client c.read.new.self c.read.new.headers c.in-Ok.read c.in-Informational.field-0 s.status s.body.items (c.read.auto.headers ∙ c.requires.spans) c.in-Informational.is found h)

pub returns-else-is_unserved-clause-steps : goal.returns-else-is_unserved-clause-steps
returns-else-is_unserved-clause-steps c = λ limits read h.
    let s = c.args.self.now in
    let found : ReadsAt s.client.reading s.client (left_of s) c.read.new.headers c.read.new.self c.in-Ok.read = subst (λ x. ReadsAt s.client.reading s.client x c.read.new.headers c.read.new.self c.in-Ok.read) (rest_of s.at c.deref.result.now ∙ ap (drop s.at) c.deref.ensures.value) c.in-Ok.ensures.ok in
    subst (λ l. Partway limits read c.read.new.self l (Some c.in-Head.head.code) s.body.items) (drop-drop c.in-Ok.read.consumed s.at s.unread.items)
    (final_comes limits read (left_of s) s.client c.read.new.self c.read.new.headers c.in-Ok.read c.in-Head.head s.status s.body.items (c.read.auto.headers ∙ c.requires.spans) (sym c.is_unserved.ensures ∙ c.if-is_unserved.false) c.in-Head.is found h)

pub returns-then-is_unserved-clause-steps : goal.returns-then-is_unserved-clause-steps
returns-then-is_unserved-clause-steps c = λ limits read h.
    let s = c.args.self.now in
    let found : ReadsAt s.client.reading s.client (left_of s) c.read.new.headers c.read.new.self c.in-Ok.read = subst (λ x. ReadsAt s.client.reading s.client x c.read.new.headers c.read.new.self c.in-Ok.read) (rest_of s.at c.deref.result.now ∙ ap (drop s.at) c.deref.ensures.value) c.in-Ok.ensures.ok in
    status_comes limits read (left_of s) s.client c.read.new.self c.read.new.headers c.in-Ok.read c.in-Head.head s.status s.body.items (sym c.is_unserved.ensures ∙ c.if-is_unserved.true) c.in-Head.is found h

pub returns-else-len-max_body-clause-steps : goal.returns-else-len-max_body-clause-steps
returns-else-len-max_body-clause-steps c = λ limits read h.
    let s = c.args.self.now in
    let found : ReadsAt s.client.reading s.client (left_of s) c.read.new.headers c.read.new.self c.in-Ok.read = subst (λ x. ReadsAt s.client.reading s.client x c.read.new.headers c.read.new.self c.in-Ok.read) (rest_of s.at c.deref.result.now ∙ ap (drop s.at) c.deref.ensures.value) c.in-Ok.ensures.ok in
    let grown : s.body.items ++ span_bytes (left_of s) c.in-Data.span ≡ c.extend_from_slice.new.self.items = ap (λ x. s.body.items ++ span_bytes x c.in-Data.span) (sym (rest_of s.at c.deref.result.now ∙ ap (drop s.at) c.deref.ensures.value)) ∙ ap (λ x. s.body.items ++ x) (sym c.of-piece.ensures) ∙ sym c.in-Ok-extend_from_slice.ensures.items in
    subst₂ (λ l b. Partway limits read c.read.new.self l s.status b) (drop-drop c.in-Ok.read.consumed s.at s.unread.items) grown
    (data_comes limits read (left_of s) s.client c.read.new.self c.read.new.headers c.in-Ok.read c.in-Data.span s.status s.body.items c.in-Data.is found h)

pub returns-then-len-max_body-clause-steps : goal.returns-then-len-max_body-clause-steps
returns-then-len-max_body-clause-steps c = λ limits read h.
    let s = c.args.self.now in
    let found : ReadsAt s.client.reading s.client (left_of s) c.read.new.headers c.read.new.self c.in-Ok.read = subst (λ x. ReadsAt s.client.reading s.client x c.read.new.headers c.read.new.self c.in-Ok.read) (rest_of s.at c.deref.result.now ∙ ap (drop s.at) c.deref.ensures.value) c.in-Ok.ensures.ok in
    let grown : s.body.items ++ span_bytes (left_of s) c.in-Data.span ≡ c.extend_from_slice.new.self.items = ap (λ x. s.body.items ++ span_bytes x c.in-Data.span) (sym (rest_of s.at c.deref.result.now ∙ ap (drop s.at) c.deref.ensures.value)) ∙ ap (λ x. s.body.items ++ x) (sym c.of-piece.ensures) ∙ sym c.in-Ok-extend_from_slice.ensures.items in
    let comes = data_comes limits read (left_of s) s.client c.read.new.self c.read.new.headers c.in-Ok.read c.in-Data.span s.status s.body.items c.in-Data.is found h in
    only_larger limits read c.read.new.self (drop c.in-Ok.read.consumed (left_of s)) s.status (s.body.items ++ span_bytes (left_of s) c.in-Data.span) c.args.max_body (subst (λ b. c.args.max_body < length b) (sym grown) (omega (arith, c.if-len-max_body.true, c.len.ensures))) comes

pub returns-in-Err-clause-steps : goal.returns-in-Err-clause-steps
returns-in-Err-clause-steps c = λ limits read h.
    let s = c.args.self.now in
    let refuses : RefusesAt s.client.reading s.client (left_of s) (length c.args.spans.now) c.in-Err.e = subst (λ x. RefusesAt s.client.reading s.client x (length c.args.spans.now) c.in-Err.e) (rest_of s.at c.deref.result.now ∙ ap (drop s.at) c.deref.ensures.value) c.in-Err.ensures.err in
    never_answers limits read (left_of s) s.client (length c.args.spans.now) c.in-Err.e s.status s.body.items c.requires.spans refuses h

pub returns-in-NeedMore-clause-steps : goal.returns-in-NeedMore-clause-steps
returns-in-NeedMore-clause-steps c = λ limits read h.
    let s = c.args.self.now in
    let found : ReadsAt s.client.reading s.client (left_of s) c.read.new.headers c.read.new.self c.in-Ok.read = subst (λ x. ReadsAt s.client.reading s.client x c.read.new.headers c.read.new.self c.in-Ok.read) (rest_of s.at c.deref.result.now ∙ ap (drop s.at) c.deref.ensures.value) c.in-Ok.ensures.ok in
    let same = drop-drop c.in-Ok.read.consumed s.at s.unread.items in (
      subst (λ l. Partway limits read c.read.new.self l s.status s.body.items) same
          (wants_more limits read (left_of s) s.client c.read.new.self c.read.new.headers c.in-Ok.read s.status s.body.items c.in-NeedMore.is found h),
      subst (λ l. WantsAt c.read.new.self.reading limits read l) same
          (nothing_whole limits read (left_of s) s.client c.read.new.self c.read.new.headers c.in-Ok.read s.status s.body.items c.in-NeedMore.is found h),
    )

pub returns-in-End-clause-steps : goal.returns-in-End-clause-steps
returns-in-End-clause-steps c = λ limits read h.
    let s = c.args.self.now in
    let found : ReadsAt s.client.reading s.client (left_of s) c.read.new.headers c.read.new.self c.in-Ok.read = subst (λ x. ReadsAt s.client.reading s.client x c.read.new.headers c.read.new.self c.in-Ok.read) (rest_of s.at c.deref.result.now ∙ ap (drop s.at) c.deref.ensures.value) c.in-Ok.ensures.ok in
    subst (λ l. IsWhole limits read c.read.new.self l s.status s.body.items false) (drop-drop c.in-Ok.read.consumed s.at s.unread.items)
    (end_comes limits read (left_of s) s.client c.read.new.self c.read.new.headers c.in-Ok.read c.in-End.field-0 s.status s.body.items (c.read.auto.headers ∙ c.requires.spans) c.in-End.is found h)

pub returns-in-Informational-clause-progress : goal.returns-in-Informational-clause-progress
returns-in-Informational-clause-progress c = λ _.
    let s = c.args.self.now in
    let found : ReadsAt s.client.reading s.client (left_of s) c.read.new.headers c.read.new.self c.in-Ok.read = subst (λ x. ReadsAt s.client.reading s.client x c.read.new.headers c.read.new.self c.in-Ok.read) (rest_of s.at c.deref.result.now ∙ ap (drop s.at) c.deref.ensures.value) c.in-Ok.ensures.ok in
    let moved = interim_moves s.client c.read.new.self (left_of s) c.read.new.headers c.in-Ok.read c.in-Informational.field-0 c.in-Informational.is found in
    omega (arith, moved)

pub returns-else-is_unserved-clause-progress : goal.returns-else-is_unserved-clause-progress
returns-else-is_unserved-clause-progress c = λ _.
    let s = c.args.self.now in
    let found : ReadsAt s.client.reading s.client (left_of s) c.read.new.headers c.read.new.self c.in-Ok.read = subst (λ x. ReadsAt s.client.reading s.client x c.read.new.headers c.read.new.self c.in-Ok.read) (rest_of s.at c.deref.result.now ∙ ap (drop s.at) c.deref.ensures.value) c.in-Ok.ensures.ok in
    let moved = final_moves s.client c.read.new.self (left_of s) c.read.new.headers c.in-Ok.read c.in-Head.head c.in-Head.is found in
    omega (arith, moved)

pub returns-else-len-max_body-clause-progress : goal.returns-else-len-max_body-clause-progress
returns-else-len-max_body-clause-progress c = λ _.
    let s = c.args.self.now in
    let found : ReadsAt s.client.reading s.client (left_of s) c.read.new.headers c.read.new.self c.in-Ok.read = subst (λ x. ReadsAt s.client.reading s.client x c.read.new.headers c.read.new.self c.in-Ok.read) (rest_of s.at c.deref.result.now ∙ ap (drop s.at) c.deref.ensures.value) c.in-Ok.ensures.ok in
    let moved = data_moves s.client c.read.new.self (left_of s) c.read.new.headers c.in-Ok.read c.in-Data.span c.in-Data.is found in
    omega (arith, moved)
