use Rattle.http_jobs.proofs.reader.ResponseReader.advance.Goals as goal

pub returns-in-Ok-TooLarge-clause-steps : goal.returns-in-Ok-TooLarge-clause-steps
returns-in-Ok-TooLarge-clause-steps c = λ limits read h.
    let steps = rw c.in-Ok-TooLarge.field-0-is at c.in-Ok-TooLarge.ensures.steps in
    steps limits read (c.loop-e.invariant.partway limits read h)
