use Rattle.std.proofs.Common.{◌∙◌, Ok, sym, ap}
use Rattle.http_jobs.specs.Reading.{left_of}
use Rattle.http_jobs.proofs.Coming.{link_ends, link_cuts}
use Rattle.http_jobs.proofs.reader.ResponseReader.close.Goals as goal

pub returns-in-Ok-End-clause-closes : goal.returns-in-Ok-End-clause-closes
returns-in-Ok-End-clause-closes c = λ limits read h w.
    let s = c.args.self.now in
    link_ends limits read s.client c.read_eof.new.self (left_of s) s.status s.body.items c.in-Ok-End.field-0-0 (sym c.read_eof.ensures.answer ∙ c.in-Ok-End.is ∙ ap Ok c.in-Ok-End.field-0-is) w h

pub returns-in_default-2-clause-closes : goal.returns-in_default-2-clause-closes
returns-in_default-2-clause-closes c = λ limits read h w.
    let s = c.args.self.now in
    link_cuts limits read (left_of s) s.client s.status s.body.items (λ count e. let both = sym c.in_default.is ∙ c.read_eof.ensures.answer ∙ e in cc) w h
