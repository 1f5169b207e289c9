use Rattle.std.proofs.Common.{◌++◌, ◌∙◌, sym, ap, subst, drop}
use Rattle.http_jobs.specs.Reading.{left_of, Partway}
use Rattle.http_jobs.proofs.Coming.{more_comes, drop_before}
use Rattle.http_jobs.proofs.reader.ResponseReader.keep.Goals as goal

pub returns-clause-keeps : goal.returns-clause-keeps
returns-clause-keeps c = λ limits read h.
    let s = c.drop_consumed.new.self in
    let piece = c.args.piece.now in
    subst (λ l. Partway limits (read ++ piece) s.client l s.status s.body.items)
    (sym (ap (drop s.at) c.in_ok-extend_from_slice.ensures.items ∙ drop_before s.at s.unread.items piece c.drop_consumed.ensures.within))
    (more_comes limits read s.client (left_of s) s.status s.body.items piece (c.drop_consumed.ensures.keeps limits read h))
