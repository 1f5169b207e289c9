use Rattle.http_jobs.proofs.answers.send_meanwhile.Goals as goal

pub returns-clause-read : goal.returns-clause-read
returns-clause-read g c limits first seen h = rw c.limit_reads.ensures.input (c.send_rest-sent.ensures.read limits first seen h)
