use Rattle.std.proofs.Common.{◌≡◌, ◌++◌, drop, map}
use Rattle.farm_page.specs.Headers.{pairs}
use Rattle.http_server.specs.Response.{fields_of}
use Rattle.page_server.specs.Answers.{sent}
use Rattle.page_server.proofs.answering.put_headers.Given as goal

-- what is sent, and what is left to send
abbrev pub invariant-loop-header : goal.invariant-loop-header
invariant-loop-header l =
    (fields_of l.response ++ map sent (pairs (drop l.header-index l.headers)) ≡ fields_of l.fn.response ++ map sent (pairs l.headers))
    × (l.response.status ≡ l.fn.response.status) × (l.response.body ≡ l.fn.response.body)
