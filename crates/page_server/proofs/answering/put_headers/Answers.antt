use Rattle.std.proofs.Common.{◌∙◌, ◌∷◌, [], ◌++◌, ap, List, ℕ}
use Rattle.http_header.specs.Token.{lowercase}
use Rattle.http_server.specs.Response.{fields_of}
use Rattle.page_server.proofs.Sending.{header_step}
use Rattle.page_server.proofs.answering.put_headers.Goals as goal

pub loop-header-preserved : goal.loop-header-preserved
loop-header-preserved c =
    let before = fields_of c.loop-header.response in
    let name : List ℕ = lowercase c.header-item.result.name.now in (
      header_step c.args.headers.now c.loop-header.header-index c.header-item.result _ _ _ c.loop-header-test.true c.header-item.is
          (c.in_ok-put_header.ensures.headers ∙ ap (λ (v : List ℕ). before ++ (name, v) ∷ []) c.as_str.ensures.value) c.loop-header.invariant.0,
      c.put_header.ensures.status ∙ c.loop-header.invariant.1,
      c.put_header.ensures.body ∙ c.loop-header.invariant.2,
    )
