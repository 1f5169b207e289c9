use Rattle.std.proofs.Common.{◌≡◌, ◌∙◌, ℕ, ◌<◌, ◌^◌, List, [], ◌∷◌, ◌++◌, ap, subst, sym, None, arith, append_assoc}
use Rattle.http1.specs.Head.{pairs, request_text}
use Rattle.http1.specs.declared.client.Client.{Client}
use Rattle.http1.specs.Client.{new_client, request_refusal, planned_request, writing, with_writing, after_request, after_end}
use Rattle.http1.specs.Conn.{data_refusal, finish_text, finish_refusal, length_header, after_data}
use Rattle.http1.specs.declared.conn.BodySize.TheVariants.{Known}
use Rattle.http_jobs.specs.Reading.{HasAsked}
use Rattle.std.proofs.lemmas.Result.{err_from_is_err_and}
use Rattle.http_jobs.proofs.Accepted.{head_accepted, data_accepted, end_accepted}
use Rattle.http_jobs.proofs.Asking.{POST, says_head, has_asked, never_refused, not_refused, only_memory}
use Rattle.http_jobs.proofs.posts.write_post.Goals as goal

pub returns-clause-text : goal.returns-clause-text
returns-clause-text c =
    let client = c.args.client.now in
    let body = c.args.post.now.body.now in
    let n = c.len_of-size.result in
    let target = c.args.post.now.target.now in
    let hs = pairs c.args.post.now.headers.now in
    let accepted : request_refusal client POST target (Known n) hs ≡ None = not_refused _ _ _ _ c.in_ok-write_request.ensures.outcome in
    let asking = after_request client POST (Known n) hs in
    let one : c.write_request.new.self ≡ asking = c.in_ok-write_request.ensures.next in
    let two : c.frame_data.new.self ≡ with_writing asking (after_data (writing asking) n) = c.in_ok-frame_data.ensures.counted ∙ ap (λ (x : Client). with_writing x (after_data (writing x) n)) one in
    let near = c.split_body.result.0.now in
    let rest = c.split_body.result.1.now in
    let first : c.write_request.new.output.items ≡ planned_request client POST target (Known n) hs = c.in_ok-write_request.ensures.ok ∙ ap (λ (x : List ℕ). x ++ planned_request client POST target (Known n) hs) c.in_ok-text.ensures.items in
    let head = c.in_ok-write_end.ensures.ok ∙ (λ i. first i ++ finish_text (writing (two i)) []) ∙ says_head client target n hs c.requires.sendable.ordinary accepted in
    let text = c.in_ok-extend_from_slice.ensures.items ∙ ap (λ (x : List ℕ). x ++ near) head in
    ap (λ (x : List ℕ). x ++ rest) text ∙ append_assoc _ near rest ∙ ap (λ (x : List ℕ). request_text POST target 1 (hs ++ length_header n ∷ []) ++ x) c.split_body.ensures
    ∙ (λ i. request_text POST target 1 (hs ++ length_header (c.len_of-size.ensures i) ∷ []) ++ body)

pub returns-clause-asked : goal.returns-clause-asked
returns-clause-asked c =
    let client = c.args.client.now in
    let n = c.len_of-size.result in
    let target = c.args.post.now.target.now in
    let hs = pairs c.args.post.now.headers.now in
    let accepted : request_refusal client POST target (Known n) hs ≡ None = not_refused _ _ _ _ c.in_ok-write_request.ensures.outcome in
    let asking = after_request client POST (Known n) hs in
    let one : c.write_request.new.self ≡ asking = c.in_ok-write_request.ensures.next in
    let two : c.frame_data.new.self ≡ with_writing asking (after_data (writing asking) n) = c.in_ok-frame_data.ensures.counted ∙ ap (λ (x : Client). with_writing x (after_data (writing x) n)) one in
    let three : c.write_end.new.self ≡ after_end (with_writing asking (after_data (writing asking) n)) = c.in_ok-write_end.ensures.done ∙ ap after_end two in
    subst (λ (x : Client). HasAsked client.limits x) (sym three) (has_asked client target n hs c.requires.sendable.ordinary accepted)

pub returns-in_err-write_request-clause-memory : goal.returns-in_err-write_request-clause-memory
returns-in_err-write_request-clause-memory c =
    let client = c.args.client.now in
    let n = c.len_of-size.result in
    let target = c.args.post.now.target.now in
    let hs = pairs c.args.post.now.headers.now in
    let small : n < 2 ^ 64 = omega (arith, c.len_of-size.type_inv) in
    let accepted = head_accepted client.limits target hs n small c.requires.sendable in
    let p = err_from_is_err_and c.from_residual-in_err-write_request.result c.from_residual-in_err-write_request.ensures.1 in
    rw (p.1, p.2) (only_memory _ _ _ c.in_err-write_request.field-0.0 c.in_err-write_request.ensures.outcome ((λ i. request_refusal (c.requires.fresh i) POST target (Known n) hs) ∙ accepted))

pub returns-in_err-frame_data-clause-memory : goal.returns-in_err-frame_data-clause-memory
returns-in_err-frame_data-clause-memory c =
    let client = c.args.client.now in
    let n = c.len_of-size.result in
    let target = c.args.post.now.target.now in
    let hs = pairs c.args.post.now.headers.now in
    let small : n < 2 ^ 64 = omega (arith, c.len_of-size.type_inv) in
    let asking = after_request client POST (Known n) hs in
    let first : asking ≡ after_request (new_client client.limits) POST (Known n) hs = (λ i. after_request (c.requires.fresh i) POST (Known n) hs) in
    let one : c.write_request.new.self ≡ asking = c.in_ok-write_request.ensures.next in
    let accepted = data_accepted client.limits target hs n small c.requires.sendable in
    absurd (never_refused _ c.in_err-frame_data.field-0.0 _ c.frame_data.ensures.outcome c.in_err-frame_data.was ((λ i. data_refusal (writing (one i)) n) ∙ (λ i. data_refusal (writing (first i)) n) ∙ accepted))

pub returns-in_err-write_end-clause-memory : goal.returns-in_err-write_end-clause-memory
returns-in_err-write_end-clause-memory c =
    let client = c.args.client.now in
    let n = c.len_of-size.result in
    let target = c.args.post.now.target.now in
    let hs = pairs c.args.post.now.headers.now in
    let small : n < 2 ^ 64 = omega (arith, c.len_of-size.type_inv) in
    let asking = after_request client POST (Known n) hs in
    let first : asking ≡ after_request (new_client client.limits) POST (Known n) hs = (λ i. after_request (c.requires.fresh i) POST (Known n) hs) in
    let one : c.write_request.new.self ≡ asking = c.in_ok-write_request.ensures.next in
    let two : c.frame_data.new.self ≡ with_writing asking (after_data (writing asking) n) = c.in_ok-frame_data.ensures.counted ∙ ap (λ (x : Client). with_writing x (after_data (writing x) n)) one in
    let accepted = end_accepted client.limits target hs n small c.requires.sendable in
    let p = err_from_is_err_and c.from_residual-in_err-write_end.result c.from_residual-in_err-write_end.ensures.1 in
    rw (p.1, p.2) (only_memory _ _ _ c.in_err-write_end.field-0.0 c.in_err-write_end.ensures.outcome ((λ i. finish_refusal (writing (two i)) []) ∙ (λ i. finish_refusal (after_data (writing (first i)) n) []) ∙ accepted))
