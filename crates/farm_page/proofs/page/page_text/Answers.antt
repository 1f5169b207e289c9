use Rattle.std.proofs.Common.{◌∙◌, ◌++◌, List, ℕ, ap}
use Rattle.farm_page.specs.Health.{condition_at, sentence_at}
use Rattle.farm_page.specs.Markup.{opening}
use Rattle.farm_page.specs.Notices.{notices}
use Rattle.farm_page.specs.Rows.{workers_row}
use Rattle.farm_page.specs.Sections.{body_tag, end_rows, failures_part, function_rows, headline, host_rows}
use Rattle.farm_page.specs.declared.sections.Share.TheVariants.{Busy, Quiet}
use Rattle.farm_page.proofs.Held.{holds_in}
use Rattle.farm_page.proofs.page.page_text.Goals as goal

pub returns-clause-own : goal.returns-clause-own
returns-clause-own c =
    let rest : List ℕ = c.into_bytes-rest.result.items in
    let begun = c.in_ok-put_opening.ensures ∙ ap (λ t. t ++ opening c.args.refresh) c.new-page.ensures.items in
    record {
      rest = rest;
      is =
          c.in_ok-put_bytes.ensures ∙ ap (λ t. c.put_opening.new.out.items ++ t) c.as_slice.ensures.value
          ∙ ap (λ t. t ++ rest) begun;
      own = c.into_bytes-rest.ensures.own;
    }

pub returns-clause-condition : goal.returns-clause-condition
returns-clause-condition c =
    let begun : List ℕ = c.put_opening.new.out.items in
    let added = c.in_ok-put_bytes.ensures ∙ ap (λ t. begun ++ t) (c.as_slice.ensures.value ∙ c.into_bytes-rest.ensures.all) in
    holds_in begun c.in_ok-rest_of.field-0 (body_tag (condition_at c.args.view.now c.args.moment)) c.put_bytes.new.out.items c.in_ok-rest_of.ensures.condition added

pub returns-clause-sentence : goal.returns-clause-sentence
returns-clause-sentence c =
    let begun : List ℕ = c.put_opening.new.out.items in
    let added = c.in_ok-put_bytes.ensures ∙ ap (λ t. begun ++ t) (c.as_slice.ensures.value ∙ c.into_bytes-rest.ensures.all) in
    holds_in begun c.in_ok-rest_of.field-0 (headline (sentence_at c.args.view.now c.args.moment)) c.put_bytes.new.out.items c.in_ok-rest_of.ensures.sentence added

pub returns-clause-busy : goal.returns-clause-busy
returns-clause-busy c =
    let begun : List ℕ = c.put_opening.new.out.items in
    let added = c.in_ok-put_bytes.ensures ∙ ap (λ t. begun ++ t) (c.as_slice.ensures.value ∙ c.into_bytes-rest.ensures.all) in
    holds_in begun c.in_ok-rest_of.field-0 (function_rows Busy c.args.view.now.workers.all c.args.view.now.functions.items) c.put_bytes.new.out.items c.in_ok-rest_of.ensures.busy added

pub returns-clause-quiet : goal.returns-clause-quiet
returns-clause-quiet c =
    let begun : List ℕ = c.put_opening.new.out.items in
    let added = c.in_ok-put_bytes.ensures ∙ ap (λ t. begun ++ t) (c.as_slice.ensures.value ∙ c.into_bytes-rest.ensures.all) in
    holds_in begun c.in_ok-rest_of.field-0 (function_rows Quiet c.args.view.now.workers.all c.args.view.now.functions.items) c.put_bytes.new.out.items c.in_ok-rest_of.ensures.quiet added

pub returns-clause-hosts : goal.returns-clause-hosts
returns-clause-hosts c =
    let begun : List ℕ = c.put_opening.new.out.items in
    let added = c.in_ok-put_bytes.ensures ∙ ap (λ t. begun ++ t) (c.as_slice.ensures.value ∙ c.into_bytes-rest.ensures.all) in
    holds_in begun c.in_ok-rest_of.field-0 (host_rows c.args.view.now.hosts.items) c.put_bytes.new.out.items c.in_ok-rest_of.ensures.hosts added

pub returns-clause-ends : goal.returns-clause-ends
returns-clause-ends c =
    let begun : List ℕ = c.put_opening.new.out.items in
    let added = c.in_ok-put_bytes.ensures ∙ ap (λ t. begun ++ t) (c.as_slice.ensures.value ∙ c.into_bytes-rest.ensures.all) in
    holds_in begun c.in_ok-rest_of.field-0 (end_rows c.args.view.now.ends.items) c.put_bytes.new.out.items c.in_ok-rest_of.ensures.ends added

pub returns-clause-failures : goal.returns-clause-failures
returns-clause-failures c =
    let begun : List ℕ = c.put_opening.new.out.items in
    let added = c.in_ok-put_bytes.ensures ∙ ap (λ t. begun ++ t) (c.as_slice.ensures.value ∙ c.into_bytes-rest.ensures.all) in
    holds_in begun c.in_ok-rest_of.field-0 (failures_part c.args.view.now.failures) c.put_bytes.new.out.items c.in_ok-rest_of.ensures.failures added

pub returns-clause-notices : goal.returns-clause-notices
returns-clause-notices c =
    let begun : List ℕ = c.put_opening.new.out.items in
    let added = c.in_ok-put_bytes.ensures ∙ ap (λ t. begun ++ t) (c.as_slice.ensures.value ∙ c.into_bytes-rest.ensures.all) in
    holds_in begun c.in_ok-rest_of.field-0 (notices c.args.view.now) c.put_bytes.new.out.items c.in_ok-rest_of.ensures.notices added

pub returns-clause-workers : goal.returns-clause-workers
returns-clause-workers c =
    let begun : List ℕ = c.put_opening.new.out.items in
    let added = c.in_ok-put_bytes.ensures ∙ ap (λ t. begun ++ t) (c.as_slice.ensures.value ∙ c.into_bytes-rest.ensures.all) in
    holds_in begun c.in_ok-rest_of.field-0 (workers_row c.args.view.now) c.put_bytes.new.out.items c.in_ok-rest_of.ensures.workers added
