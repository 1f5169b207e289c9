use Rattle.std.proofs.Common.{List, ℕ, ◌++◌, ◌∙◌, ap}
use Rattle.std.specs.Prelude.{codes}
use Rattle.std.specs.Fmt.{decimal}
use Rattle.std.proofs.lemmas.Result.{on_ok_weaker}
use Rattle.farm_page.specs.Escaping.{label_text}
use Rattle.farm_page.specs.Metric.{label}
use Rattle.farm_page.proofs.Walks.{after}
use Rattle.farm_page.proofs.metrics.put_labelled.Goals as goal

pub returns : goal.returns
returns c =
    let old = c.args.out.now.items in
    let metric = c.args.metric.now in
    let t0 : List ℕ = metric.name.now in
    let t1 : List ℕ = codes "{" in
    let t2 : List ℕ = label metric.value in
    let t3 : List ℕ = codes "=\"" in
    let t4 : List ℕ = label_text c.args.named.now in
    let t5 : List ℕ = codes "\"} " in
    let t6 : List ℕ = decimal c.args.value in
    let one = c.in_ok-put_text.ensures.ok in
    let two = after old _ _ t0 t1 one c.in_ok-put_text-2.ensures.ok in
    let three = after old _ _ (t0 ++ t1) t2 two (c.in_ok-put_text-3.ensures.ok ∙ ap (λ t. c.put_text-2.new.out.items ++ t) c.label.ensures) in
    let four = after old _ _ (t0 ++ t1 ++ t2) t3 three c.in_ok-put_text-4.ensures.ok in
    let five = after old _ _ (t0 ++ t1 ++ t2 ++ t3) t4 four (c.in_ok-put_label.ensures ∙ ap (λ t. c.put_text-4.new.out.items ++ label_text t) c.as_bytes.ensures.value) in
    let six = after old _ _ (t0 ++ t1 ++ t2 ++ t3 ++ t4) t5 five c.in_ok-put_text-5.ensures.ok in
    let seven = after old _ _ (t0 ++ t1 ++ t2 ++ t3 ++ t4 ++ t5) t6 six c.in_ok-put_number.ensures.ok in
    on_ok_weaker c.put_text-6.result (λ told. after old _ _ (t0 ++ t1 ++ t2 ++ t3 ++ t4 ++ t5 ++ t6) (codes "\n") seven told) c.put_text-6.ensures.ok
