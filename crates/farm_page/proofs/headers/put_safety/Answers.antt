use Rattle.std.proofs.Common.{[], ◌∷◌, ◌++◌}
use Rattle.std.specs.Prelude.{codes}
use Rattle.std.proofs.lemmas.Result.{on_ok_weaker}
use Rattle.farm_page.specs.Answer.{Headers}
use Rattle.farm_page.specs.Headers.{pairs}
use Rattle.farm_page.specs.declared.style.TheConstants.{POLICY}
use Rattle.farm_page.proofs.Walks.{after}
use Rattle.farm_page.proofs.headers.put_safety.Goals as goal

pub returns : goal.returns
returns c =
    let old = pairs c.args.headers.now.items in
    let policy : Headers = (codes "content-security-policy", POLICY.now) ∷ [] in
    let kind : Headers = (codes "x-content-type-options", codes "nosniff") ∷ [] in
    let referrer : Headers = (codes "referrer-policy", codes "no-referrer") ∷ [] in
    let kept : Headers = (codes "cache-control", codes "no-store") ∷ [] in
    let two = after old _ _ policy kind c.in_ok-put.ensures c.in_ok-put-2.ensures in
    let three = after old _ _ (policy ++ kind) referrer two c.in_ok-put-3.ensures in
    on_ok_weaker c.put-4.result (λ told. after old _ _ (policy ++ kind ++ referrer) kept three told) c.put-4.ensures
