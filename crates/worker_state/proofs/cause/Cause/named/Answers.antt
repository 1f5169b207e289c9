use Rattle.std.proofs.Common.{rules, tests, ◌≡◌, ◌∙◌, option_map}
use Rattle.std.specs.Prelude.{find}
use Rattle.std.specs.Str.{bytes_eq}
use Rattle.std.proofs.lemmas.Iterator.{YieldsList-from_slice}
use Rattle.std.proofs.lemmas.Iterator.Search.{find_from_yields_List}
use Rattle.worker_state.specs.Causes.{causes, cause_label}
use Rattle.worker_state.proofs.cause.Cause.named.Goals as goal

pub returns : goal.returns
returns c =
    let found : option_map (λ cause. cause.now) c.find.result ≡ find (λ cause. bytes_eq (cause_label cause).name c.args.name.now) causes = find_from_yields_List (λ cause. bytes_eq (cause_label cause).name c.args.name.now) _ _ c.find.result c.find.ensures.ran (YieldsList-from_slice _ c.iter.ensures.rest) (λ x b q k. search (rules, tests)) in
    c.copied.ensures ∙ found
