use Rattle.std.proofs.Common.{◌≡◌, arith, rules, subst, sym}
use Rattle.farm_notes.specs.Evidence.{IsReadAs, status_text}
use Rattle.farm_notes.proofs.ReadBack.{read_back}
use Rattle.farm_notes.proofs.evidence.status_text.Goals as goal

pub returns-clause-read_back : goal.returns-clause-read_back
returns-clause-read_back c =
    let settings = c.args.settings.now in
    let waiting = c.args.waiting.now in
    let written : c.into_bytes.result.items ≡ status_text settings.functions waiting = search rules in
    subst (IsReadAs settings waiting) (sym written) (read_back settings c.facts.ensures waiting (λ k. omega (arith, c.type_inv.waiting k)) c.requires.all)
