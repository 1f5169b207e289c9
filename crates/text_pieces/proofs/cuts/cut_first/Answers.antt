use Rattle.std.proofs.Common.{rules, tests, ◌≡◌, ◌∙◌, ◌==◌, ℕ, List, option_map, ap, sym}
use Rattle.std.specs.Prelude.{position}
use Rattle.std.proofs.lemmas.Iterator.{YieldsList-from_slice}
use Rattle.std.proofs.lemmas.Iterator.Search.{position_from_yields_List}
use Rattle.text_pieces.proofs.Cutting.{cut_no_position, cut_position}
use Rattle.text_pieces.proofs.cuts.cut_first.Goals as goal

pub returns-in_err-at-clause-parts : goal.returns-in_err-at-clause-parts
returns-in_err-at-clause-parts c =
    let text = c.args.text.now in
    let found : c.position.result ≡ position (λ b. b == c.args.byte) text = position_from_yields_List (λ b. b == c.args.byte) _ _ c.position.result c.position.ensures.ran (YieldsList-from_slice _ c.iter.ensures.rest) (λ x b q k. search (rules, tests)) in
    ap (option_map {U = List ℕ × List ℕ} (λ p. (p.0.now, p.1.now))) c.from_residual.ensures ∙ cut_no_position c.args.byte text (sym found ∙ c.in_err-at.was)

pub returns-clause-parts : goal.returns-clause-parts
returns-clause-parts c =
    let text = c.args.text.now in
    let found : c.position.result ≡ position (λ b. b == c.args.byte) text = position_from_yields_List (λ b. b == c.args.byte) _ _ c.position.result c.position.ensures.ran (YieldsList-from_slice _ c.iter.ensures.rest) (λ x b q k. search (rules, tests)) in
    cut_position c.args.byte text c.in_ok-at.at (sym found ∙ c.in_ok-at.was)
