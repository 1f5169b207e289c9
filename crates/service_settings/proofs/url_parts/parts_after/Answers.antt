use Rattle.std.proofs.Common.{sym, ◌∙◌}
use Rattle.std.proofs.lemmas.Bool.{and_parts}
use Rattle.service_settings.specs.Url.{is_visible}
use Rattle.service_settings.proofs.Sendable.{visible_utf8}
use Rattle.service_settings.proofs.url_parts.parts_after.Goals as goal

pub returns-in_default-clause-parts : goal.returns-in_default-clause-parts
returns-in_default-clause-parts c =
    let authority = c.split_at.result.0.now in
    let visible = (and_parts (is_visible authority) _ (sym c.is_authority.ensures ∙ c.if-not-is_authority.false)).0 in
    absurd (c.in_default.ensures.cases.0 (visible_utf8 authority visible))

pub returns-in-Err-clause-parts : goal.returns-in-Err-clause-parts
returns-in-Err-clause-parts c =
    let path = c.without_slash-path.result.now in
    let visible = (and_parts (is_visible path) _ (sym c.is_path.ensures ∙ c.if-not-is_path.false)).0 in
    absurd (c.in-Err.ensures.cases.0 (visible_utf8 path visible))
