-- What a text holds, while more is added to it.
use Rattle.std.proofs.Common.{◌≡◌, ℕ, List, [], ◌++◌, ap, append_assoc, append-nil, sym, ◌∙◌}
use Rattle.farm_page.specs.Sections.{Holds}

pub holds_last : (old part new : List ℕ) → new ≡ old ++ part → Holds new part
holds_last old part new is = record { before = old; after = []; is = is ∙ sym (append-nil (old ++ part)) }

pub holds_more : (text part more new : List ℕ) → Holds text part → new ≡ text ++ more → Holds new part
holds_more text part more new held is = record {
  before = held.before;
  after = held.after ++ more;
  is = is ∙ ap (λ t. t ++ more) held.is ∙ append_assoc (held.before ++ part) held.after more;
}

pub holds_in : (old whole part new : List ℕ) → Holds whole part → new ≡ old ++ whole → Holds new part
holds_in old whole part new held is = record {
  before = old ++ held.before;
  after = held.after;
  is =
      is ∙ ap (λ t. old ++ t) held.is ∙ sym (append_assoc old (held.before ++ part) held.after)
      ∙ ap (λ t. t ++ held.after) (sym (append_assoc old held.before part));
}
