use Rattle.std.proofs.Common.{ℕ, ◌≡◌, ◌-◌, List, Bool, IsTrue, drop, length, nat_eq, sym, ap, ◌∙◌}
use Rattle.std.specs.List.{ends_with}
use Rattle.std.proofs.lemmas.Bool.Decides.{Decides-eqb}
use Rattle.std.proofs.lemmas.Slice.Eq.{slice_eq-Decides}
use Rattle.server_link.specs.Talk.{status_request}
use Rattle.server_link.proofs.talk.Talk.asks_for_status.Goals as goal

-- what `ends_with` tells of a text that is so many bytes longer than its end
ends_after : (text end : List ℕ) (n : ℕ) (r : Bool) → length text - length end ≡ n → r ≡ ends_with nat_eq text end
    → (IsTrue r → drop n text ≡ end) × (drop n text ≡ end → IsTrue r)
ends_after text end n r longer is =
    let tells = slice_eq-Decides Decides-eqb end (drop (length text - length end) text) r is in
    let here : drop (length text - length end) text ≡ drop n text = ap (λ m. drop m text) longer in
    ((λ yes. sym (tells.0 yes ∙ here)), λ same. tells.1 (sym (here ∙ same)))

pub returns : goal.returns
returns c =
    let last : c.self.inside.last ≡ c.args.self.now.last = ap (λ t. t.last) c.self.view_is in
    let twelve = ap (λ n. n - 7) c.self.told in
    let tells = ends_after c.self.inside.last status_request 5 c.ends_with.result twelve c.ends_with.ensures.value in
    record {
      status = (λ yes. ap (drop 5) (sym last) ∙ tells.0 yes, λ asks. tells.1 (ap (drop 5) last ∙ asks));
    }
