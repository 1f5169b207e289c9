use Rattle.std.proofs.Common.{ap, length, refl, subst, sym, ◌∙◌}
use Rattle.std.proofs.lemmas.List.{length-map}
use Rattle.toml.specs.View.{table_view}
use Rattle.file_keys.proofs.Ranges.{numbers_in_range}
use Rattle.service_settings.specs.Keys.{AllInRange, top_keys}
use Rattle.service_settings.specs.Reading.{resend_for, retries_for, timeout_for}
use Rattle.service_settings.proofs.services.services_of.Goals as goal

pub invariant_of-result : goal.invariant_of-result
invariant_of-result c =
    let settings = c.args.settings.now in
    let tree = table_view c.args.tree.now in (
      subst AllInRange (sym c.numbers_in.ensures) (numbers_in_range top_keys tree refl),
      ap length c.in_ok-retries.ensures ∙ length-map settings.functions (retries_for tree)
          ∙ sym (ap length c.in_ok-timeouts.ensures ∙ length-map settings.functions (timeout_for settings tree)),
      ap length c.in_ok-resends.ensures ∙ length-map settings.functions (resend_for tree)
          ∙ sym (ap length c.in_ok-timeouts.ensures ∙ length-map settings.functions (timeout_for settings tree)),
    )
