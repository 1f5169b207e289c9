-- A text that says that each addition that serves is too many, read.
use Rattle.std.proofs.Common.{◌≡◌, ℕ, ◌^◌, ◌<◌, List, [], ◌++◌, Some, None, length, All, refl, arith}
use Rattle.plan_sizing.specs.Shown.{IsShownTooMany}
use Rattle.plan_sizing.specs.Sizing.{Farm, IsFarm}
use Rattle.plan_sizing.specs.declared.size.Size.TheVariants.{TooMany}
use Rattle.pool_settings.specs.Settings.{AreSettings, Settings}
use Rattle.pool_report.specs.Report.{short_lines}
use Rattle.size_report.specs.Law.{IsReadBack}
use Rattle.size_report.specs.Lines.{too_many}
use Rattle.size_report.specs.Text.{short_of, too_many_line}
use Rattle.size_report.specs.declared.stage.Kind.TheVariants as kind
use Rattle.size_report.specs.declared.stage.Stage.TheVariants as stage
use Rattle.size_report.proofs.Bounds.{need_small}
use Rattle.size_report.proofs.Sets.{set_lead, sum_small}
use Rattle.size_report.proofs.Encoded.{too_many_told}
use Rattle.size_report.proofs.Walks.{Leads, asked, at, closed, leads_line, leads_on}

pub too_many_read : (p : Settings) (farm : Farm) (many : ℕ) (set : List ℕ) → AreSettings p → IsFarm farm → length farm.problem.least ≡ length p.functions
    → All (λ n. n < 2 ^ 32) farm.problem.least → IsShownTooMany farm many set → IsReadBack p farm (TooMany many set)
too_many_read p farm many set valid sound paired least shown =
    let small : many < 2 ^ 64 = omega (arith, shown.short.exact, sum_small farm set sound (need_small farm sound least) shown.short.rising shown.short.within) in
    let d = at stage.Beyond (kind.TooMany many) [] [] None 0 0 0 in
    let first : Leads p asked (too_many_line many) d = leads_line p asked d (too_many_line many) (too_many many) (too_many_told many small) refl in
    let rest = set_lead p farm valid sound paired least many set stage.Beyond (kind.TooMany many) [] [] 0 0 shown.short refl in
    record {
      same = closed p farm.level sound.some sound.small (too_many_line many ++ short_lines (short_of p farm set)) stage.Set (kind.TooMany many) [] [] (Some set) 0 0 rest.0 refl
          (leads_on p asked d (at stage.Set (kind.TooMany many) [] [] (Some set) 0 0 rest.0) (too_many_line many) (short_lines (short_of p farm set)) first rest.1);
      shown = shown;
      text = refl;
    }
