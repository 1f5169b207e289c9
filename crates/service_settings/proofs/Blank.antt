-- A blank text has no version.
use Rattle.std.proofs.Common.{◌≡◌, ℕ, suc, List, [], Bool, true, false, cond, length, Some, None, refl, subst, sym, ◌∙◌, arith}
use Rattle.std.specs.Str.{is_utf8}
use Rattle.std.proofs.lemmas.Option.{none-some}
use Rattle.toml.specs.Data.{Members, no_members}
use Rattle.toml.specs.Errors.{IsBlank}
use Rattle.toml.specs.Parse.{parse_document, skip_bom}
use Rattle.toml.specs.Tables.{no_nodes}
use Rattle.toml.proofs.Turns.{document_some, lines_end}
use Rattle.pool_settings.specs.Reading.{tree_of, version_key}
use Rattle.pool_settings.specs.Settings.{Settings}
use Rattle.service_settings.specs.Fault.{RefusesTree, error_of}
use Rattle.service_settings.specs.Reading.{at_key, first_fault}
use Rattle.service_settings.specs.declared.error.ServicesError.TheVariants as error
use Rattle.service_settings.specs.declared.fault.ServicesFault.{ServicesFault}
use Rattle.service_settings.specs.declared.fault.ServicesFault.TheVariants as fault

parsed_by : (bytes : List ℕ) (tree : Members) (b : Bool) → cond b (parse_document bytes) None ≡ Some tree → parse_document bytes ≡ Some tree
parsed_by bytes tree true h = h
parsed_by bytes tree false h = absurd (none-some tree h)

blank_fault : (settings : Settings) (bytes : List ℕ) (tree : Members) → IsBlank bytes → tree_of bytes ≡ Some tree → first_fault settings tree ≡ Some (error.Version, at_key version_key)
blank_fault settings bytes tree blank read =
    let parsed : parse_document bytes ≡ Some tree = parsed_by bytes tree (is_utf8 bytes) read in
    let empty : parse_document bytes ≡ Some no_members = document_some bytes (no_nodes, []) (lines_end (suc (length bytes)) (no_nodes, []) (skip_bom bytes) (omega arith) blank) in
    let same : tree ≡ no_members = cc in
    subst (λ t. first_fault settings t ≡ Some (error.Version, at_key version_key)) (sym same) refl

-- services that are refused if memory runs out alone are not blank
pub memory_refused : (settings : Settings) (bytes : List ℕ) (tree : Members) (f : ServicesFault) → tree_of bytes ≡ Some tree → RefusesTree settings tree f
    → error_of f ≡ error.Memory → ¬ IsBlank bytes
memory_refused settings bytes tree (fault.At e at) read refuses memory blank = absurd (refuses.0 memory)
memory_refused settings bytes tree fault.Memory read refuses memory blank =
    none-some (error.Version, at_key version_key) (sym refuses ∙ blank_fault settings bytes tree blank read)
