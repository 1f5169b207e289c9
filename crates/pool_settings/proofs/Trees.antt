-- The tree of a text, and what it reads as.
use Rattle.std.proofs.Common.{◌≡◌, ℕ, suc, List, [], Bool, true, false, cond, length, Some, None, refl, subst, sym, ap, ◌∙◌, arith}
use Rattle.std.specs.Str.{IsUtf8, is_utf8}
use Rattle.std.proofs.lemmas.Option.{none-some}
use Rattle.std.proofs.lemmas.Str.{IsUtf8-from_is_utf8, is_utf8-from_IsUtf8}
use Rattle.toml.specs.Data.{Members, no_members}
use Rattle.toml.specs.Errors.{IsBlank}
use Rattle.toml.specs.Parse.{parse_document, skip_bom}
use Rattle.toml.specs.Tables.{no_nodes}
use Rattle.toml.proofs.Turns.{document_some, lines_end}
use Rattle.pool_settings.specs.Fault.{RefusesTree, error_of}
use Rattle.pool_settings.specs.Reading.{first_fault, tree_of, version_key}
use Rattle.pool_settings.specs.declared.fault.SettingsFault.{SettingsFault}
use Rattle.pool_settings.specs.declared.fault.SettingsFault.TheVariants as fault
use Rattle.pool_settings.specs.declared.error.SettingsError.TheVariants as error
use Rattle.pool_settings.specs.declared.place.Place.TheVariants.{Key}

pub tree_is : (bytes : List ℕ) (tree : Members) → IsUtf8 bytes → parse_document bytes ≡ Some tree → tree_of bytes ≡ Some tree
tree_is bytes tree utf8 parsed = ap (λ b. cond b (parse_document bytes) None) (is_utf8-from_IsUtf8 bytes utf8) ∙ parsed

pub tree_none : (bytes : List ℕ) → (IsUtf8 bytes → parse_document bytes ≡ None) → tree_of bytes ≡ None
tree_none bytes none = by (is_utf8 bytes) refl
  where
    by : (b : Bool) → is_utf8 bytes ≡ b → tree_of bytes ≡ None
    by true is = ap (λ b. cond b (parse_document bytes) None) is ∙ none (IsUtf8-from_is_utf8 bytes is)
    by false is = ap (λ b. cond b (parse_document bytes) None) is

parsed_by : (bytes : List ℕ) (tree : Members) (b : Bool) → cond b (parse_document bytes) None ≡ Some tree → parse_document bytes ≡ Some tree
parsed_by bytes tree true h = h
parsed_by bytes tree false h = absurd (none-some tree h)

-- a blank text has no version
blank_fault : (bytes : List ℕ) (tree : Members) → IsBlank bytes → tree_of bytes ≡ Some tree → first_fault tree ≡ Some (error.Version, Key version_key)
blank_fault bytes tree blank read =
    let parsed : parse_document bytes ≡ Some tree = parsed_by bytes tree (is_utf8 bytes) read in
    let empty : parse_document bytes ≡ Some no_members = document_some bytes (no_nodes, []) (lines_end (suc (length bytes)) (no_nodes, []) (skip_bom bytes) (omega arith) blank) in
    let same : tree ≡ no_members = cc in
    subst (λ t. first_fault t ≡ Some (error.Version, Key version_key)) (sym same) refl

-- settings that are refused if memory runs out alone are not blank
pub memory_refused : (bytes : List ℕ) (tree : Members) (fault : SettingsFault) → tree_of bytes ≡ Some tree → RefusesTree tree fault
    → error_of fault ≡ error.Memory → ¬ IsBlank bytes
memory_refused bytes tree (fault.At e at) read refuses memory blank = absurd (refuses.0 memory)
memory_refused bytes tree fault.Memory read refuses memory blank =
    none-some (error.Version, Key version_key) (sym refuses ∙ blank_fault bytes tree blank read)
