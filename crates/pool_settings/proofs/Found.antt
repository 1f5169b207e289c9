-- What is found in a text.
use Rattle.std.proofs.Common.{◌≡◌, ℕ, ◌≤◌, List, false, cond, Some, None, length, take, sym, ap, ◌∙◌}
use Rattle.std.specs.Str.{IsUtf8, is_utf8}
use Rattle.std.specs.Str.Lossy.{utf8_valid_len}
use Rattle.std.proofs.lemmas.Bool.{false≢true}
use Rattle.std.proofs.lemmas.Option.{none-some}
use Rattle.std.proofs.lemmas.Str.{is_utf8-from_IsUtf8}
use Rattle.toml.specs.Data.{Members}
use Rattle.toml.specs.Parse.{parse_document}
use Rattle.text_pieces.proofs.Cutting.{same}
use Rattle.pool_settings.specs.Fault.{IsFoundIn, RefusesText, fault_of, text_fault}
use Rattle.pool_settings.specs.Place.{place_view}
use Rattle.pool_settings.specs.declared.fault.SettingsFault.{SettingsFault}
use Rattle.pool_settings.specs.declared.fault.SettingsFault.TheVariants.{At, Memory}
use Rattle.pool_settings.specs.Reading.{Fault, first_fault, tree_of}
use Rattle.pool_settings.proofs.Trees.{tree_none}

-- a text that is no UTF-8 has no tree
no_utf8 : (text : List ℕ) → is_utf8 text ≡ false → tree_of text ≡ None
no_utf8 text h = ap (λ b. cond b (parse_document text) None) h

same_tree : (tree other : Members) → Some tree ≡ Some other → tree ≡ other
same_tree tree other h = cc

-- a tree's first fault is that of its text
pub found_in_tree : (text : List ℕ) (tree : Members) (found : Fault) → tree_of text ≡ Some tree → first_fault tree ≡ Some found → IsFoundIn text found
found_in_tree text tree found read is = record {
  in_tree = λ other h. ap first_fault (same_tree other tree (sym h ∙ read)) ∙ is;
  in_text = λ none. absurd (none-some tree (sym none ∙ read));
  not_utf8 = λ h. absurd (none-some tree (sym (no_utf8 text h) ∙ read));
}

-- a text of UTF-8 that is no TOML from a place on
pub found_in_text : (text : List ℕ) (n : ℕ) (fault : SettingsFault) → IsUtf8 text → parse_document text ≡ None → n ≤ length text
    → fault_of fault ≡ Some (text_fault (take n text)) → RefusesText text fault
found_in_text text n (At error at) utf8 none within is =
    let no_tree = tree_none text (λ _. none) in
    let found = same (error, place_view (λ t. t.now) at) (text_fault (take n text)) is in (
      no_tree,
      record {
        in_tree = λ tree h. absurd (none-some tree (sym no_tree ∙ h));
        in_text = λ _. (n, within, found);
        not_utf8 = λ h. absurd (false≢true (sym h ∙ is_utf8-from_IsUtf8 text utf8));
      },
    )
found_in_text text n Memory utf8 none within is = absurd (none-some (text_fault (take n text)) is)

-- a text that is not UTF-8 from a place on
pub found_no_utf8 : (text : List ℕ) (n : ℕ) (fault : SettingsFault) → ¬ (IsUtf8 text) → n ≡ utf8_valid_len text → n ≤ length text
    → fault_of fault ≡ Some (text_fault (take n text)) → RefusesText text fault
found_no_utf8 text n (At error at) not_utf8 valid within is =
    let no_tree = tree_none text (λ utf8. absurd (not_utf8 utf8)) in
    let found = same (error, place_view (λ t. t.now) at) (text_fault (take n text)) is in (
      no_tree,
      record {
        in_tree = λ tree h. absurd (none-some tree (sym no_tree ∙ h));
        in_text = λ _. (n, within, found);
        not_utf8 = λ h. found ∙ ap (λ (k : ℕ). text_fault (take k text)) valid;
      },
    )
found_no_utf8 text n Memory not_utf8 valid within is = absurd (none-some (text_fault (take n text)) is)
