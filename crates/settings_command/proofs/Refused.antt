-- What is told of a settings file, from what is told of its text or of its tree.
use Rattle.std.proofs.Common.{◌≡◌, ◌∙◌, ℕ, List, Some, Ok, Err, ap, inl, inr, sym, subst}
use Rattle.std.specs.Option.{option_map_or}
use Rattle.byte_io.specs.Sides.{Output}
use Rattle.plan_commands.specs.Mistake.{IsMistakeOf, mistake_view}
use Rattle.plan_commands.specs.declared.ending.Exit.{Exit}
use Rattle.plan_commands.specs.declared.mistake.Mistake.{Mistake}
use Rattle.toml.specs.Data.{Members}
use Rattle.pool_settings.specs.Fault.{IsFoundIn, RefusesText}
use Rattle.pool_settings.specs.Place.{place_view}
use Rattle.pool_settings.specs.Reading.{read_tree, reading, settings_of, tree_of}
use Rattle.pool_settings.specs.Reading as settings
use Rattle.pool_settings.specs.declared.error.SettingsError.TheVariants.{Text}
use Rattle.pool_settings.specs.declared.fault.SettingsFault.{SettingsFault}
use Rattle.pool_settings.specs.declared.fault.SettingsFault.TheVariants as first
use Rattle.pool_settings.proofs.Found.{found_in_tree}
use Rattle.settings_command.specs.Told.{Explains, Locates, TellsSettings}

reading_of_tree : (text : List ℕ) (tree : Members) → tree_of text ≡ Some tree → reading text ≡ read_tree tree
reading_of_tree text tree h = ap (λ o. option_map_or read_tree o (Err Text)) h

-- a mistake that is the first fault of a file
mistake_is : (text : List ℕ) (mistake : Mistake) (found : settings.Fault) → reading text ≡ Err found.0 → IsFoundIn text found
    → mistake_view mistake ≡ found → IsMistakeOf text mistake
mistake_is text mistake found refused within is =
    (refused ∙ ap (λ (f : settings.Fault). Err f.0) (sym is), subst (IsFoundIn text) (sym is) within)

pub told_of_tree : (text : List ℕ) (tree : Members) (old new : Output) (exit : Exit) → tree_of text ≡ Some tree
    → Explains tree old new exit → TellsSettings text old new exit
told_of_tree text tree old new exit h (inl meaning) =
    inl (meaning.0, reading_of_tree text tree h ∙ meaning.1, (tree, h, meaning.2))
told_of_tree text tree old new exit h (inr (first.At e at, refuses, inl told)) =
    let place = place_view (λ t. t.now) at in
    let refused : read_tree tree ≡ Err e = ap (λ o. option_map_or (λ f. Err f.0) o (Ok (settings_of tree))) refuses.1 in
    let is = mistake_is text told.0 (e, place) (reading_of_tree text tree h ∙ refused) (found_in_tree text tree (e, place) h refuses.1) told.1 in
    inr (inl (told.0, is, told.2))
told_of_tree text tree old new exit h (inr (first.At e at, refuses, inr stops)) = inr (inr stops)
told_of_tree text tree old new exit h (inr (first.Memory, refuses, stops)) = inr (inr stops)

pub told_of_text : (text : List ℕ) (fault : SettingsFault) (old new : Output) (exit : Exit) → RefusesText text fault
    → Locates fault old new exit → TellsSettings text old new exit
told_of_text text (first.At e at) old new exit refuses (inl told) =
    let place = place_view (λ t. t.now) at in
    let is_text : e ≡ Text = ap (λ f. f.0) (refuses.1.in_text refuses.0).2 in
    let refused : reading text ≡ Err e = ap (λ o. option_map_or read_tree o (Err Text)) refuses.0 ∙ ap Err (sym is_text) in
    inr (inl (told.0, mistake_is text told.0 (e, place) refused refuses.1 told.1, told.2))
told_of_text text (first.At e at) old new exit refuses (inr stops) = inr (inr stops)
told_of_text text first.Memory old new exit refuses stops = inr (inr stops)
