-- What `settings` writes, and how it ends.
use Rattle.std.specs.Prelude.{◌≡◌, ◌⊎◌, ◌++◌, ℕ, List, Some, Ok}
use Rattle.byte_io.specs.Sides.{Output}
use Rattle.toml.specs.Data.{Members}
use Rattle.plan_commands.specs.Ending.{Delivers, Stops}
use Rattle.plan_commands.specs.Fault.{answered, refused}
use Rattle.plan_commands.specs.declared.ending.Exit.{Exit}
use Rattle.plan_commands.specs.declared.fault.Fault.TheVariants as fault
use Rattle.plan_commands.specs.Mistake.{IsMistakeOf, kept_view, mistake_view}
use Rattle.plan_commands.specs.declared.mistake.Mistake.{Mistake}
use Rattle.pool_settings.specs.Fault.{RefusesTree}
use Rattle.pool_settings.specs.Place.{place_view}
use Rattle.pool_settings.specs.Settings.{Settings}
use Rattle.pool_settings.specs.Reading.{read_tree, reading, tree_of}
use Rattle.pool_settings.specs.declared.fault.SettingsFault.{SettingsFault}
use Rattle.pool_settings.specs.declared.fault.SettingsFault.TheVariants as first
use Rattle.settings_command.specs.Meaning.{meaning}
use Rattle.settings_command.specs.Place.{line_of_place}
use Rattle.settings_command.specs.Remarks.{AreRunRemarks}

-- The text is what the settings mean, of which the file gives the keys of this tree, and then what a farm of them cannot do under `run`.
abbrev pub IsMeaning : Members → Settings → List ℕ → Type 0
IsMeaning tree settings text = (remarks : List ℕ) × AreRunRemarks settings remarks × (text ≡ meaning tree settings ++ remarks)

-- What the settings mean is written, with the remarks on their farm. Or memory is refused, and nothing is written.
abbrev pub Means : Members → Settings → Output → Output → Exit → Type 0
Means tree settings old new exit =
    ((text : List ℕ) × IsMeaning tree settings text × Delivers text (answered 0) old new exit) ⊎ Stops fault.Memory old new exit

-- The line of the place of a mistake is written, and the command ends by that mistake.
abbrev pub TellsPlace : Mistake → Output → Output → Exit → Type 0
TellsPlace mistake old new exit = Delivers (line_of_place (kept_view mistake.place)) (refused (fault.Settings mistake)) old new exit

-- The place of this fault is written, and the command ends by it. Or memory is refused, and nothing is written.
abbrev pub Locates : SettingsFault → Output → Output → Exit → Type 0
Locates (first.At e at) old new exit =
    ((mistake : Mistake) × (mistake_view mistake ≡ (e, place_view (λ t. t.now) at)) × TellsPlace mistake old new exit)
    ⊎ Stops fault.Memory old new exit
Locates first.Memory old new exit = Stops fault.Memory old new exit

-- What the tree of a file means is written, or where its first fault is.
abbrev pub Explains : Members → Output → Output → Exit → Type 0
Explains tree old new exit =
    ((settings : Settings) × (read_tree tree ≡ Ok settings) × Means tree settings old new exit)
    ⊎ ((f : SettingsFault) × RefusesTree tree f × Locates f old new exit)

-- What the settings mean is written, by the tree of the file.
abbrev pub TellsMeaning : List ℕ → Settings → Output → Output → Exit → Type 0
TellsMeaning file settings old new exit = (tree : Members) × (tree_of file ≡ Some tree) × Means tree settings old new exit

-- The file means settings, which are explained. Or it is refused by its first mistake, whose place is written. Or memory is refused, and
-- nothing is written.
abbrev pub TellsSettings : List ℕ → Output → Output → Exit → Type 0
TellsSettings file old new exit =
    ((settings : Settings) × (reading file ≡ Ok settings) × TellsMeaning file settings old new exit)
    ⊎ (((mistake : Mistake) × IsMistakeOf file mistake × TellsPlace mistake old new exit)
    ⊎ Stops fault.Memory old new exit)
