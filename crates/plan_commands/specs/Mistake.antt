-- The first mistake of a settings file, and what reading one comes to.
use Rattle.std.specs.Prelude.{◌≡◌, ℕ, List, Some, Result, Ok, Err, string_bytes, String}
use Rattle.std.specs.declared.alloc.Global.{Global}
use Rattle.pool_settings.specs.Fault.{IsFoundIn, fault_of}
use Rattle.pool_settings.specs.Place.{place_view}
use Rattle.pool_settings.specs.Reading.{Where, reading}
use Rattle.pool_settings.specs.Reading as settings
use Rattle.pool_settings.specs.Settings.{Settings}
use Rattle.pool_settings.specs.declared.fault.SettingsFault.{SettingsFault}
use Rattle.pool_settings.specs.declared.place.Place.{Place}
use Rattle.plan_commands.specs.declared.fault.Fault.{Fault}
use Rattle.plan_commands.specs.declared.fault.Fault.TheVariants as fault
use Rattle.plan_commands.specs.declared.mistake.Mistake.{Mistake}

-- a place, apart from how its texts are held
abbrev pub kept_view : Place (String Global) → Where
kept_view place = place_view string_bytes place

-- a mistake, apart from how its texts are held
abbrev pub mistake_view : Mistake → settings.Fault
mistake_view mistake = (mistake.error, kept_view mistake.place)

-- The mistake is the first of the file, at a place where it is.
abbrev pub IsMistakeOf : List ℕ → Mistake → Type 0
IsMistakeOf settings_text mistake =
    (reading settings_text ≡ Err mistake.error) × IsFoundIn settings_text (mistake_view mistake)

-- The fault of a command has the error and the place that were found. Or there is no memory for them.
abbrev pub Keeps : SettingsFault → Fault → Type 0
Keeps found (fault.Settings mistake) = fault_of found ≡ Some (mistake_view mistake)
Keeps found fault.Memory = Unit {0}
Keeps found other = ⊥

-- What reading a settings file comes to: its settings, or its first mistake. Or memory is refused.
abbrev pub Reads : List ℕ → Result Settings Fault → Type 0
Reads settings_text (Ok settings) = reading settings_text ≡ Ok settings
Reads settings_text (Err (fault.Settings mistake)) = IsMistakeOf settings_text mistake
Reads settings_text (Err fault.Memory) = Unit {0}
Reads settings_text (Err other) = ⊥
