-- What a fault line says of settings that are not taken.
use Rattle.std.specs.Prelude.{Bool, true, false, codes}
use Rattle.refusal.specs.Label.{Label, label}
use Rattle.pool_settings.specs.declared.error.SettingsError.{SettingsError}
use Rattle.pool_settings.specs.declared.error.SettingsError.TheVariants as fault

abbrev pub settings_label : SettingsError → Label
settings_label fault.Text = label 1 (codes "Text")
settings_label fault.Version = label 2 (codes "Version")
settings_label fault.UnknownKey = label 3 (codes "UnknownKey")
settings_label fault.MissingKey = label 4 (codes "MissingKey")
settings_label fault.BadName = label 5 (codes "BadName")
settings_label fault.BadValue = label 6 (codes "BadValue")
settings_label fault.UnknownFunction = label 7 (codes "UnknownFunction")
settings_label fault.TooMany = label 8 (codes "TooMany")
settings_label fault.Memory = label 9 (codes "Memory")

abbrev pub is_settings_memory : SettingsError → Bool
is_settings_memory fault.Memory = true
is_settings_memory _ = false
