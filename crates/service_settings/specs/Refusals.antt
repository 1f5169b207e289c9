-- What a fault line says of services that are not taken.
use Rattle.std.specs.Prelude.{codes}
use Rattle.refusal.specs.Label.{Label, label}
use Rattle.service_settings.specs.declared.error.ServicesError.{ServicesError}
use Rattle.service_settings.specs.declared.error.ServicesError.TheVariants as fault

abbrev pub services_label : ServicesError → Label
services_label fault.Text = label 1 (codes "Text")
services_label fault.Version = label 2 (codes "Version")
services_label fault.UnknownKey = label 3 (codes "UnknownKey")
services_label fault.MissingKey = label 4 (codes "MissingKey")
services_label fault.BadValue = label 5 (codes "BadValue")
services_label fault.UnknownMachine = label 6 (codes "UnknownMachine")
services_label fault.UnknownFunction = label 7 (codes "UnknownFunction")
services_label fault.Https = label 8 (codes "Https")
services_label fault.BadUrl = label 9 (codes "BadUrl")
services_label fault.DotFunction = label 10 (codes "DotFunction")
services_label fault.NoUrl = label 11 (codes "NoUrl")
services_label fault.Memory = label 12 (codes "Memory")
