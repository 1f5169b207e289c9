-- The first fault of a services file, and where it is.
use Rattle.std.specs.Prelude.{◌≡◌, ◌≢◌, ℕ, List, Option, Some, None, Result, Ok, Err}
use Rattle.toml.specs.Data.{Members}
use Rattle.toml.specs.Errors.{IsBlank}
use Rattle.pool_settings.specs.Fault as settings
use Rattle.pool_settings.specs.Settings.{Settings}
use Rattle.pool_settings.specs.declared.error.SettingsError.TheVariants as settings_error
use Rattle.pool_settings.specs.declared.fault.SettingsFault.TheVariants as settings_fault
use Rattle.service_settings.specs.Place.{place_view}
use Rattle.service_settings.specs.Reading as reading
use Rattle.service_settings.specs.declared.error.ServicesError.{ServicesError}
use Rattle.service_settings.specs.declared.error.ServicesError.TheVariants as error
use Rattle.service_settings.specs.declared.fault.ServicesFault.{ServicesFault}
use Rattle.service_settings.specs.declared.fault.ServicesFault.TheVariants as fault
use Rattle.service_settings.specs.declared.place.ServicesPlace.TheVariants as place

-- the refusal without its place
abbrev pub error_of : ServicesFault → ServicesError
error_of (fault.At e at) = e
error_of fault.Memory = error.Memory

-- a fault of the file, apart from where its texts lie
abbrev pub fault_of : ServicesFault → Option reading.Fault
fault_of (fault.At e at) = Some (e, place_view (λ t. t.now) at)
fault_of fault.Memory = None

-- the same of a call that may have met one
abbrev pub fault_in : {A : Type 0} → Result A ServicesFault → Option reading.Fault
fault_in (Ok value) = None
fault_in (Err fault) = fault_of fault

-- A text is refused that has no tree, at the place where a settings file with this text is. Out of memory is no fault of the text, and
-- does not come with a blank one.
abbrev pub RefusesText : List ℕ → ServicesFault → Type 0
RefusesText text (fault.At e (place.At at)) =
    (e ≡ error.Text) × settings.RefusesText text (settings_fault.At settings_error.Text at)
RefusesText text (fault.At e (place.PageKey key)) = ⊥
RefusesText text fault.Memory = ¬ IsBlank text

-- A tree is refused by its first fault. Out of memory comes only with a tree that has none.
abbrev pub RefusesTree : Settings → Members → ServicesFault → Type 0
RefusesTree settings tree (fault.At e at) =
    (e ≢ error.Memory) × (reading.first_fault settings tree ≡ Some (e, place_view (λ t. t.now) at))
RefusesTree settings tree fault.Memory = reading.first_fault settings tree ≡ None

-- A tree that is read for its page is refused by this fault, or memory is.
abbrev pub RefusesPage : Members → ServicesFault → Type 0
RefusesPage tree (fault.At e at) = reading.page_reading tree ≡ Err (e, place_view (λ t. t.now) at)
RefusesPage tree fault.Memory = Unit {0}
