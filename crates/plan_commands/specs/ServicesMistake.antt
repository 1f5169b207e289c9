-- The first mistake of a services file beside settings, and what reading one comes to.
use Rattle.std.specs.Prelude.{◌≡◌, ℕ, List, None, Some, Result, Ok, Err, string_bytes, String}
use Rattle.std.specs.declared.alloc.Global.{Global}
use Rattle.toml.specs.Data.{Members}
use Rattle.pool_settings.specs.Fault.{IsFoundIn}
use Rattle.pool_settings.specs.Reading as settings
use Rattle.pool_settings.specs.Settings.{Settings}
use Rattle.pool_settings.specs.declared.error.SettingsError.TheVariants as settings_error
use Rattle.service_settings.specs.Fault.{fault_of}
use Rattle.service_settings.specs.Place.{place_view}
use Rattle.service_settings.specs.Reading as services
use Rattle.service_settings.specs.Services.{Page, Services}
use Rattle.service_settings.specs.declared.error.ServicesError.TheVariants.{Text}
use Rattle.service_settings.specs.declared.fault.ServicesFault.{ServicesFault}
use Rattle.service_settings.specs.declared.place.ServicesPlace.{ServicesPlace}
use Rattle.service_settings.specs.declared.place.ServicesPlace.TheVariants as place
use Rattle.plan_commands.specs.declared.fault.Fault.{Fault}
use Rattle.plan_commands.specs.declared.fault.Fault.TheVariants as fault
use Rattle.plan_commands.specs.declared.services_mistake.ServicesMistake.{ServicesMistake}

-- a place, apart from how its texts are held
abbrev pub kept_view : ServicesPlace (String Global) → services.Where
kept_view place = place_view string_bytes place

-- a mistake, apart from how its texts are held
abbrev pub mistake_view : ServicesMistake → services.Fault
mistake_view mistake = (mistake.error, kept_view mistake.place)

-- The mistake is the first of the file beside the settings, at a place where it is: of a text that is no TOML a place in it, where a
-- settings file with this text is at fault too.
pub record IsServicesMistakeOf (p : Settings) (services_text : List ℕ) (mistake : ServicesMistake) : Type 0 where
  pub first : services.reading p services_text ≡ Err mistake.error
  pub in_tree : (tree : Members) → settings.tree_of services_text ≡ Some tree → services.first_fault p tree ≡ Some (mistake_view mistake)
  pub in_text : settings.tree_of services_text ≡ None → (at : settings.Where) × (kept_view mistake.place ≡ place.At at)
      × IsFoundIn services_text (settings_error.Text, at)

-- The fault of a command has the error and the place that were found. Or there is no memory for them.
abbrev pub KeepsServices : ServicesFault → Fault → Type 0
KeepsServices found (fault.Services mistake) = fault_of found ≡ Some (mistake_view mistake)
KeepsServices found fault.Memory = Unit {0}
KeepsServices found other = ⊥

-- What reading a services file beside settings comes to: its services, or its first mistake. Or memory is refused.
abbrev pub ReadsServices : Settings → List ℕ → Result Services Fault → Type 0
ReadsServices p services_text (Ok read) = services.reading p services_text ≡ Ok read
ReadsServices p services_text (Err (fault.Services mistake)) = IsServicesMistakeOf p services_text mistake
ReadsServices p services_text (Err fault.Memory) = Unit {0}
ReadsServices p services_text (Err other) = ⊥

-- The mistake is the first of the file as it is read for its page, at a place where it is, as above.
pub record IsPageMistakeOf (services_text : List ℕ) (mistake : ServicesMistake) : Type 0 where
  pub in_tree : (tree : Members) → settings.tree_of services_text ≡ Some tree → services.page_reading tree ≡ Err (mistake_view mistake)
  pub in_text : settings.tree_of services_text ≡ None → (mistake.error ≡ Text)
      × ((at : settings.Where) × (kept_view mistake.place ≡ place.At at) × IsFoundIn services_text (settings_error.Text, at))

-- What reading a services file for its page comes to: the page, or the first mistake of the file. Or memory is refused.
abbrev pub ReadsPage : List ℕ → Result Page Fault → Type 0
ReadsPage services_text (Ok page) =
    (tree : Members) × (settings.tree_of services_text ≡ Some tree) × (services.page_reading tree ≡ Ok page)
ReadsPage services_text (Err (fault.Services mistake)) = IsPageMistakeOf services_text mistake
ReadsPage services_text (Err fault.Memory) = Unit {0}
ReadsPage services_text (Err other) = ⊥
