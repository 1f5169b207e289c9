-- What a fault is about, as a line for people.
use Rattle.std.specs.Prelude.{◌≡◌, ℕ, List, [], ◌∷◌, ◌++◌, codes, get_or, map, Option, option_map, unwrap_or}
use Rattle.plan_commands.specs.Mistake.{kept_view}
use Rattle.plan_commands.specs.ServicesMistake.{kept_view as services_view}
use Rattle.plan_commands.specs.declared.fault.Fault.{Fault}
use Rattle.plan_commands.specs.declared.fault.Fault.TheVariants as fault
use Rattle.plan_commands.specs.declared.fault.NamedFile.TheVariants as file
use Rattle.plan_commands.specs.declared.mistake.Mistake.{Mistake}
use Rattle.plan_commands.specs.declared.services_mistake.ServicesMistake.{ServicesMistake}
use Rattle.settings_command.specs.Place.{line_of_place, line_of_services_place, printable}
use Rattle.fault_detail.specs.declared.given.Given.{Given}
use Rattle.fault_detail.specs.declared.given.Subject.{Subject}
use Rattle.fault_detail.specs.declared.given.Subject.TheVariants as given

-- what a command was given, by name: its settings file, its services file and the file of its status text, if it has them, and its lost
-- workers
pub record Names : Type 0 where
  pub settings : List ℕ
  pub services : Option (List ℕ)
  pub status : Option (List ℕ)
  pub lost : List (List ℕ)

abbrev pub names_of : Given → Names
names_of given = record {
  settings = given.settings.now;
  services = option_map (λ name. name.now) given.services;
  status = option_map (λ name. name.now) given.status;
  lost = map (λ name. name.now) given.lost.now;
}

abbrev pub services_words : Names → List ℕ
services_words names = unwrap_or (option_map printable names.services) (codes "the services file")

abbrev pub status_words : Names → List ℕ
status_words names = unwrap_or (option_map printable names.status) (codes "standard input")

abbrev pub lost_words : ℕ → Names → List ℕ
lost_words place names = printable (get_or names.lost place [])

-- what a fault is about: a file by its name, a lost worker by its name, a standard stream, or the page of a farm; names are in quotes if a
-- byte of them is not printable
abbrev pub subject : Names → Fault → List ℕ
subject names (fault.Settings mistake) = printable names.settings
subject names (fault.File file.Settings why) = printable names.settings
subject names (fault.Services mistake) = services_words names
subject names (fault.File file.Services why) = services_words names
subject names (fault.Status why) = status_words names
subject names (fault.File file.Status why) = status_words names
subject names (fault.UnknownWorker place) = lost_words place names
subject names fault.WriteFault = codes "standard output"
subject names (fault.Page why) = codes "the page"
subject names fault.Memory = codes "memory"
subject names other = codes "standard input"

-- what is printed of what a fault is about
abbrev pub subject_words : Subject → List ℕ
subject_words (given.Named name) = printable name.now
subject_words (given.Unnamed words) = words.now

-- where a mistake is in the settings or the services, and the end of the line
abbrev pub place_end : Mistake → List ℕ
place_end mistake = 32 ∷ line_of_place (kept_view mistake.place)

abbrev pub services_place_end : ServicesMistake → List ℕ
services_place_end mistake = 32 ∷ line_of_services_place (services_view mistake.place)

abbrev pub line_end : Fault → List ℕ
line_end (fault.Settings mistake) = place_end mistake
line_end (fault.Services mistake) = services_place_end mistake
line_end other = 10 ∷ []

-- The line says what a fault is about, then some sentence, and then, for a mistake in the settings or the services, where it is.
abbrev pub IsDetail : Names → Fault → List ℕ → Type 0
IsDetail names fault line =
    (sentence : List ℕ) × (line ≡ codes "poolman: " ++ subject names fault ++ codes ": " ++ sentence ++ line_end fault)
