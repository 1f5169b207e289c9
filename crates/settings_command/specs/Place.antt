-- Where a fault of a settings file or a services file is, as a line.
use Rattle.std.specs.Prelude.{ℕ, List, [], ◌∷◌, ◌++◌, codes, if◌then◌else◌}
use Rattle.std.specs.Char.{is_ascii_graphic}
use Rattle.std.specs.Fmt.{decimal}
use Rattle.std.specs.List.{list_all}
use Rattle.toml_writer.specs.Text.{key_text}
use Rattle.pool_settings.specs.declared.place.Counted.{Counted}
use Rattle.pool_settings.specs.declared.place.Counted.TheVariants as counted
use Rattle.pool_settings.specs.declared.place.Place.{Place}
use Rattle.pool_settings.specs.declared.place.Place.TheVariants as place
use Rattle.pool_settings.specs.declared.place.Section.{Section}
use Rattle.pool_settings.specs.declared.place.Section.TheVariants as section
use Rattle.service_settings.specs.declared.place.ServicesPlace.{ServicesPlace}
use Rattle.service_settings.specs.declared.place.ServicesPlace.TheVariants as services_place

abbrev pub section_name : Section → List ℕ
section_name section.Functions = codes "functions"
section_name section.Machines = codes "machines"

abbrev pub counted_name : Counted → List ℕ
counted_name counted.Machines = codes "machines"
counted_name counted.Functions = codes "functions"
counted_name counted.Workers = codes "workers"

-- a text as it is, or in quotes, as TOML writes a key, if a byte of it is not printable
unfoldable pub printable : List ℕ → List ℕ
printable text = if list_all is_ascii_graphic text then text else key_text text

-- the name of a function or a machine in its table
unfoldable pub entry_words : Section → List ℕ → List ℕ
entry_words section name = section_name section ++ codes "." ++ key_text name

-- a name that a machine lists
abbrev pub listed_words : List ℕ → List ℕ → List ℕ
listed_words machine function = entry_words section.Machines machine ++ codes ".functions " ++ key_text function

-- A line and a column, a key by its path, or what there are too many of. Each key and each name is written as TOML writes a key: bare,
-- or in quotes on the same line.
abbrev pub place_words : Place (List ℕ) → List ℕ
place_words (place.Text line column) = codes "line " ++ decimal line ++ codes " column " ++ decimal column
place_words (place.Key key) = key_text key
place_words (place.Entry section name) = entry_words section name
place_words (place.EntryKey section name key) = entry_words section name ++ codes "." ++ key_text key
place_words (place.Listed machine function) = listed_words machine function
place_words (place.Count counted) = counted_name counted

abbrev pub line_of_place : Place (List ℕ) → List ℕ
line_of_place at = codes "at " ++ place_words at ++ 10 ∷ []

-- a key of the page of a services file
abbrev pub line_of_page_key : List ℕ → List ℕ
line_of_page_key key = codes "at page." ++ key_text key ++ 10 ∷ []

abbrev pub line_of_services_place : ServicesPlace (List ℕ) → List ℕ
line_of_services_place (services_place.At at) = line_of_place at
line_of_services_place (services_place.PageKey key) = line_of_page_key key
