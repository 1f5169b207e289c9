-- Where in a settings file a fault is.
use Rattle.std.specs.Prelude.{List, [], ◌∷◌, Bool, Option, Some, None, if◌then◌else◌}
use Rattle.std.specs.Option.{option_or}
use Rattle.file_keys.specs.Tree.{Entry}
use Rattle.pool_settings.specs.declared.place.Place.{Place}
use Rattle.pool_settings.specs.declared.place.Place.TheVariants as place

-- a place, apart from how its texts are held
abbrev pub place_view : {T U : Type 0} → (T → U) → Place T → Place U
place_view text (place.Text line column) = place.Text line column
place_view text (place.Key key) = place.Key (text key)
place_view text (place.Entry section name) = place.Entry section (text name)
place_view text (place.EntryKey section name key) = place.EntryKey section (text name) (text key)
place_view text (place.Listed machine function) = place.Listed (text machine) (text function)
place_view text (place.Count counted) = place.Count counted

-- what is not good is a fault there
abbrev pub unless : {P : Type 0} → Bool → P → Option P
unless good place = if good then None else Some place

-- the first of the faults
abbrev pub first_of : {P : Type 0} → List (Option P) → Option P
first_of [] = None
first_of (fault ∷ faults) = option_or fault (first_of faults)

-- the first fault that a check finds in the entries of a table, in the order of their keys
abbrev pub first_in : {P : Type 0} → (Entry → Option P) → List Entry → Option P
first_in check [] = None
first_in check (entry ∷ entries) = option_or (check entry) (first_in check entries)
