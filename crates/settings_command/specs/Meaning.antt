-- What settings mean, as lines of one fact each.
use Rattle.std.specs.Prelude.{ℕ, List, [], ◌++◌, codes, ◌==◌, length, slice_index, slice_index_or, Bool, if◌then◌else◌}
use Rattle.std.specs.List.{flat_map, list_any, range_with_len}
use Rattle.std.specs.Option.{option_map_or}
use Rattle.std.specs.Fmt.{decimal}
use Rattle.toml.specs.Data.{Members}
use Rattle.file_keys.specs.Keys.{Key, name_of, number_of, text_of}
use Rattle.file_keys.specs.Tree.{has_key}
use Rattle.pool_settings.specs.Names.{name_at}
use Rattle.pool_settings.specs.Reading.{function_has_key, least_key, most_key, top_keys}
use Rattle.pool_settings.specs.Settings.{Settings}
use Rattle.pool_settings.specs.Rows.{may_do}
use Rattle.settings_command.specs.Place.{printable}
use Rattle.text_pieces.specs.Lines.{ended}

-- a value that the file does not give is a default
abbrev pub mark : Bool → List ℕ
mark is_given = if is_given then [] else codes " (default)"

abbrev pub number_line : List ℕ → ℕ → List ℕ
number_line key number = ended (key ++ codes " " ++ decimal number)

-- a number of the top table, and what marks a default
abbrev pub single_line : List ℕ → ℕ → List ℕ → List ℕ
single_line name number marked = ended (name ++ codes " " ++ decimal number ++ marked)

-- a text of the top table
abbrev pub text_line : List ℕ → List ℕ → List ℕ → List ℕ
text_line name text marked = ended (name ++ codes " " ++ printable text ++ marked)

-- the lines of a key: one if its value is a number, or a text of bounded length
abbrev pub number_lines : Members → Key → List ℕ
number_lines tree key = option_map_or (λ n. single_line (name_of key) n (mark (has_key (name_of key) tree))) (number_of key tree) []

abbrev pub text_lines : Members → Key → List ℕ
text_lines tree key = option_map_or (λ t. text_line (name_of key) t (mark (has_key (name_of key) tree))) (text_of key tree) []

abbrev pub key_lines : Members → Key → List ℕ
key_lines tree key = number_lines tree key ++ text_lines tree key

abbrev pub bound_line : Members → List ℕ → List ℕ → ℕ → List ℕ
bound_line tree function key number =
    ended (codes "function " ++ function ++ codes " " ++ key ++ codes " " ++ decimal number ++ mark (function_has_key function key tree))

abbrev pub functions : Settings → List ℕ
functions settings = range_with_len 0 (length settings.functions)

abbrev pub machines : Settings → List ℕ
machines settings = range_with_len 0 (length settings.machines)

-- the functions that a machine lists, each once
abbrev pub listed : Settings → ℕ → List ℕ
listed settings machine = slice_index_or settings.may machine []

abbrev pub function_lines : Members → Settings → ℕ → List ℕ
function_lines tree settings f =
    bound_line tree (name_at settings.functions f) least_key (slice_index settings.least f)
    ++ bound_line tree (name_at settings.functions f) most_key (slice_index settings.most f)

abbrev pub may_line : Settings → ℕ → ℕ → List ℕ
may_line settings machine f = ended (codes "may " ++ name_at settings.machines machine ++ codes " " ++ name_at settings.functions f)

abbrev pub machine_lines : Settings → ℕ → List ℕ
machine_lines settings machine =
    number_line (codes "machine " ++ name_at settings.machines machine ++ codes " workers") (slice_index settings.workers machine)
    ++ flat_map (may_line settings machine) (listed settings machine)

-- ---- remarks

abbrev pub is_listed : Settings → ℕ → Bool
is_listed settings f = list_any (λ machine. may_do settings machine f) (machines settings)

abbrev pub unlisted_line : List ℕ → List ℕ
unlisted_line function = ended (codes "remark no machine lists function " ++ function)

abbrev pub unlisted_remark : Settings → ℕ → List ℕ
unlisted_remark settings f = if is_listed settings f then [] else unlisted_line (name_at settings.functions f)

abbrev pub bare_line : List ℕ → List ℕ
bare_line machine = codes "remark machine " ++ machine ++ ended (codes " lists no function")

abbrev pub bare_remark : Settings → ℕ → List ℕ
bare_remark settings machine = if length (listed settings machine) == 0 then bare_line (name_at settings.machines machine) else []

abbrev pub remarks : Settings → List ℕ
remarks settings = flat_map (unlisted_remark settings) (functions settings) ++ flat_map (bare_remark settings) (machines settings)

-- ---- the whole text

-- what settings mean, of which the file gives the keys of this tree
abbrev pub meaning : Members → Settings → List ℕ
meaning tree settings =
    flat_map (key_lines tree) top_keys
    ++ flat_map (function_lines tree settings) (functions settings)
    ++ flat_map (machine_lines settings) (machines settings) ++ remarks settings
