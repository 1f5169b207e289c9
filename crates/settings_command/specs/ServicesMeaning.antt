-- What services mean, as lines of one fact each.
use Rattle.std.specs.Prelude.{ℕ, List, [], None, true, if◌then◌else◌, ◌++◌, codes, slice_get, slice_index, slice_index_or}
use Rattle.std.specs.List.{flat_map}
use Rattle.std.specs.Option.{option_map_or}
use Rattle.std.specs.Fmt.{decimal}
use Rattle.toml.specs.Data.{Members}
use Rattle.pool_settings.specs.Names.{name_at}
use Rattle.file_keys.specs.Keys.{Key, name_of, number_of}
use Rattle.file_keys.specs.Tree.{has_key}
use Rattle.pool_settings.specs.Settings.{Settings}
use Rattle.service_settings.specs.Keys.{top_keys}
use Rattle.service_settings.specs.Reading.{function_has_key, timeout_key}
use Rattle.service_settings.specs.Services.{Page, Services}
use Rattle.settings_command.specs.Meaning.{functions, machines, mark}
use Rattle.text_pieces.specs.Lines.{ended}

-- a number of the top table, and what marks a default
abbrev pub number_line : List ℕ → ℕ → List ℕ → List ℕ
number_line name number marked = ended (codes "services " ++ name ++ codes " " ++ decimal number ++ marked)

-- the line of a key; one whose value is no number has none
abbrev pub key_line : Members → Key → List ℕ
key_line tree key = option_map_or (λ n. number_line (name_of key) n (mark (has_key (name_of key) tree))) (number_of key tree) []

-- where the jobs of a machine go: as in the file, with the port in any case, and without a slash at the end
abbrev pub url_line : List ℕ → List ℕ → List ℕ → List ℕ
url_line machine host path = ended (codes "machine " ++ machine ++ codes " url http://" ++ host ++ path)

abbrev pub machine_line : Settings → Services → ℕ → List ℕ
machine_line settings services machine =
    option_map_or (λ url. url_line (name_at settings.machines machine) url.host url.path) (slice_get services.urls machine) []

-- how long a job of a function may take, and what marks a default
abbrev pub timeout_line : List ℕ → ℕ → List ℕ → List ℕ
timeout_line function timeout marked = ended (codes "function " ++ function ++ codes " timeout_ms " ++ decimal timeout ++ marked)

-- how many times a job of a function that services leave unserved comes again before it fails
abbrev pub retries_line : List ℕ → ℕ → List ℕ
retries_line function retries = ended (codes "function " ++ function ++ codes " retries " ++ decimal retries)

-- that no job of a function is sent once more
abbrev pub no_resend_line : List ℕ → List ℕ
no_resend_line function = ended (codes "function " ++ function ++ codes " resend false")

-- the lines of a function: one of its time, one of its bound of retries, if it has one, and one if none of its jobs is sent once more
abbrev pub function_lines : Members → Settings → Services → ℕ → List ℕ
function_lines tree settings services f =
    timeout_line (name_at settings.functions f) (slice_index services.timeouts f)
    (mark (function_has_key (name_at settings.functions f) timeout_key tree))
    ++ option_map_or (retries_line (name_at settings.functions f)) (slice_index_or services.retries f None) []
    ++ (if slice_index_or services.resends f true then [] else no_resend_line (name_at settings.functions f))

abbrev pub listen_line : List ℕ → List ℕ
listen_line address = ended (codes "page listen " ++ address)

abbrev pub host_line : List ℕ → List ℕ
host_line host = ended (codes "page host " ++ host)

-- how many jobs may wait for each worker of a function
abbrev pub backlog_line : ℕ → List ℕ
backlog_line backlog = ended (codes "page backlog " ++ decimal backlog)

-- where the page is, a line for each further name of it, and one of the wanted backlog, if there is one
abbrev pub page_lines : Page → List ℕ
page_lines page =
    listen_line page.listen ++ flat_map host_line page.hosts ++ option_map_or backlog_line page.backlog []

-- what services mean, of which the file gives the keys of this tree
abbrev pub services_meaning : Members → Settings → Services → List ℕ
services_meaning tree settings services =
    flat_map (key_line tree) top_keys
    ++ flat_map (machine_line settings services) (machines settings)
    ++ flat_map (function_lines tree settings services) (functions settings)
    ++ option_map_or page_lines services.page []
