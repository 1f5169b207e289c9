-- The keys of a services file, by the rows of the code.
use Rattle.std.specs.Prelude.{ℕ, List, map}
use Rattle.file_keys.specs.Keys.{AreInRange, Key, name_of, number_named, row_view}
use Rattle.service_settings.specs.Services.{Services}
use Rattle.service_settings.specs.declared.keys.TheConstants.{BACKLOG, CONNECT_MS, FUNCTIONS, FUNCTION_KEYS, HOSTS, LISTEN, MACHINES}
use Rattle.service_settings.specs.declared.keys.TheConstants.{MACHINE_KEYS, PAGE, PAGE_KEYS, RESEND, RETRIES, TIMEOUT_MS}
use Rattle.service_settings.specs.declared.keys.TheConstants.{TOP_KEYS, URL, VERSION}

abbrev pub version_row : Key
version_row = row_view (λ t. t.now) VERSION

abbrev pub url_row : Key
url_row = row_view (λ t. t.now) URL

abbrev pub connect_ms_row : Key
connect_ms_row = row_view (λ t. t.now) CONNECT_MS

abbrev pub functions_row : Key
functions_row = row_view (λ t. t.now) FUNCTIONS

abbrev pub machines_row : Key
machines_row = row_view (λ t. t.now) MACHINES

abbrev pub page_row : Key
page_row = row_view (λ t. t.now) PAGE

abbrev pub timeout_ms_row : Key
timeout_ms_row = row_view (λ t. t.now) TIMEOUT_MS

abbrev pub retries_row : Key
retries_row = row_view (λ t. t.now) RETRIES

abbrev pub resend_row : Key
resend_row = row_view (λ t. t.now) RESEND

abbrev pub listen_row : Key
listen_row = row_view (λ t. t.now) LISTEN

abbrev pub hosts_row : Key
hosts_row = row_view (λ t. t.now) HOSTS

abbrev pub backlog_row : Key
backlog_row = row_view (λ t. t.now) BACKLOG

abbrev pub top_keys : List Key
top_keys = map (row_view (λ t. t.now)) TOP_KEYS

abbrev pub function_keys : List Key
function_keys = map (row_view (λ t. t.now)) FUNCTION_KEYS

abbrev pub machine_keys : List Key
machine_keys = map (row_view (λ t. t.now)) MACHINE_KEYS

abbrev pub page_keys : List Key
page_keys = map (row_view (λ t. t.now)) PAGE_KEYS

-- the number of each key of the top table is in its range
abbrev pub AllInRange : List ℕ → Type 0
AllInRange numbers = AreInRange top_keys numbers

-- how long a connection may take
abbrev pub connect_ms_of : Services → ℕ
connect_ms_of services = number_named top_keys (name_of connect_ms_row) services.numbers
