-- What a request asks for, and why one is refused.
use Rattle.std.specs.Prelude.{ℕ, List, Bool, true, false, not, ◌&&◌, ◌||◌, Option, Some, None, Result, Ok, Err, String}
use Rattle.std.specs.Prelude.{codes, if◌then◌else◌, is_some, string_bytes}
use Rattle.std.specs.Global.{Global}
use Rattle.std.specs.Char.{is_ascii_digit}
use Rattle.std.specs.List.{list_all, list_any}
use Rattle.std.specs.Option.{option_copied, option_map_or}
use Rattle.std.specs.Str.{bytes_eq, str_eq_ignore_ascii_case}
use Rattle.text_pieces.specs.Cuts.{cut_last}
use Rattle.farm_page.specs.declared.request.Asked.{Asked}
use Rattle.farm_page.specs.declared.request.Method.{Method}
use Rattle.farm_page.specs.declared.request.Method.TheVariants as method
use Rattle.farm_page.specs.declared.request.Place.{Place}
use Rattle.farm_page.specs.declared.request.Place.TheVariants as place
use Rattle.farm_page.specs.declared.request.Refusal.{Refusal}
use Rattle.farm_page.specs.declared.request.Refusal.TheVariants as refusal
use Rattle.farm_page.specs.declared.request.Site.{Site}

-- ---- the host

abbrev pub host_in : List ℕ → List ℕ × List ℕ → List ℕ
host_in value parts = if list_all is_ascii_digit parts.1 then parts.0 else value

-- the host of `HOST` or `HOST:PORT`
abbrev pub host_of : List ℕ → List ℕ
host_of value = option_map_or (host_in value) (cut_last 58 value) value

-- one host, whatever its port, in large or small letters
abbrev pub is_same_host : List ℕ → List ℕ → Bool
is_same_host value other = str_eq_ignore_ascii_case (host_of value) (host_of other)

abbrev pub is_listed : List (String Global) → List ℕ → Bool
is_listed hosts value = list_any (λ host. is_same_host value (string_bytes host)) hosts

-- where the page listens, `localhost`, or one of the further names
abbrev pub is_own : Site → List ℕ → Bool
is_own site value =
    is_same_host value site.listen.now
    || (is_same_host value (codes "localhost") || is_listed site.hosts.now value)

abbrev pub is_own_if : Site → Option (List ℕ) → Bool
is_own_if site None = true
is_own_if site (Some value) = is_own site value

-- the request names a host, in its target or in its header, and no other host
abbrev pub is_for : Site → Asked → Bool
is_for site asked =
    (is_some asked.host || is_some asked.authority)
    && (is_own_if site (option_copied asked.host) && is_own_if site (option_copied asked.authority))

-- ---- the path and the method

abbrev pub place_at : List ℕ → Option Place
place_at path =
    if bytes_eq path (codes "/") then Some place.Page
    else if bytes_eq path (codes "/metrics") then Some place.Metrics
    else if bytes_eq path (codes "/evidence") then Some place.Evidence
    else if bytes_eq path (codes "/report") then Some place.Report
    else if bytes_eq path (codes "/status.txt") then Some place.Status
    else if bytes_eq path (codes "/lost") then Some place.Lost
    else if bytes_eq path (codes "/relaxed/settings") then Some place.RelaxedSettings
    else if bytes_eq path (codes "/relaxed/report") then Some place.RelaxedReport
    else if bytes_eq path (codes "/size") then Some place.Size
    else if bytes_eq path (codes "/health") then Some place.Health
    else if bytes_eq path (codes "/live") then Some place.Live
    else if bytes_eq path (codes "/drain") then Some place.Drain
    else None

abbrev pub is_read : Method → Bool
is_read method.Get = true
is_read method.Head = true
is_read method.Post = false
is_read method.Other = false

abbrev pub is_post : Method → Bool
is_post method.Get = false
is_post method.Head = false
is_post method.Post = true
is_post method.Other = false

abbrev pub is_drain : Place → Bool
is_drain place.Page = false
is_drain place.Metrics = false
is_drain place.Evidence = false
is_drain place.Report = false
is_drain place.Status = false
is_drain place.Lost = false
is_drain place.RelaxedSettings = false
is_drain place.RelaxedReport = false
is_drain place.Size = false
is_drain place.Health = false
is_drain place.Live = false
is_drain place.Drain = true

-- a drain is asked for with its header, from this machine
abbrev pub drain_asked : Asked → Result Place Refusal
drain_asked asked =
    if not (is_post asked.method) then Err refusal.OnlyPosted
    else if asked.is_near && asked.asks_drain then Ok place.Drain
    else Err refusal.NoDrain

abbrev pub asked_at : Asked → Place → Result Place Refusal
asked_at asked at =
    if is_drain at then drain_asked asked
    else if is_read asked.method then Ok at
    else Err refusal.OnlyRead

-- what is asked for, or the first refusal: another host, no such path, another method, no drain
abbrev pub place_asked : Site → Asked → Result Place Refusal
place_asked site asked =
    if not (is_for site asked) then Err refusal.OtherHost
    else option_map_or (asked_at asked) (place_at asked.path.now) (Err refusal.NoSuchPath)
