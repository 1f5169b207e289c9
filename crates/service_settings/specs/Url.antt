-- URLs of services: `http://HOST[:PORT][/PATH]`.
use Rattle.std.specs.Prelude.{ℕ, List, ◌++◌, Bool, false, not, ◌&&◌, ◌||◌, ◌==◌, is_some, take, drop}
use Rattle.std.specs.Prelude.{Option, Some, None, option_and_then, option_map, unwrap_or, if◌then◌else◌, codes}
use Rattle.std.specs.Char.{is_ascii_graphic}
use Rattle.std.specs.List.{list_all, prefix_len}
use Rattle.std.specs.Option.{option_map_or}
use Rattle.text_pieces.specs.Cuts.{cut_last}
use Rattle.file_keys.specs.Hosts.{after, before, is_host, is_port}
use Rattle.service_settings.specs.Services.{Url}

-- visible characters of ASCII
abbrev pub is_visible : List ℕ → Bool
is_visible text = list_all is_ascii_graphic text

-- a host, a colon and a port
abbrev pub is_host_with_port : List ℕ → Bool
is_host_with_port authority = option_map_or (λ cut. is_host cut.0 && is_port cut.1) (cut_last 58 authority) false

-- ---- what is between the slashes

-- a host, with a port or without one
abbrev pub is_authority : List ℕ → Bool
is_authority authority = is_visible authority && (is_host authority || is_host_with_port authority)

-- neither `?` nor `#`
abbrev pub is_no_mark : ℕ → Bool
is_no_mark b = not (b == 63) && not (b == 35)

abbrev pub is_path : List ℕ → Bool
is_path path = is_visible path && list_all is_no_mark path

abbrev pub is_no_slash : ℕ → Bool
is_no_slash b = not (b == 47)

-- what comes before the first slash, and from it on
abbrev pub authority_of : List ℕ → List ℕ
authority_of rest = take (prefix_len is_no_slash rest) rest

-- a slash at its end is dropped
abbrev pub without_slash : List ℕ → List ℕ
without_slash path = unwrap_or (before (codes "/") path) path

abbrev pub path_of : List ℕ → List ℕ
path_of rest = without_slash (drop (prefix_len is_no_slash rest) rest)

-- the authority and the path of what follows the scheme
abbrev pub parts_after : List ℕ → Option (List ℕ × List ℕ)
parts_after rest =
    if is_authority (authority_of rest) && is_path (path_of rest) then Some (authority_of rest, path_of rest) else None

abbrev pub parts_of : List ℕ → Option (List ℕ × List ℕ)
parts_of text = option_and_then parts_after (after (codes "http://") text)

-- ---- what a URL means

-- a host and its port, which is 80 if none is given
abbrev pub with_port : List ℕ → List ℕ
with_port authority = if is_host authority then authority ++ codes ":80" else authority

-- where a text says that jobs go, if it is a URL
abbrev pub url_of : List ℕ → Option Url
url_of text = option_map (λ parts. record { host = with_port parts.0; path = parts.1 }) (parts_of text)

abbrev pub is_https : List ℕ → Bool
is_https text = is_some (after (codes "https://") text)
