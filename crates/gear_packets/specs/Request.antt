-- What a worker sends, and how each packet is encoded.
use Rattle.std.specs.Prelude.{◌≡◌, ℕ, ◌<◌, ◌≤◌, ◌^◌, Bool, false, ◌&&◌, ◌==◌, not, nat_lt, if◌then◌else◌, List, [], ◌∷◌, ◌++◌, length}
use Rattle.std.specs.Prelude.{Option, Some, None, decimal}
use Rattle.std.specs.Option.{option_map, option_and_then}
use Rattle.std.specs.List.{list_any}
use Rattle.text_pieces.specs.Cuts.{cut_first}
use Rattle.text_pieces.specs.Numbers.{plain_number_below}
use Rattle.gear_packets.specs.Frame.{request_magic, body_limit, packet, Prefix, wrong_magic, too_large, unfinished, framed, prefix}

-- a packet of a worker, with its arguments as lists of bytes
pub data Packet : Type 0 where
  can_do : List ℕ → Packet
  cant_do : List ℕ → Packet
  pre_sleep : Packet
  grab_job : Packet
  set_client_id : List ℕ → Packet
  work_status : List ℕ → ℕ → ℕ → Packet
  work_complete : List ℕ → List ℕ → Packet
  work_fail : List ℕ → Packet
  work_data : List ℕ → List ℕ → Packet
  work_warning : List ℕ → List ℕ → Packet

abbrev pub kind_of : Packet → ℕ
kind_of (can_do name) = 1
kind_of (cant_do name) = 2
kind_of pre_sleep = 4
kind_of grab_job = 30
kind_of (set_client_id text) = 22
kind_of (work_status handle part whole) = 12
kind_of (work_complete handle bytes) = 13
kind_of (work_fail handle) = 14
kind_of (work_data handle bytes) = 28
kind_of (work_warning handle bytes) = 29

-- Arguments are separated by one NUL byte. The last one runs to the end of the body.
abbrev pub body_of : Packet → List ℕ
body_of (can_do name) = name
body_of (cant_do name) = name
body_of pre_sleep = []
body_of grab_job = []
body_of (set_client_id text) = text
body_of (work_status handle part whole) = handle ++ 0 ∷ (decimal part ++ 0 ∷ decimal whole)
body_of (work_complete handle bytes) = handle ++ 0 ∷ bytes
body_of (work_fail handle) = handle
body_of (work_data handle bytes) = handle ++ 0 ∷ bytes
body_of (work_warning handle bytes) = handle ++ 0 ∷ bytes

-- the one encoding of a packet
abbrev pub encoding : Packet → List ℕ
encoding p = packet request_magic (kind_of p) (body_of p)

abbrev pub has_nul : List ℕ → Bool
has_nul bytes = list_any (λ b. b == 0) bytes

-- a job's handle: 1 to 63 bytes without NUL
pub record IsHandle (bytes : List ℕ) : Type 0 where
  pub nonempty : 0 < length bytes
  pub short : length bytes < 64
  pub no_nul : has_nul bytes ≡ false

-- what the arguments have to be
abbrev pub IsProper : Packet → Type 0
IsProper (can_do name) = has_nul name ≡ false
IsProper (cant_do name) = has_nul name ≡ false
IsProper pre_sleep = Unit {0}
IsProper grab_job = Unit {0}
IsProper (set_client_id text) = has_nul text ≡ false
IsProper (work_status handle part whole) = IsHandle handle × (part < 2 ^ 32) × (whole < 2 ^ 32)
IsProper (work_complete handle bytes) = IsHandle handle
IsProper (work_fail handle) = IsHandle handle
IsProper (work_data handle bytes) = IsHandle handle
IsProper (work_warning handle bytes) = IsHandle handle

-- the packet's name or text holds a NUL
abbrev pub names_nul : Packet → Bool
names_nul (can_do name) = has_nul name
names_nul (cant_do name) = has_nul name
names_nul pre_sleep = false
names_nul grab_job = false
names_nul (set_client_id text) = has_nul text
names_nul (work_status handle part all) = false
names_nul (work_complete handle bytes) = false
names_nul (work_fail handle) = false
names_nul (work_data handle bytes) = false
names_nul (work_warning handle bytes) = false

-- a packet that is sent: its arguments are proper, and its body is no longer than a body may be
pub record IsSent (p : Packet) : Type 0 where
  pub proper : IsProper p
  pub fits : length (body_of p) ≤ body_limit

-- ---- reading them

-- up to the first NUL, and after it
abbrev pub cut : List ℕ → Option (List ℕ × List ℕ)
cut bytes = cut_first 0 bytes

abbrev pub is_handle : List ℕ → Bool
is_handle bytes = nat_lt 0 (length bytes) && nat_lt (length bytes) 64 && not (has_nul bytes)

-- a number below 2 ^ 32, encoded as it is written
unfoldable pub number_of : List ℕ → Option ℕ
number_of text = plain_number_below (2 ^ 32) text

abbrev pub with_name : (List ℕ → Packet) → List ℕ → Option Packet
with_name make body = if has_nul body then None else Some (make body)

abbrev pub without_body : Packet → List ℕ → Option Packet
without_body p [] = Some p
without_body p (b ∷ body) = None

abbrev pub with_handle : (List ℕ → Packet) → List ℕ → Option Packet
with_handle make body = if is_handle body then Some (make body) else None

-- the handle, and the bytes after the first NUL
abbrev pub handle_and : List ℕ → Option (List ℕ × List ℕ)
handle_and body = option_and_then (λ p. if is_handle p.0 then Some p else None) (cut body)

abbrev pub with_bytes : (List ℕ → List ℕ → Packet) → List ℕ → Option Packet
with_bytes make body = option_map (λ p. make p.0 p.1) (handle_and body)

abbrev pub work_status_of : List ℕ → List ℕ × List ℕ → Option Packet
work_status_of handle q = option_and_then (λ part. option_map (λ whole. work_status handle part whole) (number_of q.1)) (number_of q.0)

abbrev pub with_numbers : List ℕ → Option Packet
with_numbers body = option_and_then (λ p. option_and_then (work_status_of p.0) (cut p.1)) (handle_and body)

-- the packet of a type and a body, if there is one
unfoldable pub request_of : ℕ → List ℕ → Option Packet
request_of kind body =
    if kind == 1 then with_name can_do body else (
    if kind == 2 then with_name cant_do body else (
    if kind == 4 then without_body pre_sleep body else (
    if kind == 12 then with_numbers body else (
    if kind == 13 then with_bytes work_complete body else (
    if kind == 14 then with_handle work_fail body else (
    if kind == 22 then with_name set_client_id body else (
    if kind == 28 then with_bytes work_data body else (
    if kind == 29 then with_bytes work_warning body else (
    if kind == 30 then without_body grab_job body else
    None)))))))))

abbrev pub request_in : Prefix → Option (Packet × List ℕ)
request_in wrong_magic = None
request_in too_large = None
request_in unfinished = None
request_in (framed kind body rest) = option_map (λ p. (p, rest)) (request_of kind body)

-- the packet at the start of a text, and the text after it
unfoldable pub first_request : List ℕ → Option (Packet × List ℕ)
first_request bytes = request_in (prefix request_magic bytes)

-- ---- laws

-- an encoding is of one packet
abbrev pub OneEncoding : Type 0
OneEncoding = (p q : Packet) → IsSent p → IsSent q → encoding p ≡ encoding q → p ≡ q

-- no encoding of a packet begins another
abbrev pub NoneBeginsAnother : Type 0
NoneBeginsAnother = (p q : Packet) (x y : List ℕ) → IsSent p → IsSent q → encoding p ++ x ≡ encoding q ++ y → (p ≡ q) × (x ≡ y)
