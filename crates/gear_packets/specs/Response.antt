-- What a server sends, by cases on the magic, the type and the body.
use Rattle.std.specs.Prelude.{ℕ, ◌==◌, nat_lt, if◌then◌else◌, List, [], ◌∷◌, length, Some, None, Result, Ok, Err}
use Rattle.gear_packets.specs.declared.fault.StreamFault.{StreamFault}
use Rattle.gear_packets.specs.declared.fault.StreamFault.TheVariants.{BadMagic, TooLarge, BadBody, HandleTooLong}
use Rattle.gear_packets.specs.Frame.{response_magic, Prefix, wrong_magic, too_large, unfinished, framed, prefix}
use Rattle.gear_packets.specs.Request.{cut}

-- a job that the server hands out
pub record AssignedJob : Type 0 where
  pub handle : List ℕ
  pub function : List ℕ
  pub unique : List ℕ
  pub payload : List ℕ

-- a packet of the server, with its arguments as lists of bytes
pub data Message : Type 0 where
  noop : Message
  no_job : Message
  assign : AssignedJob → Message
  server_error : List ℕ → List ℕ → Message
  other : ℕ → Message

infixl 10 ◌>>=◌
abbrev pub ◌>>=◌ : {A B : Type 0} → Result A StreamFault → (A → Result B StreamFault) → Result B StreamFault
(Ok x) >>= f = f x
(Err e) >>= f = Err e

-- an argument and what comes after its NUL
abbrev pub argument : List ℕ → Result (List ℕ × List ℕ) StreamFault
argument body = elim (cut body) [ None ↦ Err BadBody | Some p ↦ Ok p ]

abbrev pub bare : Message → List ℕ → Result Message StreamFault
bare m [] = Ok m
bare m (b ∷ body) = Err BadBody

abbrev pub assigned_job : AssignedJob → Result Message StreamFault
assigned_job a =
    if length a.handle == 0 then Err BadBody else (
    if nat_lt 63 (length a.handle) then Err HandleTooLong else
    Ok (assign a))

abbrev pub job : List ℕ → Result Message StreamFault
job body = do
  handle ← argument body
  function ← argument handle.1
  assigned_job (record { handle = handle.0; function = function.0; unique = []; payload = function.1 })

abbrev pub job_with_unique : List ℕ → Result Message StreamFault
job_with_unique body = do
  handle ← argument body
  function ← argument handle.1
  unique ← argument function.1
  assigned_job (record { handle = handle.0; function = function.0; unique = unique.0; payload = unique.1 })

abbrev pub error_of : List ℕ → Result Message StreamFault
error_of body = do
  code ← argument body
  Ok (server_error code.0 code.1)

-- what a type and a body say
unfoldable pub meaning : ℕ → List ℕ → Result Message StreamFault
meaning kind body =
    if kind == 6 then bare noop body else (
    if kind == 10 then bare no_job body else (
    if kind == 11 then job body else (
    if kind == 19 then error_of body else (
    if kind == 31 then job_with_unique body else
    Ok (other kind)))))

-- what is at the start of a stream
pub data Next : Type 0 where
  gives : Message → List ℕ → Next
  faulty : StreamFault → Next
  waits : Next

abbrev pub said : List ℕ → Result Message StreamFault → Next
said rest (Ok m) = gives m rest
said rest (Err f) = faulty f

abbrev pub response_in : Prefix → Next
response_in wrong_magic = faulty BadMagic
response_in too_large = faulty TooLarge
response_in unfinished = waits
response_in (framed kind body rest) = said rest (meaning kind body)

unfoldable pub first_response : List ℕ → Next
first_response bytes = response_in (prefix response_magic bytes)
