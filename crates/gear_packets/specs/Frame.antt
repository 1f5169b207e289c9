-- A packet of either side: four bytes of magic, its type, the size of its body, and the body. Both numbers
-- have four bytes, the highest first.
use Rattle.std.specs.Prelude.{◌≡◌, ◌<◌, ◌^◌, All, ℕ, ◌+◌, Bool, true, ◌&&◌, ◌==◌, nat_lt, if◌then◌else◌, List, [], ◌∷◌, ◌++◌, length}
use Rattle.std.specs.Prelude.{take, drop}
use Rattle.byteorder.specs.Endian.{big_bytes, big_number}

abbrev pub request_magic : List ℕ
request_magic = 0 ∷ 82 ∷ 69 ∷ 81 ∷ []

abbrev pub response_magic : List ℕ
response_magic = 0 ∷ 82 ∷ 69 ∷ 83 ∷ []

-- the most bytes that a body may have
abbrev pub body_limit : ℕ
body_limit = 16777216

abbrev pub packet : List ℕ → ℕ → List ℕ → List ℕ
packet magic kind body = magic ++ (big_bytes 4 kind ++ (big_bytes 4 (length body) ++ body))

-- the bytes so far are those of the magic
abbrev pub agrees : List ℕ → List ℕ → Bool
agrees [] bytes = true
agrees (m ∷ magic) [] = true
agrees (m ∷ magic) (b ∷ bytes) = (m == b) && agrees magic bytes

abbrev pub kind_at : List ℕ → ℕ
kind_at bytes = big_number 4 (drop 4 bytes)

abbrev pub size_at : List ℕ → ℕ
size_at bytes = big_number 4 (drop 8 bytes)

-- what is at the start of a text
pub data Prefix : Type 0 where
  wrong_magic : Prefix
  too_large : Prefix
  unfinished : Prefix
  -- a packet's type and body, and the text after it
  framed : ℕ → List ℕ → List ℕ → Prefix

unfoldable pub prefix : List ℕ → List ℕ → Prefix
prefix magic bytes =
    if agrees magic bytes then (
    if nat_lt (length bytes) 12 then unfinished else (
    if nat_lt body_limit (size_at bytes) then too_large else (
    if nat_lt (length bytes) (12 + size_at bytes) then unfinished else
    framed (kind_at bytes) (take (size_at bytes) (drop 12 bytes)) (drop (12 + size_at bytes) bytes))))
    else wrong_magic

-- ---- laws

-- A number below 2 ^ 32 is read back from its four bytes, and four bytes are those of the number that they encode.
abbrev pub FourBytes : Type 0
FourBytes = ((n : ℕ) → n < 2 ^ 32 → big_number 4 (big_bytes 4 n) ≡ n)
    × ((bytes : List ℕ) → length bytes ≡ 4 → All (λ b. b < 256) bytes → big_bytes 4 (big_number 4 bytes) ≡ bytes)
