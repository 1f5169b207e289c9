-- What a device reports of its two sides, and what one call meets there.
use Rattle.std.specs.Prelude.{ℕ, ◌≡◌, ◌+◌, ◌<◌, ◌≤◌, ◌⊎◌, List, ◌++◌, Bool, false, Option, None, length, option_map, take}

-- What was read: the bytes that it gave so far, in order, and how many timeouts there were, each only if it reports them; how often a read
-- failed; and whether the last read found the end, which is false before the first.
pub record Input : Type 0 where
  pub given : Option (List ℕ)
  pub lulls : Option ℕ
  pub failures : ℕ
  pub has_ended : Bool

-- What was written: the bytes that it took so far, in order, only if it reports them, and how often a write failed.
pub record Output : Type 0 where
  pub got : Option (List ℕ)
  pub failures : ℕ

-- the sides of a device that is no source, or no sink
abbrev pub no_input : Input
no_input = record { given = None; lulls = None; failures = 0; has_ended = false }

abbrev pub no_output : Output
no_output = record { got = None; failures = 0 }

-- what a device that reports its bytes has reported, and these more
abbrev pub and_then : Option (List ℕ) → List ℕ → Option (List ℕ)
and_then before more = option_map (λ bytes. bytes ++ more) before

-- what a device that reports its timeouts has reported, and so many more
abbrev pub counted : Option ℕ → ℕ → Option ℕ
counted before more = option_map (λ n. n + more) before

-- ---- reading

-- What one call met at its source: the bytes that it took, in order, the timeouts, the reads that failed, and whether the last read found
-- the end.
pub record Met : Type 0 where
  pub bytes : List ℕ
  pub lulls : ℕ
  pub failures : ℕ
  pub has_ended : Bool

-- The side of a source before a call, what the call met there, and the side after it.
abbrev pub Meets : Input → Met → Input → Type 0
Meets old met new =
    (new.given ≡ and_then old.given met.bytes) × (new.lulls ≡ counted old.lulls met.lulls)
    × (new.failures ≡ old.failures + met.failures) × (new.has_ended ≡ met.has_ended)

-- no read failed, and no more timeouts came than one call waits out
abbrev pub Undisturbed : Met → Type 0
Undisturbed met = (met.failures ≡ 0) × (met.lulls ≤ 64)

-- a read failed, or the source timed out for the 65th time
abbrev pub GaveUp : Met → Type 0
GaveUp met = (met.failures ≡ 1) ⊎ (met.lulls ≡ 65)

-- ---- writing

-- The side of a sink before a text was written and after it: it has the whole text, and no write failed.
abbrev pub HasText : Output → List ℕ → Output → Type 0
HasText old text new = (new.got ≡ and_then old.got text) × (new.failures ≡ old.failures)

-- The same if a write failed: it has a prefix of so many bytes, and not the whole text.
abbrev pub HasPrefix : Output → List ℕ → ℕ → Output → Type 0
HasPrefix old text count new =
    (new.got ≡ and_then old.got (take count text)) × (count < length text) × (new.failures ≡ old.failures + 1)
