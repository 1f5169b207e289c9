-- A scripted device, as a value: what each of its calls does, and the script that it leaves.
use Rattle.std.specs.Prelude.{◌≡◌, ℕ, ◌+◌, ◌-◌, ◌<◌, ◌≤◌, ◌==◌, ◌⊎◌, List, [], ◌++◌, Bool, true, false, Option, None, Some, Result, Ok}
use Rattle.std.specs.Prelude.{Err, drop, get_or, if◌then◌else◌, length, min, take}
use Rattle.std.specs.List.{concat}
use Rattle.byte_io.specs.declared.device.DeviceFault.{DeviceFault}
use Rattle.byte_io.specs.declared.device.Took.{Took}
use Rattle.byte_io.specs.declared.device.Took.TheVariants as took

-- What is read: the pieces, of which one without bytes is a timeout; how many of them are done; how many bytes of the next were given;
-- how many timeouts were reported; and whether the last read found the end. What is written, and how many bytes a write takes at most. For
-- each side the calls before the one that is to fail, and how many failed.
pub record Play : Type 0 where
  pub pieces : List (List ℕ)
  pub next : ℕ
  pub at : ℕ
  pub lulls : ℕ
  pub has_ended : Bool
  pub sound_takes : Option ℕ
  pub take_failures : ℕ
  pub output : List ℕ
  pub widest_give : ℕ
  pub sound_gives : Option ℕ
  pub give_failures : ℕ

-- the piece that is next, and none after the last
abbrev pub next_piece : Play → List ℕ
next_piece p = get_or p.pieces p.next []

pub record IsPlay (p : Play) : Type 0 where
  pub followed : p.next ≤ length p.pieces
  pub begun : 0 < p.at → p.at < length (next_piece p)
  pub paused : p.lulls ≤ p.next
  pub wide : 1 ≤ p.widest_give

-- a script without pieces: it ends at its first read, and takes whatever is written
abbrev pub first_play : Play
first_play = record {
  pieces = [];
  next = 0;
  at = 0;
  lulls = 0;
  has_ended = false;
  sound_takes = None;
  take_failures = 0;
  output = [];
  widest_give = 18446744073709551615;
  sound_gives = None;
  give_failures = 0;
}

-- the bytes that were given: the pieces that are done, and a prefix of the next
abbrev pub given : Play → List ℕ
given p = concat (take p.next p.pieces) ++ take p.at (next_piece p)

-- ---- failures at a stated call

-- whether a call fails that has so many sound calls before the failure
abbrev pub fails : Option ℕ → Bool
fails (Some sound) = sound == 0
fails None = false

-- the sound calls that are left after a call
abbrev pub one_less : Option ℕ → Option ℕ
one_less (Some sound) = if sound == 0 then None else Some (sound - 1)
one_less None = None

-- ---- calls

-- a script of which one more read was made
abbrev pub read_once : Play → Play
read_once p = record p { has_ended = false; sound_takes = one_less p.sound_takes }

-- what n bytes of the piece that is due leave: the rest of it, or the next piece
abbrev pub GoesOn : Play → ℕ → Play → Type 0
GoesOn p n new =
    ((p.at + n < length (next_piece p)) × (new ≡ record p { at = p.at + n }))
    ⊎ ((p.at + n ≡ length (next_piece p)) × (new ≡ record p { next = p.next + 1; at = 0 }))

-- The script before a read, the buffer and the answer of the read, and the script after it. The stated call fails, and no other. After the
-- last piece is the end. A piece without bytes is one timeout. Of another piece as many bytes are given as are left and have room.
abbrev pub Reads : Play → List ℕ → Result Took DeviceFault → Play → Type 0
Reads old buffer (Err f) new = (fails old.sound_takes ≡ true) × (new ≡ record (read_once old) { take_failures = old.take_failures + 1 })
Reads old buffer (Ok took.Ended) new =
    (fails old.sound_takes ≡ false) × (old.next ≡ length old.pieces) × (new ≡ record (read_once old) { has_ended = true })
Reads old buffer (Ok took.Lull) new =
    (fails old.sound_takes ≡ false) × (old.next < length old.pieces) × (length (next_piece old) ≡ 0)
    × (new ≡ record (read_once old) { next = old.next + 1; at = 0; lulls = old.lulls + 1 })
Reads old buffer (Ok (took.Bytes n)) new =
    (fails old.sound_takes ≡ false) × (n ≡ min (length (next_piece old) - old.at) (length buffer)) × (0 < n)
    × (take n buffer ≡ take n (drop old.at (next_piece old))) × GoesOn (read_once old) n new

-- a script of which one more write was made
abbrev pub written_once : Play → Play
written_once p = record p { sound_gives = one_less p.sound_gives }

-- The same of a write. It takes as many bytes as there are, up to the stated number. It fails if it was to, or if the growth of
-- the output is refused, and takes none.
abbrev pub Writes : Play → List ℕ → Result ℕ DeviceFault → Play → Type 0
Writes old bytes (Err f) new = new ≡ record (written_once old) { give_failures = old.give_failures + 1 }
Writes old bytes (Ok n) new =
    (fails old.sound_gives ≡ false) × (n ≡ min (length bytes) old.widest_give)
    × (new ≡ record (written_once old) { output = old.output ++ take n bytes })
