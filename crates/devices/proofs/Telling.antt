-- Readers and writers that tell their bytes.
use Rattle.std.proofs.Common.{◌≡◌, ◌≤◌, ◌+◌, ℕ, List, [], ◌++◌, length, take, Some, None, IfSome, Ok, Err, ap, sym, ◌∙◌, arith}
use Rattle.std.specs.Prelude.{Option, Result, option_map}
use Rattle.std.specs.Io.KnownBytes.{Appends, Consumes, Keeps, ReadConsumes, WriteAppends}
use Rattle.std.proofs.lemmas.List.{append-nil, append_assoc, length-take, take_all}
use Rattle.devices.specs.Folder.{IsTextOf, known_of}

-- what a writer holds after a write is what it held first and more
pub holds_more : {E : Type 0} (first old new : Option (List ℕ)) (result : Result ℕ E) (bytes : List ℕ)
    → (more : List ℕ) × Appends first old more → WriteAppends old new result bytes → (more : List ℕ) × Appends first new more
holds_more None old new result bytes so_far wrote = ([], tt)
holds_more (Some xs) None new result bytes (more, lost) wrote = absurd lost
holds_more (Some xs) (Some ys) None (Ok n) bytes so_far lost = absurd lost
holds_more (Some xs) (Some ys) None (Err e) bytes so_far lost = absurd lost
holds_more (Some xs) (Some ys) (Some zs) (Ok n) bytes (more, held) wrote =
    (more ++ take n bytes, wrote ∙ ap (λ before. before ++ take n bytes) held ∙ append_assoc xs more (take n bytes))
holds_more (Some xs) (Some ys) (Some zs) (Err e) bytes (more, held) kept = (more, kept ∙ held)

-- what a reader had left first is what it gave and what it has left after a read
pub gave_more : {E : Type 0} (first old new : Option (List ℕ)) (result : Result ℕ E) (buffer : List ℕ)
    → (prefix : List ℕ) × Consumes first old prefix → ReadConsumes old new result buffer → (prefix : List ℕ) × Consumes first new prefix
gave_more None old new result buffer so_far read = ([], tt)
gave_more (Some xs) None new result buffer (prefix, lost) read = absurd lost
gave_more (Some xs) (Some ys) None (Ok n) buffer so_far read = absurd read.0
gave_more (Some xs) (Some ys) None (Err e) buffer so_far lost = absurd lost
gave_more (Some xs) (Some ys) (Some zs) (Ok n) buffer (prefix, given) read =
    (prefix ++ take n buffer, given ∙ ap (λ rest. prefix ++ rest) read.0 ∙ sym (append_assoc prefix (take n buffer) zs))
gave_more (Some xs) (Some ys) (Some zs) (Err e) buffer (prefix, given) kept = (prefix, given ∙ ap (λ rest. prefix ++ rest) (sym kept))

-- bytes that are all within a limit, of a reader that was cut one above it, are all that it had
pub all_within : (had : Option (List ℕ)) (most : ℕ) (cut : ℕ) (got : List ℕ) → cut ≡ most + 1 → length got ≤ most
    → IfSome (option_map (take cut) had) (λ xs. got ≡ [] ++ xs) → IsTextOf (known_of had) got
all_within None most cut got one_above within is_prefix = tt
all_within (Some all) most cut got one_above within is_prefix =
    is_prefix ∙ take_all cut all (let same = ap length is_prefix ∙ length-take cut all in omega arith)

-- what a writer holds after a write is what it held before writes that took nothing, and more
pub kept_then_taken : (first old new : Option (List ℕ)) (bytes : List ℕ) → Keeps first old → Appends old new bytes → Appends first new bytes
kept_then_taken None old new bytes kept wrote = tt
kept_then_taken (Some xs) None new bytes lost wrote = absurd lost
kept_then_taken (Some xs) (Some ys) None bytes kept lost = absurd lost
kept_then_taken (Some xs) (Some ys) (Some zs) bytes kept wrote = wrote ∙ ap (λ before. before ++ bytes) kept

pub kept_twice : (first old new : Option (List ℕ)) → Keeps first old → Keeps old new → Keeps first new
kept_twice None old new kept again = tt
kept_twice (Some xs) None new lost again = absurd lost
kept_twice (Some xs) (Some ys) None kept lost = absurd lost
kept_twice (Some xs) (Some ys) (Some zs) kept again = again ∙ kept

-- a write that took no byte
pub kept_then_none : (first old new : Option (List ℕ)) (n : ℕ) (bytes : List ℕ) → n ≡ 0 → Keeps first old → Appends old new (take n bytes) → Keeps first new
kept_then_none None old new n bytes none kept wrote = tt
kept_then_none (Some xs) None new n bytes none lost wrote = absurd lost
kept_then_none (Some xs) (Some ys) None n bytes none kept lost = absurd lost
kept_then_none (Some xs) (Some ys) (Some zs) n bytes none kept wrote =
    wrote ∙ ap (λ (k : ℕ). ys ++ take k bytes) none ∙ append-nil ys ∙ kept
