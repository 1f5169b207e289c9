-- Pieces of a source, one after another.
use Rattle.std.proofs.Common.{◌≡◌, ◌+◌, ◌≤◌, ◌⊎◌, ◌∙◌, ℕ, List, [], ◌++◌, Bool, true, ap, arith, inl, inr, subst}
use Rattle.std.specs.Prelude.{Result}
use Rattle.std.proofs.lemmas.List.{append-nil}
use Rattle.byte_io.proofs.Devices.{counted_twice, told_twice}
use Rattle.byte_io.specs.Device.{failure_of, is_end, lull_of, taken}
use Rattle.byte_io.specs.Pieces.{Came, IsGivenUp, brought, met_then}
use Rattle.byte_io.specs.Sides.{GaveUp, Input, Meets, Met, and_then, counted}
use Rattle.byte_io.specs.declared.device.DeviceFault.{DeviceFault}
use Rattle.byte_io.specs.declared.device.Took.{Took}

-- what was met first, and then, was met
pub meets_then : (a b c : Input) (first next : Met) → Meets a first b → Meets b next c → Meets a (met_then first next) c
meets_then a b c first next one two = (
  two.0 ∙ ap (λ o. and_then o next.bytes) one.0 ∙ told_twice a.given first.bytes next.bytes,
  two.1 ∙ ap (λ o. counted o next.lulls) one.1 ∙ counted_twice a.lulls first.lulls next.lulls,
  omega (arith, two.2, one.2),
  two.3,
)

-- what one read met
abbrev pub read_met : List ℕ → Result Took DeviceFault → Met
read_met buffer r = record { bytes = taken buffer r; lulls = lull_of r; failures = failure_of r; has_ended = is_end r }

-- ---- a call that reads piece by piece

-- more bytes came after those so far
pub piece_came : (first later now : Input) (bytes more : List ℕ) (before after : ℕ) (started ended : Bool) (met : Met)
    → Meets first (brought bytes before started) later → Meets later met now → Came before met more ended after
    → Meets first (brought (bytes ++ more) after ended) now
piece_came first later now bytes more before after started ended met one two came = (
  two.0 ∙ ap (λ o. and_then o met.bytes) one.0 ∙ told_twice first.given bytes met.bytes ∙ ap (λ b. and_then first.given (bytes ++ b)) came.0,
  two.1 ∙ ap (λ o. counted o met.lulls) one.1 ∙ counted_twice first.lulls before met.lulls ∙ ap (λ n. counted first.lulls n) came.3,
  omega (arith, two.2, one.2, came.1),
  two.3 ∙ came.2,
)

-- the end came after the bytes so far
pub end_came : (first later now : Input) (bytes : List ℕ) (before after : ℕ) (started : Bool) (met : Met)
    → Meets first (brought bytes before started) later → Meets later met now → Came before met [] true after
    → Meets first (brought bytes after true) now
end_came first later now bytes before after started met one two came =
    subst (λ b. Meets first (brought b after true) now) (append-nil bytes)
    (piece_came first later now bytes [] before after started true met one two came)

-- nothing came after the bytes so far, and the call gives up
pub gave_up : (first later now : Input) (bytes : List ℕ) (before : ℕ) (started : Bool) (met : Met)
    → Meets first (brought bytes before started) later → Meets later met now → IsGivenUp before met
    → (total : Met) × Meets first total now × (total.bytes ≡ bytes) × GaveUp total
gave_up first later now bytes before started met one two nothing = (
  met_then (brought bytes before started) met,
  meets_then first later now (brought bytes before started) met one two,
  ap (λ b. bytes ++ b) nothing.0 ∙ append-nil bytes,
  why nothing.1,
)
  where
    why : ((met.failures ≡ 1) × (before + met.lulls ≤ 64)) ⊎ ((met.failures ≡ 0) × (before + met.lulls ≡ 65))
        → GaveUp (met_then (brought bytes before started) met)
    why (inl failed) = inl (omega (arith, failed.0))
    why (inr silent) = inr silent.1
