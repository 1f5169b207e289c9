-- A status text that is read piece by piece.
use Rattle.std.proofs.Common.{◌≡◌, ◌≢◌, ◌∙◌, ◌+◌, ◌≤◌, ℕ, List, [], ◌++◌, Ok, Err, arith, false, length, length-append, refl, subst, sym, true}
use Rattle.byte_io.specs.Pieces.{Came, IsGivenUp, brought}
use Rattle.byte_io.specs.Sides.{Input, Meets, Met, Undisturbed}
use Rattle.byte_io.proofs.Pieces.{end_came, gave_up, piece_came}
use Rattle.gear_status.specs.Status.{Line, status}
use Rattle.gear_status.specs.Stream.{AnswersStatus, EndsWithPiece, IsPart, LeadsTo, Part, is_verdict, longest, meaning_with, room}
use Rattle.gear_status.specs.declared.error.StatusError.{StatusError}
use Rattle.gear_status.specs.declared.error.StatusError.TheVariants.{Memory, ReadFault, Truncated}
use Rattle.gear_status.proofs.Stream.{complete, fault_answer, faulty, led_on, undecided}

-- These bytes came so far, after so many timeouts, and this is what has come of the text.
pub record SoFar (first now : Input) (lulls : ℕ) (text : Part) (bytes : List ℕ) : Type 0 where
  pub met : Meets first (brought bytes lulls now.has_ended) now
  pub ahead : (rest : List ℕ) → status (bytes ++ rest) ≡ meaning_with text rest
  pub part : IsPart text
  pub patient : lulls ≤ 64
  pub held : room text + length bytes ≤ longest

-- one read after what came so far
module _ (first later now : Input) (before after : ℕ) (text : Part) (bytes : List ℕ) (met : Met) (so_far : SoFar first later before text bytes)
    (read : Meets later met now) where
  -- the source gave up
  pub given_up : IsGivenUp before met
      → (total : Met) × Meets first total now × AnswersStatus total (Err ReadFault) × (length total.bytes ≡ length bytes)
  given_up nothing =
      let end = gave_up first later now bytes before later.has_ended met so_far.met read nothing in
      let open_text : status (end.0).bytes ≡ Err Truncated =
      subst (λ b. status b ≡ Err Truncated) (sym end.2) (undecided bytes text so_far.part so_far.ahead) in
      let long : length (end.0).bytes ≡ length bytes = subst (λ b. length b ≡ length bytes) (sym end.2) refl in
      (end.0, end.1, (open_text, end.3), long)

  -- the end came
  pub ended : Came before met [] true after
      → Meets first (brought bytes after true) now × AnswersStatus (brought bytes after true) (Err Truncated)
  ended came = (
    end_came first later now bytes before after later.has_ended met so_far.met read came,
    (undecided bytes text so_far.part so_far.ahead, refl, (refl, came.4)),
  )

  -- a piece came
  module _ (piece : List ℕ) (came : Came before met piece false after) where
    pub longer : Meets first (brought (bytes ++ piece) after false) now
    longer = piece_came first later now bytes piece before after later.has_ended false met so_far.met read came

    pub calm : Undisturbed (brought (bytes ++ piece) after false)
    calm = (refl, came.4)

    last : length piece ≤ 4096 → EndsWithPiece (brought (bytes ++ piece) after false)
    last short = ((bytes, piece, refl, undecided bytes text so_far.part so_far.ahead, short), refl)

    -- it leads on
    pub goes_on : (next : Part) → IsPart next → LeadsTo text piece next false → SoFar first now after next (bytes ++ piece)
    goes_on next part on = record {
      met = subst (λ e. Meets first (brought (bytes ++ piece) after e) now) (sym (read.3 ∙ came.2)) longer;
      ahead = led_on bytes piece text next so_far.ahead on.0;
      part = part;
      patient = came.4;
      held = omega (arith, so_far.held, on.1, length-append bytes piece);
    }

    -- it decides, by a fault or as the end of the text
    pub refused : length piece ≤ 4096 → (f : StatusError) → is_verdict f ≡ true
        → (f ≢ Memory → (rest : List ℕ) → meaning_with text (piece ++ rest) ≡ Err f)
        → AnswersStatus (brought (bytes ++ piece) after false) (Err f)
    refused short f verdict bad =
        fault_answer (brought (bytes ++ piece) after false) f verdict (λ other. faulty bytes piece text f so_far.ahead (bad other)) (last short) calm

    pub read_whole : length piece ≤ 4096 → (load : List Line) → ((rest : List ℕ) → meaning_with text (piece ++ rest) ≡ Ok load)
        → AnswersStatus (brought (bytes ++ piece) after false) (Ok load)
    read_whole short load done = (complete bytes piece text load so_far.ahead done, last short, calm)
