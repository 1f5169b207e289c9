-- The ways out of an answer.
use Rattle.std.proofs.Common.{◌≡◌, ◌≢◌, ◌⊎◌, inl, inr, ℕ, ◌<◌, ◌≤◌, List, length, take, drop, Option, Some, None, refl, sym, ap, subst, ◌∙◌, arith}
use Rattle.std.specs.List.{AllByRecursion}
use Rattle.std.proofs.lemmas.List.{take-append-drop}
use Rattle.gear_packets.specs.Request.{IsSent}
use Rattle.gear_packets.specs.Response.{AssignedJob}
use Rattle.gear_packets.specs.Text.{text_of}
use Rattle.byte_io.specs.Sides.{and_then}
use Rattle.byte_io.proofs.Devices.{told_nothing}
use Rattle.job_runner.specs.declared.end.EndCause.{EndCause}
use Rattle.job_runner.specs.declared.end.EndCause.TheVariants.{WriteFault}
use Rattle.job_runner.specs.declared.end.EndCause.TheVariants as cause
use Rattle.job_runner.specs.declared.answering.Tally.{Tally}
use Rattle.job_runner.specs.Told.{Told, answer_to}
use Rattle.job_runner.specs.Book.{Ledger}
use Rattle.job_runner.specs.Acting.{account, Rises, Breaks, Replied, IsJobEnd, nothing, whole, up_to}
use Rattle.job_runner.proofs.Steps.{left_over}
use Rattle.job_runner.proofs.Counts.{Moved, Counted}

rises : (t new : Tally) (w out : Option (List ℕ)) (b book : Ledger) (grabs begins answers reports : ℕ) → Counted t new grabs answers reports → Moved b book grabs begins reports → Rises (account t w b) (account new out book) grabs begins answers reports
rises t new w out b book grabs begins answers reports c m = record { grabbed = c.grabbed_is; answered = c.answered_is; reported = c.reported_is; grabs_are = m.grabs_is; begins_are = m.begins_is; reports_are = m.reports_is }

-- no job was run, or it was not done
pub breaks_unrun : (job : AssignedJob) (t new : Tally) (w : Option (List ℕ)) (b book : Ledger) (reason : EndCause) (grabbed : ℕ) → Counted t new grabbed 0 0 → Moved b book grabbed 0 0 → grabbed ≤ 1 → reason ≢ WriteFault → IsJobEnd None reason
    → Breaks job (account t w b) (account new w book) None reason
breaks_unrun job t new w b book reason grabbed c m h other is = record {
  reach = nothing;
  reached = other;
  written = told_nothing w;
  grabs = grabbed;
  begins = 0;
  answers = 0;
  reports = 0;
  rises = rises t new w w b book grabbed 0 0 0 c m;
  answers_are = refl;
  begins_are = refl;
  reports_few = omega arith;
  begins_few = omega arith;
  grabs_few = h;
  told_few = omega arith;
  is_end = is;
}

-- nothing of its reply was written
pub breaks_unwritten : (job : AssignedJob) (told : Option Told) (t new : Tally) (w : Option (List ℕ)) (b book : Ledger) (reason : EndCause) → Counted t new 1 0 0 → Moved b book 1 0 0 → reason ≢ WriteFault → IsJobEnd (Some told) reason
    → Breaks job (account t w b) (account new w book) (Some told) reason
breaks_unwritten job told t new w b book reason c m other is = record {
  reach = nothing;
  reached = other;
  written = told_nothing w;
  grabs = 1;
  begins = 0;
  answers = 0;
  reports = 0;
  rises = rises t new w w b book 1 0 0 0 c m;
  answers_are = refl;
  begins_are = refl;
  reports_few = omega arith;
  begins_few = omega arith;
  grabs_few = omega arith;
  told_few = omega arith;
  is_end = is;
}

-- the write failed
pub breaks_cut : (job : AssignedJob) (told : Option Told) (t new : Tally) (w out : Option (List ℕ)) (text : List ℕ) (count : ℕ) (b book : Ledger) → Counted t new 1 0 0 → Moved b book 1 1 0
    → AllByRecursion IsSent (answer_to job.handle told) → text ≡ text_of (answer_to job.handle told) → count < length text → out ≡ and_then w (take count text)
    → Breaks job (account t w b) (account new out book) (Some told) WriteFault
breaks_cut job told t new w out text count b book c m each encoded short wrote = record {
  reach = up_to (take count text) (drop count text);
  reached = (refl, each, sym encoded ∙ sym (take-append-drop count text), left_over count text short);
  written = wrote;
  grabs = 1;
  begins = 1;
  answers = 0;
  reports = 0;
  rises = rises t new w out b book 1 1 0 0 c m;
  answers_are = refl;
  begins_are = refl;
  reports_few = omega arith;
  begins_few = omega arith;
  grabs_few = omega arith;
  told_few = omega arith;
  is_end = tt;
}

whole_end : (told : Option Told) (reason : EndCause) → (reason ≡ cause.Retired) ⊎ (reason ≡ cause.Gone) → IsJobEnd (Some told) reason
whole_end told reason (inl e) = subst (IsJobEnd (Some told)) (sym e) tt
whole_end told reason (inr e) = subst (IsJobEnd (Some told)) (sym e) tt

-- the reply was written
pub breaks_written : (job : AssignedJob) (told : Option Told) (t new : Tally) (w out : Option (List ℕ)) (text : List ℕ) (b book : Ledger) (reason : EndCause) (reported : ℕ) → Counted t new 1 1 reported → Moved b book 1 1 reported → reported ≤ 1
    → (reason ≡ cause.Retired) ⊎ (reason ≡ cause.Gone) → AllByRecursion IsSent (answer_to job.handle told) → text ≡ text_of (answer_to job.handle told) → out ≡ and_then w text
    → Breaks job (account t w b) (account new out book) (Some told) reason
breaks_written job told t new w out text b book reason reported c m h is each encoded wrote = record {
  reach = whole;
  reached = (is, each);
  written = wrote ∙ ap (and_then w) encoded;
  grabs = 1;
  begins = 1;
  answers = 1;
  reports = reported;
  rises = rises t new w out b book 1 1 1 reported c m;
  answers_are = refl;
  begins_are = refl;
  reports_few = h;
  begins_few = omega arith;
  grabs_few = omega arith;
  told_few = omega arith;
  is_end = whole_end told reason is;
}

-- the reply was written and reported, and the session goes on
pub replied : (job : AssignedJob) (told : Option Told) (t new : Tally) (w out : Option (List ℕ)) (text : List ℕ) (b book : Ledger) → Counted t new 1 1 1 → Moved b book 1 1 1
    → AllByRecursion IsSent (answer_to job.handle told) → text ≡ text_of (answer_to job.handle told) → out ≡ and_then w text → Replied job (account t w b) (account new out book) (Some told)
replied job told t new w out text b book c m each encoded wrote = record { told = told; came_is = refl; written = wrote ∙ ap (and_then w) encoded; each_sent = each; rises = rises t new w out b book 1 1 1 1 c m }
