-- How the transcript of a run goes on from a line, and where it ends.
use Rattle.std.proofs.Common.{◌≡◌, ℕ, ◌+◌, List, [], ◌∷◌, ◌++◌, Some, None, refl, ap, sym, subst, ◌∙◌, inl, inr, append_assoc, append-nil}
use Rattle.pool_settings.specs.Settings.{Settings}
use Rattle.pool_commands.specs.declared.command.Command.{Command}
use Rattle.pool_commands.specs.Grammar.{command_in}
use Rattle.pool_replay.specs.declared.desk.Desk.{Desk}
use Rattle.pool_replay.specs.declared.running.End.{End}
use Rattle.pool_replay.specs.declared.running.End.TheVariants as end
use Rattle.pool_replay.specs.Step.{StepOf}
use Rattle.pool_replay.specs.Transcript.{IsTranscript, AnswersLine, first_desk}
use Rattle.text_pieces.specs.Lines.{ended}

-- a run may end at any line if memory runs out
pub gives_up : (p : Settings) (number : ℕ) (desk : Desk) (lines : List (List ℕ)) (line : List ℕ) (rest : List (List ℕ))
    → lines ≡ line ∷ rest → IsTranscript p number desk lines [] end.Memory
gives_up p number desk lines line rest cut =
    subst (λ ls. IsTranscript p number desk ls [] end.Memory) (sym cut) (desk, inl ((refl, inr refl), refl))

pub all_done : (p : Settings) (number : ℕ) (desk : Desk) (lines : List (List ℕ)) → lines ≡ [] → IsTranscript p number desk lines [] end.Done
all_done p number desk lines none =
    subst (λ ls. IsTranscript p number desk ls [] end.Done) (sym none) (desk, (refl, refl, refl))

pub bad_line : (p : Settings) (number : ℕ) (desk : Desk) (lines : List (List ℕ)) (line : List ℕ) (rest : List (List ℕ))
    → lines ≡ line ∷ rest → command_in p line ≡ None → IsTranscript p number desk lines [] (end.BadLine number)
bad_line p number desk lines line rest cut none =
    subst (λ ls. IsTranscript p number desk ls [] (end.BadLine number)) (sym cut) (desk, inl ((refl, inl (refl, none)), refl))

one_more : (p : Settings) (number : ℕ) (desk : Desk) (lines : List (List ℕ)) (line : List ℕ) (rest : List (List ℕ))
    (command : Command) (answer : List ℕ) (next : Desk) (out : List ℕ) (how : End)
    → lines ≡ line ∷ rest → command_in p line ≡ Some command → StepOf p command desk answer next
    → IsTranscript p (number + 1) next rest out how → IsTranscript p number desk lines (ended answer ++ out) how
one_more p number desk lines line rest command answer next out how cut is step more =
    subst (λ ls. IsTranscript p number desk ls (ended answer ++ out) how) (sym cut)
    (more.0, inr (command, answer, out, next, is, step, refl, more.1))

-- ---- after what was printed so far

-- each transcript from here on, after what was printed, is one from the first line on
abbrev pub LeadsOn : Settings → List (List ℕ) → List ℕ → ℕ → Desk → List (List ℕ) → Type 0
LeadsOn p all printed number desk lines =
    (out : List ℕ) (how : End) → IsTranscript p number desk lines out how → IsTranscript p 1 (first_desk p) all (printed ++ out) how

-- before the first line
pub starts : (p : Settings) (all : List (List ℕ)) (printed : List ℕ) (desk : Desk) → desk ≡ first_desk p → printed ≡ [] → LeadsOn p all printed 1 desk all
starts p all printed desk first none out how more =
    subst (λ o. IsTranscript p 1 (first_desk p) all (o ++ out) how) (sym none) (subst (λ d. IsTranscript p 1 d all out how) first more)

-- after one more line
pub goes_on : (p : Settings) (all : List (List ℕ)) (before after : List ℕ) (number : ℕ) (desk next : Desk) (lines : List (List ℕ)) (line : List ℕ) (rest : List (List ℕ))
    → LeadsOn p all before number desk lines → lines ≡ line ∷ rest → AnswersLine p line desk before next after → LeadsOn p all after (number + 1) next rest
goes_on p all before after number desk next lines line rest so_far cut (command, answer, is, step, appended) out how more =
    subst (λ o. IsTranscript p 1 (first_desk p) all o how)
    (sym (ap (λ a. a ++ out) appended ∙ append_assoc before (ended answer) out))
    (so_far (ended answer ++ out) how (one_more p number desk lines line rest command answer next out how cut is step more))

-- where nothing more is printed
pub ends : (p : Settings) (all : List (List ℕ)) (printed : List ℕ) (number : ℕ) (desk : Desk) (lines : List (List ℕ)) (how : End)
    → LeadsOn p all printed number desk lines → IsTranscript p number desk lines [] how → IsTranscript p 1 (first_desk p) all printed how
ends p all printed number desk lines how so_far last =
    subst (λ o. IsTranscript p 1 (first_desk p) all o how) (append-nil printed) (so_far [] how last)
