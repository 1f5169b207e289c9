-- A whole transcript is a history of the pool's machine.
use Rattle.std.proofs.Common.{◌≡◌, ℕ, ◌+◌, ◌≤◌, List, [], ◌∷◌, ◌++◌, Bool, true, cond, Some, count_by, length, suc, refl, sym, ap, subst, ◌∙◌, inl, inr, append_assoc, append-nil, arith}
use Rattle.std.proofs.lemmas.List.Sums.{sum_by-cons}
use Rattle.pool_settings.specs.Settings.{Settings}
use Rattle.pool_core.specs.declared.event.Event.{Event}
use Rattle.pool_core.specs.Machine.{State, IsReplay}
use Rattle.pool_core.specs.Book.{Book, IsStep, next_chapter}
use Rattle.pool_core.specs.Laws.{Called, joined}
use Rattle.pool_commands.specs.Grammar.{command_in}
use Rattle.pool_commands.specs.declared.command.Command.{Command}
use Rattle.pool_replay.specs.declared.desk.Desk.{Desk}
use Rattle.pool_replay.specs.Law.{ComesBy, DoesTo, TranscriptsAreHistories, is_chapter, is_chapter_line}
use Rattle.pool_replay.proofs.Called.{called, moves}

-- the pool has come from the older one, and so many chapters have ended at most
abbrev Comes : ℕ → Book → Book → Type 0
Comes most old new =
    (chapters : List (List Event)) × (events : List Event) × ComesBy chapters events old new × (length chapters ≤ most)

none : (most : ℕ) (book : Book) → Comes most book book
none most book =
    ([], [], record { gained = sym (append-nil book.events); ended = omega arith; replays = record { history = tt; replayed = refl } }, omega arith)

widen : (few most : ℕ) (old new : Book) → few ≤ most → Comes few old new → Comes most old new
widen few most old new fewer (chapters, events, k, at_most) = (chapters, events, k, omega (arith, fewer, at_most))

-- one event, and then more
more : (most : ℕ) (old middle new : Book) (e : Event) → IsStep e old middle → Comes most middle new → Comes most old new
more most old middle new e s (chapters, events, k, at_most) =
    let by_rules : IsReplay old.settings middle.state events new.state = subst (λ (r : Settings). IsReplay r middle.state events new.state) s.settings k.replays in
    let by = subst (λ (t : State). IsReplay old.settings t events new.state) s.state by_rules in (
      chapters,
      e ∷ events,
      record {
        gained = k.gained ∙ ap (λ (es : List Event). es ++ events) s.events ∙ append_assoc old.events (e ∷ []) events;
        ended = k.ended ∙ ap (λ n. n + length chapters) s.chapters;
        replays = record { history = (s.possible, by.history); replayed = by.replayed };
      },
      at_most,
    )

-- the end of a chapter, and then more
after_chapter : (most : ℕ) (old new : Book) → Comes most (next_chapter old) new → Comes (suc most) old new
after_chapter most old new (chapters, events, k, at_most) = (
  old.events ∷ chapters,
  events,
  record {
    gained = append_assoc old.events (joined chapters) new.events ∙ ap (λ (es : List Event). old.events ++ es) k.gained;
    ended = omega (arith, k.ended);
    replays = k.replays;
  },
  omega (arith, at_most),
)

called_by : (most : ℕ) (old middle new : Book) → Called old middle → Comes most middle new → Comes most old new
called_by most old middle new c k =
    elim c [ inl same ↦ subst (λ (b : Book). Comes most b new) same k | inr t ↦ more most old middle new t.0 t.1 k ]

abbrev one_if : Bool → ℕ
one_if b = cond b 1 0

-- the step of one line, and then those of the others
goes_by : (p : Settings) (line : List ℕ) (lines : List (List ℕ)) (c : Command) (old middle new : Book)
    → command_in p line ≡ Some c → DoesTo c old middle → Comes (count_by (is_chapter_line p) lines) middle new
    → Comes (count_by (is_chapter_line p) (line ∷ lines)) old new
goes_by p line lines c old middle new is does k =
    let rest = count_by (is_chapter_line p) lines in
    let all = count_by (is_chapter_line p) (line ∷ lines) in
    let sum : all ≡ one_if (is_chapter_line p line) + rest = sum_by-cons (λ l. one_if (is_chapter_line p l)) line lines in
    elim (moves c old middle does) [
      | inl t ↦ widen rest all old new (omega (arith, sum)) (called_by rest old middle new t k)
      | inr t ↦
          let here : is_chapter_line p line ≡ true = ap is_chapter is ∙ t.0 in
          let one_more : all ≡ suc rest = omega (arith, sum, ap one_if here) in
          subst (λ (n : ℕ). Comes n old new) (sym one_more)
          (after_chapter rest old new (subst (λ (b : Book). Comes rest b new) t.1 k))
    ]

pub transcripts_are_histories_lem : TranscriptsAreHistories
transcripts_are_histories_lem p number desk [] output how last (out, done, same) =
    subst (λ (d : Desk). Comes 0 desk.pool d.pool) (sym same) (none 0 desk.pool)
transcripts_are_histories_lem p number desk (line ∷ lines) output how last led =
    elim led [
      | inl t ↦
          let most = count_by (is_chapter_line p) (line ∷ lines) in
          subst (λ (d : Desk). Comes most desk.pool d.pool) (sym t.1) (none most desk.pool)
      | inr t ↦
          goes_by p line lines t.0 desk.pool t.3.pool last.pool t.4 (called p t.0 desk t.1 t.3 t.5)
          (transcripts_are_histories_lem p (number + 1) t.3 lines t.2 how last t.7)
    ]
