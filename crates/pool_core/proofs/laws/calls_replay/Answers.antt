use Rattle.std.proofs.Common.{◌≡◌, sym, ap, subst, List, [], ◌∷◌, ◌++◌, ◌∙◌, inl, inr, append_assoc, append-nil}
use Rattle.pool_core.specs.declared.event.Event.{Event}
use Rattle.pool_core.specs.Machine.{State, IsReplay, after}
use Rattle.pool_core.specs.Book.{Book, IsStep, next_chapter, forget_first}
use Rattle.pool_core.specs.Laws.{Called, Outcome, Leaves, AllCalled, CallsReplay, last_of, all_handed_out}
use Rattle.pool_core.proofs.Steps.{replays_more}
use Rattle.pool_core.proofs.laws.calls_replay.Goals as goal

-- the events that were handed out, and those that are there, replay to the state
record Leads (base : State) (out : List Event) (book : Book) : Type 0 where
  all : IsReplay book.settings base (out ++ book.events) book.state

step_leads : (base : State) (out : List Event) (e : Event) (old new : Book) → Leads base out old → IsStep e old new → Leads base out new
step_leads base out e old new h s =
    record {
      all = rw (s.settings, s.events, s.state) (
          subst (λ (es : List Event). IsReplay old.settings base es (after old.settings e old.state)) (append_assoc out old.events (e ∷ []))
          (replays_more old.settings base (out ++ old.events) old.state e h.all s.possible));
    }

called_leads : (base : State) (out : List Event) (old new : Book) → Leads base out old → Called old new → Leads base out new
called_leads base out old new h c =
    elim c [ inl e ↦ subst (Leads base out) (sym e) h | inr t ↦ step_leads base out t.0 old new h t.1 ]

chapter_leads : (base : State) (out : List Event) (old : Book) → Leads base out old → Leads base (out ++ old.events) (next_chapter old)
chapter_leads base out old h =
    record { all = subst (λ (es : List Event). IsReplay old.settings base es old.state) (sym (append-nil (out ++ old.events))) h.all }

forget_leads : (base : State) (out : List Event) (old new : Book) → Leads base out old → new ≡ forget_first old → Leads base out new
forget_leads base out old new h e = subst (Leads base out) (sym e) (let k : Leads base out (forget_first old) = record { all = h.all } in k)

none_out : (base : State) (out : List Event) (new : Outcome) → new.handed_out ≡ [] → Leads base out new.book → Leads base (out ++ new.handed_out) new.book
none_out base out new none h = subst (λ (es : List Event). Leads base es new.book) (sym (ap (λ (es : List Event). out ++ es) none ∙ append-nil out)) h

call_leads : (base : State) (out : List Event) (old : Book) (new : Outcome) → Leads base out old → Leaves old new → Leads base (out ++ new.handed_out) new.book
call_leads base out old new h c =
    elim c [
      | inl t ↦ none_out base out new t.1 (called_leads base out old new.book h t.0)
      | inr c' ↦
          elim c' [
            | inl t ↦ subst (λ (es : List Event). Leads base (out ++ es) new.book) (sym t.1) (subst (Leads base (out ++ old.events)) (sym t.0) (chapter_leads base out old h))
            | inr t ↦ none_out base out new t.2 (forget_leads base out old new.book h t.1.3)
          ]
    ]

calls_lead : (base : State) (out : List Event) (book : Book) (calls : List Outcome) → Leads base out book → AllCalled book calls → Leads base (out ++ all_handed_out calls) (last_of book calls)
calls_lead base out book [] h c = subst (λ (es : List Event). Leads base es book) (sym (append-nil out)) h
calls_lead base out book (next ∷ rest) h c =
    subst (λ (es : List Event). Leads base es (last_of next.book rest)) (append_assoc out next.handed_out (all_handed_out rest))
    (calls_lead base (out ++ next.handed_out) next.book rest (call_leads base out book next h c.0) c.1)

calls_replay_lem : CallsReplay
calls_replay_lem base book calls h c = (calls_lead base [] book calls (record { all = h }) c).all

pub returns : goal.returns
returns c = calls_replay_lem
