-- A history that grows by one event, and what a pool keeps then.
use Rattle.std.proofs.Common.{◌≡◌, ℕ, ◌+◌, List, [], ◌∷◌, ◌++◌, refl, sym, ap, ◌∙◌, subst, arith}
use Rattle.pool_settings.specs.Settings.{Settings}
use Rattle.pool_core.specs.declared.event.Event.{Event}
use Rattle.pool_core.specs.Machine.{State, first, after, IsPossible, replay, IsHistory, IsReplay}
use Rattle.pool_core.specs.Kept.{IsChapter}

-- joined lists replay one after the other
pub replay-append : (settings : Settings) (base : State) (xs ys : List Event) → replay settings base (xs ++ ys) ≡ replay settings (replay settings base xs) ys
replay-append settings base [] ys = refl
replay-append settings base (x ∷ xs) ys = replay-append settings (after settings x base) xs ys

pub history-append : (settings : Settings) (base : State) (xs ys : List Event) → IsHistory settings base xs → IsHistory settings (replay settings base xs) ys → IsHistory settings base (xs ++ ys)
history-append settings base [] ys h k = k
history-append settings base (x ∷ xs) ys h k = (h.0, history-append settings (after settings x base) xs ys h.1 k)

-- one more event
pub replays_more : (settings : Settings) (base : State) (events : List Event) (state : State) (e : Event) → IsReplay settings base events state → IsPossible settings e state → IsReplay settings base (events ++ e ∷ []) (after settings e state)
replays_more settings base events state e h p =
    record {
      history = history-append settings base events (e ∷ []) h.history (subst (IsPossible settings e) h.replayed p, tt);
      replayed = ap (after settings e) h.replayed ∙ sym (replay-append settings base events (e ∷ []));
    }

-- two parts
pub replays_joined : (settings : Settings) (base : State) (xs : List Event) (middle : State) (ys : List Event) (state : State) → IsReplay settings base xs middle → IsReplay settings middle ys state → IsReplay settings base (xs ++ ys) state
replays_joined settings base xs middle ys state h k =
    record {
      history = history-append settings base xs ys h.history (subst (λ (s : State). IsHistory settings s ys) h.replayed k.history);
      replayed = k.replayed ∙ ap (λ (s : State). replay settings s ys) h.replayed ∙ sym (replay-append settings base xs ys);
    }

pub chapter_more : (settings : Settings) (chapters : ℕ) (events : List Event) (state : State) (e : Event) → IsChapter settings chapters events state → IsPossible settings e state → IsChapter settings chapters (events ++ e ∷ []) (after settings e state)
chapter_more settings chapters events state e h p =
    record {
      base = h.base;
      begins = h.begins;
      replays = replays_more settings h.base events state e h.replays p;
    }

-- the next chapter begins where this one ends
pub next_chapter_is : (settings : Settings) (chapters : ℕ) (events : List Event) (state : State) → IsChapter settings chapters events state → IsChapter settings (chapters + 1) [] state
next_chapter_is settings chapters events state h =
    record {
      base = state;
      begins = record {
        before = h.begins.before ++ events;
        none_before = λ e. absurd (omega arith);
        replays = replays_joined settings (first settings) h.begins.before h.base events state h.begins.replays h.replays;
      };
      replays = record { history = tt; replayed = refl };
    }
