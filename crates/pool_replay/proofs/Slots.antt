-- A pool has as many slots as its settings say.
use Rattle.std.proofs.Common.{◌≡◌, ℕ, List, [], ◌∷◌, length, ap, refl, ◌∙◌}
use Rattle.std.proofs.lemmas.List.{length-set, length-replicate}
use Rattle.plan_model.specs.declared.answer.Answer.TheVariants as answers
use Rattle.pool_settings.specs.Settings.{Settings}
use Rattle.pool_settings.specs.Slots.{slots as slot_count}
use Rattle.pool_core.specs.declared.event.Event.{Event}
use Rattle.pool_core.specs.declared.event.Event.TheVariants as event
use Rattle.pool_core.specs.Kept.{IsChapter}
use Rattle.pool_core.specs.Machine.{State, after, first, replay}

-- no event makes a slot or takes one away
slots_after : (p : Settings) (e : Event) (state : State) → length (after p e state).slots ≡ length state.slots
slots_after p (event.Join slot) state = length-set _ _ _
slots_after p (event.Load load) state = refl
slots_after p (event.Round (answers.Planned plan backlog short)) state = refl
slots_after p (event.Round (answers.NoPlan short)) state = refl
slots_after p (event.Grab worker handle function now) state = length-set _ _ _
slots_after p (event.Begin worker ticket) state = refl
slots_after p (event.Reported worker ticket end) state = length-set _ _ _
slots_after p (event.Lost worker cause) state = length-set _ _ _

slots_replayed : (p : Settings) (state : State) (events : List Event) → length (replay p state events).slots ≡ length state.slots
slots_replayed p state [] = refl
slots_replayed p state (e ∷ events) = slots_replayed p (after p e state) events ∙ slots_after p e state

pub slots_of_chapter : (p : Settings) (chapters : ℕ) (events : List Event) (state : State) → IsChapter p chapters events state → length state.slots ≡ slot_count p
slots_of_chapter p chapters events state chapter =
    ap (λ s. length s.slots) chapter.replays.replayed ∙ slots_replayed p chapter.base events
    ∙ ap (λ s. length s.slots) chapter.begins.replays.replayed ∙ slots_replayed p (first p) chapter.begins.before ∙ length-replicate _ _
