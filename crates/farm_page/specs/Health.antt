-- Whether a farm is well, for whoever watches it.
use Rattle.std.specs.Prelude.{ℕ, ◌+◌, ◌*◌, List, ◌++◌, Bool, true, false, not, ◌&&◌, ◌||◌, nat_le, nat_lt, codes, if◌then◌else◌}
use Rattle.std.specs.Fmt.{decimal}
use Rattle.farm_page.specs.Condition.{condition_of, sentence}
use Rattle.farm_page.specs.View.{has_plan}
use Rattle.farm_page.specs.declared.condition.Condition.{Condition}
use Rattle.farm_page.specs.declared.condition.Condition.TheVariants.{Bad, Watch}
use Rattle.farm_page.specs.declared.health.FarmPhase.{FarmPhase}
use Rattle.farm_page.specs.declared.health.FarmPhase.TheVariants.{Ends, GoesOn}
use Rattle.farm_page.specs.declared.health.Moment.{Moment}
use Rattle.farm_page.specs.declared.view.FarmView.{FarmView}
use Rattle.text_pieces.specs.Lines.{ended}

abbrev pub is_end : FarmPhase → Bool
is_end GoesOn = false
is_end Ends = true

abbrev pub is_ending : Moment → Bool
is_ending moment = is_end moment.phase

-- the farm goes on, and its last attempt is older than three rounds
abbrev pub is_late : Moment → Bool
is_late moment = not (is_ending moment) && nat_lt (3 * moment.round_ms) moment.age_ms

abbrev pub is_healthy : FarmView → Moment → Bool
is_healthy view moment = has_plan view.outcome && not (is_late moment) && not (is_ending moment)

-- the farm ends, or its last attempt ended no longer ago than three rounds and a minute
abbrev pub is_live : Moment → Bool
is_live moment = is_ending moment || nat_le moment.age_ms (3 * moment.round_ms + 60000)

-- how a farm is at a moment: to be watched if it ends, and bad if its last attempt is late
abbrev pub condition_at : FarmView → Moment → Condition
condition_at view moment =
    if is_ending moment then Watch
    else if is_late moment then Bad
    else condition_of view

abbrev pub ending_words : List ℕ
ending_words = codes "The farm ends: no more attempts begin, and workers finish their jobs"

abbrev pub late_words : ℕ → List ℕ
late_words age_ms = codes "No attempt ended in the last " ++ decimal age_ms ++ codes " ms"

-- the sentence of a farm at a moment
abbrev pub sentence_at : FarmView → Moment → List ℕ
sentence_at view moment =
    if is_ending moment then ending_words
    else if is_late moment then late_words moment.age_ms
    else sentence view

abbrev pub health_text : FarmView → Moment → List ℕ
health_text view moment = ended (sentence_at view moment)
