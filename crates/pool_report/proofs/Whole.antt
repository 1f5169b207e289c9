-- A whole report, read.
use Rattle.std.proofs.Common.{◌≡◌, ℕ, ◌+◌, ◌-◌, ◌^◌, ◌<◌, ◌≤◌, List, [], ◌∷◌, ◌++◌, Bool, true, false, Option, Some, None, Ok, eqb, filter, get_or, length, map, option_map, All, refl, ap, sym, subst, ◌∙◌, inl, inr, arith}
use Rattle.std.specs.Prelude.{codes, sum_by}
use Rattle.std.specs.List.{AllByRecursion, flat_map, list_all, list_any, slice_split}
use Rattle.std.specs.List.Sorted.{IsStrictlyIncreasing}
use Rattle.std.proofs.lemmas.Bool.{and_parts, eqb-true, false≢true, or_cases}
use Rattle.std.proofs.lemmas.List.{append-nil}
use Rattle.std.proofs.lemmas.List.Elements.{All-filter, All-from_get_or, recursion_from_All}
use Rattle.std.proofs.lemmas.List.FromFn.{get_or-enumerate_from, get_or-range_with_len, length-enumerate_from, length-range_with_len}
use Rattle.std.proofs.lemmas.List.Kept.{IsStrictlyIncreasing-filter}
use Rattle.plan_model.specs.Planning.{Assignment, Instance, IsInstance, IsShort, assigned, functions, is_permitted, is_stranded, machines_of, may_do, may_have, need, neighbours, top_level}
use Rattle.plan_model.specs.Shown.{IsShownPlan, Shown}
use Rattle.plan_model.specs.declared.answer.Answer.{Answer}
use Rattle.plan_model.specs.declared.answer.Answer.TheVariants.{Planned, NoPlan}
use Rattle.plan_model.proofs.Hall.{Rising, backlog-le-top, rising}
use Rattle.plan_model.proofs.Ranges.{range-rises}
use Rattle.pool_settings.specs.Names.{name_at}
use Rattle.pool_settings.specs.Settings.{AreSettings, Settings}
use Rattle.pool_settings.specs.Slots.{all_workers, live_workers, owners}
use Rattle.pool_settings.proofs.SlotSums.{IsAt, length-owners_from, owner_at, sum-room}
use Rattle.pool_report.specs.Answered.{report_text, short_at, stranded_all, stranded_at, reported_worker}
use Rattle.pool_report.specs.Law.{HasName, IsOf, listed_plan, retold}
use Rattle.pool_report.specs.Lines.{backlog, head, last, no_plan, short}
use Rattle.pool_report.specs.Reading.{Draft, answer_of, is_complete, meaning, meaning_from, place_function, start, with_entry}
use Rattle.text_pieces.specs.Lines.{ended, is_line_feed}
use Rattle.pool_report.specs.Report.{backlog_line, needed_line, short_line, short_lines, stranded_line, worker_line}
use Rattle.pool_report.specs.declared.stage.Stage.{Stage}
use Rattle.pool_report.specs.declared.stage.Stage.TheVariants as stage
use Rattle.pool_report.proofs.Bounds.{backlog_other, have_few, need_few, sum_few, waiting_few}
use Rattle.pool_report.proofs.Found.{function_found, worker_found}
use Rattle.pool_report.proofs.Walks.{AreKnown, AreRead, IsRead, Leads, at, leads_line, leads_none, leads_on, leftovers, needs, tasks}
use Rattle.pool_report.proofs.Written.{lines_read}

-- ---- order

rest_above : (s : ℕ) (ws : List (ℕ × ℕ)) → AllByRecursion (λ g. s < g) (map (λ w. w.0) ws) → AllByRecursion (λ w. s + 1 ≤ w.0) ws
rest_above s [] h = tt
rest_above s (w ∷ ws) h = (omega (arith, h.0), rest_above s ws h.1)

pub numbers_above : (s : ℕ) (fs : List ℕ) → AllByRecursion (λ g. s < g) fs → AllByRecursion (λ f. s + 1 ≤ f) fs
numbers_above s [] h = tt
numbers_above s (f ∷ fs) h = (omega (arith, h.0), numbers_above s fs h.1)

slots_from_0 : (ws : List (ℕ × ℕ)) → AllByRecursion (λ w. 0 ≤ w.0) ws
slots_from_0 [] = tt
slots_from_0 (w ∷ ws) = (omega arith, slots_from_0 ws)

pub numbers_from_0 : (fs : List ℕ) → AllByRecursion (λ f. 0 ≤ f) fs
numbers_from_0 [] = tt
numbers_from_0 (f ∷ fs) = (omega arith, numbers_from_0 fs)

-- ---- functions of a plan

abbrev pub Below : ℕ → Option ℕ → Type 0
Below n None = Unit {0}
Below n (Some f) = f < n

pub may_below : (n f : ℕ) (row : List ℕ) → AllByRecursion (λ g. g < n) row → list_any (λ g. eqb g f) row ≡ true → f < n
may_below n f [] h found = absurd (false≢true found)
may_below n f (g ∷ row) h found = elim (or_cases (eqb g f) (list_any (λ g. eqb g f) row) found) [
  | inl same ↦ omega (arith, h.0, eqb-true g f same)
  | inr other ↦ may_below n f row h.1 other
]

module _ (p : Settings) (valid : AreSettings p) where
  name_had : (o : Option ℕ) → Below (length p.functions) o → HasName (option_map (name_at p.functions) o)
  name_had None below = tt
  name_had (Some f) below = valid.functions_named f [] below

  placed : (slot : ℕ) (o : Option ℕ) (d : Draft) → Below (length p.functions) o → place_function p slot (option_map (name_at p.functions) o) d ≡ Ok (with_entry slot o d)
  placed slot None d below = refl
  placed slot (Some f) d below = rw (function_found p valid f below) refl

  pub worker_read : (plan : Assignment) (w : ℕ × ℕ) → IsAt p.workers w.1 w.0 → Below (length p.functions) (plan w.0) → IsRead p plan w
  worker_read plan w here below = record {
    named = (valid.machines_named w.1 [] (omega (arith, here.there, valid.workers_paired)), omega (arith, here.from, here.to, sum-room p.workers w.1 here.there, valid.workers_few), name_had (plan w.0) below);
    slot = worker_found p valid plan w.0 w.1 here;
    function = λ d. placed w.0 (plan w.0) d below;
  }

  are_read : (plan : Assignment) (ws : List (ℕ × ℕ)) (next : ℕ) → AllByRecursion (λ w. next ≤ w.0) ws → Rising (map (λ w. w.0) ws) → AllByRecursion (λ w. IsRead p plan w) ws → AreRead p plan next ws
  are_read plan [] next from rises each = tt
  are_read plan (w ∷ ws) next from rises each = (from.0, each.0, are_read plan ws (w.0 + 1) (rest_above w.0 ws rises.0) rises.1 each.1)

  pub are_known : (number : ℕ → ℕ) (fs : List ℕ) (next : ℕ) → AllByRecursion (λ f. next ≤ f) fs → Rising fs → AllByRecursion (λ f. f < length p.functions) fs → ((f : ℕ) → number f < 2 ^ 32) → AreKnown p number next fs
  are_known number [] next from rises below small = tt
  are_known number (f ∷ fs) next from rises below small = (
    from.0,
    record { named = valid.functions_named f [] below.0; place = function_found p valid f below.0 },
    small f,
    are_known number fs (f + 1) (numbers_above f fs rises.0) rises.1 below.1 small,
  )

  -- each live worker is one of its machine
  live_at : (live : List Bool) → All (λ w. IsAt p.workers w.1 w.0) (live_workers p live)
  live_at live = All-filter (λ w. get_or live w.0 false) (λ w. IsAt p.workers w.1 w.0) (all_workers p) (All-from_get_or (λ w. IsAt p.workers w.1 w.0) (all_workers p) (0, 0) each)
    where
      each : (k : ℕ) → k < length (all_workers p) → IsAt p.workers (get_or (all_workers p) k (0, 0)).1 (get_or (all_workers p) k (0, 0)).0
      each k below =
          let inside : k < length (owners p) = omega (arith, length-enumerate_from 0 (owners p), below) in
          let here = get_or-enumerate_from 0 (owners p) k (0, 0) inside in
          let own = owner_at 0 p.workers k (omega (arith, length-owners_from 0 p.workers, inside)) in
          let machine : own.0 ≡ get_or (owners p) k 0 = omega (arith, own.1) in
          let slot : k ≡ 0 + k = omega arith in
          rw here (subst (λ s. IsAt p.workers (get_or (owners p) k 0) s) slot (subst (λ m. IsAt p.workers m k) machine own.2))

  module _ (i : Instance) (sound : IsInstance i) (many : length i.least ≡ length p.functions) (here : All (λ w. IsAt p.workers w.1 w.0) i.live) where
    known_set : (level : ℕ) (set : List ℕ) → IsStrictlyIncreasing set → All (λ f. f < length i.least) set → AreKnown p (need i level) 0 set
    known_set level set rises within =
        are_known (need i level) set 0 (numbers_from_0 set) (rising set rises) (recursion_from_All (λ f. f < length p.functions) set (subst (λ n. All (λ f. f < n) set) many within))
        (λ f. omega (arith, need_few i level f, sound.limits.workers))

    abbrev left : List ℕ
    left = filter (is_stranded i) (functions i)

    left_below : All (λ f. f < length p.functions) left
    left_below = All-filter (is_stranded i) (λ f. f < length p.functions) (functions i) (λ k d inside. rw (get_or-range_with_len 0 (length i.least) k d (omega (arith, inside, length-range_with_len 0 (length i.least)))) (omega (arith, inside, length-range_with_len 0 (length i.least), many)))

    known_left : AreKnown p (λ f. (stranded_at p i f).waiting) 0 left
    known_left =
        are_known (λ f. (stranded_at p i f).waiting) left 0 (numbers_from_0 left) (rising left (IsStrictlyIncreasing-filter (is_stranded i) (functions i) (range-rises (length i.least))))
        (recursion_from_All (λ f. f < length p.functions) left left_below) (λ f. waiting_few i.waiting f sound.counted)

    -- what stands after the set
    closed : (s : Stage) (k : Option ℕ) (entries : List (ℕ × Option ℕ)) (set : Option (List ℕ)) (a b : ℕ) (prefix : List ℕ) → is_complete s ≡ true
        → Leads p start (ended (codes "report 1") ++ prefix) (at s k entries set a b 0)
        → meaning p (ended (codes "report 1") ++ prefix ++ flat_map stranded_line (stranded_all p i) ++ ended (codes "end")) ≡ Ok (answer_of (at s k entries set a b 0))
    closed s k entries set a b prefix complete on =
        let rest = leftovers p i (λ f. (stranded_at p i f).waiting) left s k entries set a b 0 (λ f. refl) complete known_left in
        let d = at rest.0 k entries set a b rest.1 in
        let e = at stage.Done k entries set a b rest.1 in
        let done : Leads p d (ended (codes "end")) e = leads_line p d e (ended (codes "end")) last lines_read.end (rw rest.2 refl) in
        let all = leads_on p start d e (ended (codes "report 1") ++ prefix ++ flat_map stranded_line (stranded_all p i)) (ended (codes "end"))
        (leads_on p start (at s k entries set a b 0) d (ended (codes "report 1") ++ prefix) (flat_map stranded_line (stranded_all p i)) on rest.3) done in
        let text = ended (codes "report 1") ++ prefix ++ flat_map stranded_line (stranded_all p i) ++ ended (codes "end") in
        let read = all 1 [] in
        ap (λ t. meaning_from p 1 start (slice_split is_line_feed t)) (sym (append-nil text)) ∙ read.1

    -- the set, from the lines before it
    set_read : (level : ℕ) (set : List ℕ) (s : Stage) (k : Option ℕ) (entries : List (ℕ × Option ℕ)) (a : ℕ) → IsShort i level set
        → Leads p (at s k entries None a 0 0) (short_line (sum_by (need i level) set) (neighbours (may_do i) (machines_of i) set)) (at stage.Set k entries (Some []) a 0 0)
        → (b : ℕ) × Leads p (at s k entries None a 0 0) (short_lines (short_at p i level set)) (at stage.Set k entries (Some set) a b 0)
    set_read level set s k entries a lacks first =
        let rest = needs p i level set k entries [] a 0 (known_set level set lacks.rising lacks.within) in
        (rest.0, leads_on p (at s k entries None a 0 0) (at stage.Set k entries (Some []) a 0 0) (at stage.Set k entries (Some set) a rest.0 0) (short_line (sum_by (need i level) set) (neighbours (may_do i) (machines_of i) set)) (flat_map needed_line (short_at p i level set).functions) first rest.1)

    headed : Leads p start (ended (codes "report 1")) (at stage.Verdict None [] None 0 0 0)
    headed = leads_line p start (at stage.Verdict None [] None 0 0 0) (ended (codes "report 1")) head lines_read.first refl

    pub none_read : (set : List ℕ) → IsShort i top_level set → meaning p (report_text p i (NoPlan set)) ≡ Ok (NoPlan set)
    none_read set lacks =
        let d = at stage.Verdict None [] None 0 0 0 in
        let e = at stage.Bare None [] None 0 0 0 in
        let bare : Leads p d (ended (codes "noplan")) e = leads_line p d e (ended (codes "noplan")) no_plan lines_read.none refl in
        let first = leads_line p e (at stage.Set None [] (Some []) 0 0 0) (short_line (sum_by (need i top_level) set) (neighbours (may_do i) (machines_of i) set)) short (lines_read.sums (sum_by (need i top_level) set) (neighbours (may_do i) (machines_of i) set) (sum_few i top_level set sound lacks.rising lacks.within) (have_few i set sound)) refl in
        let rest = set_read top_level set stage.Bare None [] 0 lacks first in
        let f = at stage.Set None [] (Some set) 0 rest.0 0 in
        closed stage.Set None [] (Some set) 0 rest.0 (ended (codes "noplan") ++ short_lines (short_at p i top_level set)) refl
        (leads_on p start d f (ended (codes "report 1")) (ended (codes "noplan") ++ short_lines (short_at p i top_level set)) headed (leads_on p d e f (ended (codes "noplan")) (short_lines (short_at p i top_level set)) bare rest.1))

    have_below : (o : Option ℕ) (m : ℕ) → m < length i.may → may_have i m o ≡ true → Below (length p.functions) o
    have_below None m inside may = tt
    have_below (Some f) m inside may = subst (λ n. f < n) many (may_below (length i.least) f (get_or i.may m []) (recursion_from_All (λ g. g < length i.least) (get_or i.may m []) (sound.within m [] inside)) may)

    all_read : (plan : Assignment) (ws : List (ℕ × ℕ)) → AllByRecursion (λ w. IsAt p.workers w.1 w.0) ws → AllByRecursion (λ w. w.1 < length i.may) ws → list_all (λ w. may_have i w.1 (plan w.0)) ws ≡ true → AllByRecursion (λ w. IsRead p plan w) ws
    all_read plan [] at there may = tt
    all_read plan (w ∷ ws) at there may =
        let parts = and_parts (may_have i w.1 (plan w.0)) (list_all (λ w. may_have i w.1 (plan w.0)) ws) may in
        (worker_read plan w at.0 (have_below (plan w.0) w.1 there.0 parts.0), all_read plan ws at.1 there.1 parts.1)

    live_read : (plan : Assignment) → is_permitted i plan ≡ true → AreRead p plan 0 i.live
    live_read plan permitted =
        are_read plan i.live 0 (slots_from_0 i.live) (rising (map (λ w. w.0) i.live) sound.slots)
        (all_read plan i.live (recursion_from_All (λ w. IsAt p.workers w.1 w.0) i.live here) (recursion_from_All (λ w. w.1 < length i.may) i.live sound.machines) permitted)

    -- the lines up to the last worker's
    workers_read : (entries : List (ℕ × Option ℕ)) (k : ℕ) (set : Option (List ℕ)) → IsShownPlan i entries k set
        → (a : ℕ) × Leads p (at stage.Verdict None [] None 0 0 0) (backlog_line k ++ flat_map worker_line (map (reported_worker p (assigned entries)) i.live)) (at stage.Tasks (Some k) (listed_plan i (assigned entries)) None a 0 0)
    workers_read entries k set shown =
        let plan = assigned entries in
        let permitted = (and_parts _ (is_permitted i plan) shown.permitted).1 in
        let d = at stage.Verdict None [] None 0 0 0 in
        let e = at stage.Tasks (Some k) [] None 0 0 0 in
        let small : k < 2 ^ 33 = omega (arith, shown.exact, backlog-le-top i plan sound.counted) in
        let count : Leads p d (backlog_line k) e = leads_line p d e (backlog_line k) (backlog k) (lines_read.counts k small (λ same. backlog_other i plan sound (sym shown.exact ∙ same))) refl in
        let rest = tasks p plan i.live (Some k) [] 0 (live_read plan permitted) in
        (rest.0, leads_on p d e (at stage.Tasks (Some k) (listed_plan i plan) None rest.0 0 0) (backlog_line k) (flat_map worker_line (map (reported_worker p plan) i.live)) count rest.1)

    pub plan_read : (entries : List (ℕ × Option ℕ)) (k : ℕ) (set : Option (List ℕ)) → IsShownPlan i entries k set → meaning p (report_text p i (Planned entries k set)) ≡ Ok (Planned (listed_plan i (assigned entries)) k set)
    plan_read entries k None shown =
        let plan = assigned entries in
        let lines = backlog_line k ++ flat_map worker_line (map (reported_worker p plan) i.live) in
        let first = workers_read entries k None shown in
        let d = at stage.Verdict None [] None 0 0 0 in
        let e = at stage.Tasks (Some k) (listed_plan i plan) None first.0 0 0 in
        closed stage.Tasks (Some k) (listed_plan i plan) None first.0 0 (lines ++ []) refl
        (leads_on p start d e (ended (codes "report 1")) (lines ++ []) headed (leads_on p d e e lines [] first.1 (leads_none p e)))
    plan_read entries k (Some set) shown =
        let plan = assigned entries in
        let lines = backlog_line k ++ flat_map worker_line (map (reported_worker p plan) i.live) in
        let lacks : IsShort i (k - 1) set = shown.evidence.1 in
        let first = workers_read entries k (Some set) shown in
        let d = at stage.Verdict None [] None 0 0 0 in
        let e = at stage.Tasks (Some k) (listed_plan i plan) None first.0 0 0 in
        let line = short_line (sum_by (need i (k - 1)) set) (neighbours (may_do i) (machines_of i) set) in
        let sums = leads_line p e (at stage.Set (Some k) (listed_plan i plan) (Some []) first.0 0 0) line short (lines_read.sums (sum_by (need i (k - 1)) set) (neighbours (may_do i) (machines_of i) set) (sum_few i (k - 1) set sound lacks.rising lacks.within) (have_few i set sound)) refl in
        let rest = set_read (k - 1) set stage.Tasks (Some k) (listed_plan i plan) first.0 lacks sums in
        let f = at stage.Set (Some k) (listed_plan i plan) (Some set) first.0 rest.0 0 in
        let shorts = short_lines (short_at p i (k - 1) set) in
        closed stage.Set (Some k) (listed_plan i plan) (Some set) first.0 rest.0 (lines ++ shorts) refl
        (leads_on p start d f (ended (codes "report 1")) (lines ++ shorts) headed (leads_on p d e f lines shorts first.1 rest.1))

    pub answer_read : (answer : Answer) → Shown i answer → meaning p (report_text p i answer) ≡ Ok (retold i answer)
    answer_read (Planned entries k set) shown = plan_read entries k set shown
    answer_read (NoPlan set) shown = none_read set shown

  -- the report of an answer to a problem of these settings
  pub report_read : (i : Instance) (answer : Answer) → IsInstance i → IsOf p i → Shown i answer → meaning p (report_text p i answer) ≡ Ok (retold i answer)
  report_read i answer sound from shown =
      answer_read i sound (ap (λ (j : Instance). length j.least) from.2 ∙ valid.least_paired)
      (subst (λ ws. All (λ w. IsAt p.workers w.1 w.0) ws) (sym (ap (λ (j : Instance). j.live) from.2)) (live_at from.0)) answer shown
