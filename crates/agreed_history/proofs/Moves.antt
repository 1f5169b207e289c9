-- Each step keeps the rule: all speak of one history.
use Rattle.std.proofs.Common.{◌≡◌, ◌≢◌, ◌⊎◌, ℕ, zero, suc, ◌+◌, ◌||◌, Bool, List, [], ◌∷◌, ◌++◌, length, map, set, true, false, refl, sym, ap, ◌∙◌, subst, inl, inr, ⊎_elim, arith}
use Rattle.std.specs.Prelude.{cond}
use Rattle.std.specs.List.{AllByRecursion}
use Rattle.std.proofs.lemmas.Bool.{cases_Bool}
use Rattle.std.proofs.lemmas.List.{map-append}
use mathlib.Core.Option.{some, some-ne-none, some-injective}
use lib.ListN.{get_elem?}
use Rattle.crossbeam_utils.specs.Register.{Turns, Forks, Merges}
use Rattle.atomic_table.proofs.Lists.{at_set, at_snoc, set_again}
use Rattle.worker_state.specs.declared.slot.WorkerName.{WorkerName}
use Rattle.pool_core.specs.declared.event.Event.{Event}
use Rattle.pool_core.specs.declared.event.Event.TheVariants as event
use Rattle.agreed_history.specs.declared.known.Entry.{Entry}
use Rattle.agreed_history.specs.declared.known.Entry.TheVariants.{Happened, ChapterEnd}
use Rattle.agreed_history.specs.declared.known.Past.{Past}
use Rattle.agreed_history.specs.declared.known.View.{View}
use Rattle.agreed_history.specs.Agreed.{is_same, is_own, is_of, did_by, past, name_of, has, without, AreOnce, alone, keeper, ruler, teller, chief, writer, nobody, closed_of, story, IsClosed, keeper_of, ruler_of, teller_of}
use Rattle.agreed_history.specs.Agreed.{with_ruler, with_teller, with_session, with_past, with_entry, IsPast, Sound, Fits, Agree, Finds, MayAdd}
use Rattle.agreed_history.proofs.Lists.{off, eq_self, same_by, or_none, or_false, has_append, without_less, without_gone, without_once, without_else, once_more}
use Rattle.agreed_history.proofs.Lists.{all_more, all_other, all_named, did_same, did_more, by_one, set_twice, length_without}

fits_nobody : (keeps rules : ℕ) (seat : WorkerName → ℕ) (log : List Entry) (born live : List WorkerName) (known : List Past) (by : ℕ) → Fits keeps rules seat log born live known by nobody
fits_nobody keeps rules seat log born live known by = ((λ no. absurd (off no)), (λ no. absurd (off no)), (λ no. absurd (off no)))

fits_here : (keeps rules : ℕ) (seat : WorkerName → ℕ) (log : List Entry) (born live : List WorkerName) (known : List Past) (by j : ℕ) (w u : View) → j ≡ by → w ≡ u
    → Fits keeps rules seat log born live known by w → Fits keeps rules seat log born live known j u
fits_here keeps rules seat log born live known by j w u at same fits =
    subst (λ (v : View). Fits keeps rules seat log born live known j v) same (subst (λ (k : ℕ). Fits keeps rules seat log born live known k w) (sym at) fits)

fits_set : (keeps rules : ℕ) (seat : WorkerName → ℕ) (log : List Entry) (born live : List WorkerName) (known : List Past) (views : List View) (by : ℕ) (w : View)
    → ((j : ℕ) (u : View) → j ≢ by → get_elem? views j ≡ some u → Fits keeps rules seat log born live known j u) → Fits keeps rules seat log born live known by w
    → (j : ℕ) (u : View) → get_elem? (set views by w) j ≡ some u → Fits keeps rules seat log born live known j u
fits_set keeps rules seat log born live known views by w others mine j u e =
    ⊎_elim
    (λ (x : (j ≡ by) × (w ≡ u)). fits_here keeps rules seat log born live known by j w u x.0 x.1 mine)
    (λ (x : (j ≢ by) × (get_elem? views j ≡ some u)). others j u x.0 x.1)
    (at_set views by j w u e)

-- the last of a list is at its length
at_end : (l : List View) (a b : View) (j : ℕ) → get_elem? (l ++ a ∷ []) j ≡ some b → (get_elem? l j ≡ some b) ⊎ ((j ≡ length l) × (a ≡ b))
at_end [] a b zero e = inr (refl, some-injective a b e)
at_end [] a b (suc j) e = absurd (some-ne-none b (sym e))
at_end (x ∷ xs) a b zero e = inl e
at_end (x ∷ xs) a b (suc j) e = ⊎_elim (λ was. inl was) (λ (new : (j ≡ length xs) × (a ≡ b)). inr (ap suc new.0, new.1)) (at_end xs a b j e)

-- a view, and one more at the end
fits_fork : (keeps rules : ℕ) (seat : WorkerName → ℕ) (log : List Entry) (born live : List WorkerName) (known : List Past) (views : List View) (by : ℕ) (left right : View)
    → ((j : ℕ) (u : View) → j ≢ by → get_elem? views j ≡ some u → Fits keeps rules seat log born live known j u)
    → Fits keeps rules seat log born live known by left → Fits keeps rules seat log born live known (length (set views by left)) right
    → (j : ℕ) (u : View) → get_elem? (set views by left ++ right ∷ []) j ≡ some u → Fits keeps rules seat log born live known j u
fits_fork keeps rules seat log born live known views by left right others mine last j u e =
    ⊎_elim
    (λ was. fits_set keeps rules seat log born live known views by left others mine j u was)
    (λ (new : (j ≡ length (set views by left)) × (right ≡ u)). fits_here keeps rules seat log born live known (length (set views by left)) j right u new.0 new.1 last)
    (at_end (set views by left) right u j e)

pub begins : (words : List ℕ) → Agree words (alone ∷ [])
begins words = (
  0,
  0,
  (λ _. 0),
  [],
  [],
  [],
  [],
  record {
    once = tt;
    ended = tt;
    apart = tt;
    others = λ k a b. refl;
    named = λ k h. (refl, refl);
  },
  one,
)
  where
    one : (by : ℕ) (v : View) → get_elem? (alone ∷ []) by ≡ some v → Fits 0 0 (λ _. 0) [] [] [] [] by v
    one zero v e = subst (Fits 0 0 (λ _. 0) [] [] [] [] 0) (some-injective _ _ e) ((λ _. (refl, refl, refl)), (λ _. (refl, refl, refl)), (λ no. absurd (off no)))
    one (suc by) v e = absurd (some-ne-none v (sym e))

-- a pass that knows nothing
pub spares : (by : ℕ) (v : View) → Forks Agree by v v nobody
spares by v words views h at =
    let keeps = h.0 in let rules = h.1 in let seat = h.2 in let log = h.3 in let born = h.4 in let live = h.5 in let known = h.6 in (
      keeps,
      rules,
      seat,
      log,
      born,
      live,
      known,
      h.7,
      λ j u e. ⊎_elim
          (λ was. h.8 j u (subst (λ (l : List View). get_elem? l j ≡ some u) (set_again views by v at) was))
          (λ (same : nobody ≡ u). subst (Fits keeps rules seat log born live known j) same (fits_nobody keeps rules seat log born live known j))
          (at_snoc (set views by v) nobody u j e),
    )

-- whoever adds an event of a session has its teller, which is live
not_by : (e : Entry) (v : View) (live : List WorkerName) (k : WorkerName) → MayAdd e v → (v.tells ≡ true → has v.who live ≡ true) → has k live ≡ false → is_of k e ≡ false
not_by e v live k may is_live gone =
    ⊎_elim
    (λ (yes : is_of k e ≡ true).
    let m = may.1 k yes in
    absurd (off (sym gone ∙ (ap (λ (i : WorkerName). has i live) m.1 ∙ is_live m.0))))
    (λ (no : is_of k e ≡ false). no)
    (cases_Bool (is_of k e))

added_sound : (e : Entry) (v : View) (log : List Entry) (born live : List WorkerName) (known : List Past) → MayAdd e v → (v.tells ≡ true → has v.who live ≡ true)
    → Sound log born live known → Sound (log ++ e ∷ []) born live known
added_sound e v log born live known may is_live s = record {
  once = s.once;
  ended = all_other (IsPast log live) (IsPast (log ++ e ∷ []) live) known s.ended
      (λ p q. (q.0 ∙ sym (did_same p.who log e (not_by e v live p.who may is_live q.1)), q.1));
  apart = s.apart;
  others = λ k a b. did_same k log e (not_by e v live k may is_live a) ∙ s.others k a b;
  named = s.named;
}

-- an entry is added
pub added : (by : ℕ) (v : View) (e : Entry) → MayAdd e v → (words : List ℕ) (views : List View) → Agree words views → get_elem? views by ≡ some v
    → Agree words (set views by (with_entry e v))
added by v e may words views h at =
    let keeps = h.0 in let rules = h.1 in let seat = h.2 in let log = h.3 in let born = h.4 in let live = h.5 in let known = h.6 in
    let mine = h.8 by v at in
    let kept = mine.0 may.0 in
    let now = log ++ e ∷ [] in (
      keeps,
      rules,
      seat,
      now,
      born,
      live,
      known,
      added_sound e v log born live known may (λ t. (mine.2 t).1) h.7,
      fits_set keeps rules seat now born live known views by (with_entry e v)
          (λ j u apart there.
          let its = h.8 j u there in (
            (λ k. absurd (apart ((its.0 k).0 ∙ sym kept.0))),
            its.1,
            (λ t. let q = its.2 t in (
              q.0,
              q.1,
              q.2 ∙ sym (did_same u.who log e (⊎_elim
                  (λ (yes : is_of u.who e ≡ true).
                  let m = may.1 u.who yes in
                  absurd (apart (q.0 ∙ (ap seat m.1 ∙ sym (mine.2 m.0).0))))
                  (λ (no : is_of u.who e ≡ false). no)
                  (cases_Bool (is_of u.who e)))),
            )),
          )) (
            (λ k. (kept.0, ap (λ (l : List Entry). l ++ e ∷ []) kept.1, kept.2)),
            mine.1,
            (λ t. let q = mine.2 t in (q.0, q.1, ap (λ (l : List Event). l ++ did_by v.who (e ∷ [])) q.2 ∙ sym (did_more v.who log e))),
          ),
    )

-- one keeps, and another has the roster
pub split_ruler : (by : ℕ) (v : View) → v.rules ≡ true → Forks Agree by v (keeper_of v) (ruler_of v)
split_ruler by v ruled words views h at =
    let keeps = h.0 in let rules = h.1 in let seat = h.2 in let log = h.3 in let born = h.4 in let live = h.5 in let known = h.6 in
    let mine = h.8 by v at in
    let r = mine.1 ruled in
    let left = keeper_of v in
    let n = length (set views by left) in (
      keeps,
      n,
      seat,
      log,
      born,
      live,
      known,
      h.7,
      fits_fork keeps n seat log born live known views by left (ruler_of v)
          (λ i y apart there. let its = h.8 i y there in (its.0, (λ t. absurd (apart ((its.1 t).0 ∙ sym r.0))), its.2))
          (mine.0, (λ no. absurd (off no)), (λ no. absurd (off no)))
          ((λ no. absurd (off no)), (λ _. (refl, r.1, r.2)), (λ no. absurd (off no))),
    )

-- who tells of this worker sits there now
abbrev moved : WorkerName → ℕ → (WorkerName → ℕ) → WorkerName → ℕ
moved who n seat k = cond (is_same k who) n (seat k)

moved_here : (who : WorkerName) (n : ℕ) (seat : WorkerName → ℕ) → n ≡ moved who n seat who
moved_here who n seat = sym (ap (λ (b : Bool). cond b n (seat who)) (eq_self who))

moved_else : (who : WorkerName) (n : ℕ) (seat : WorkerName → ℕ) (k : WorkerName) (i : ℕ) → (k ≡ who → ⊥) → i ≡ seat k → i ≡ moved who n seat k
moved_else who n seat k i other is =
    ⊎_elim
    (λ (yes : is_same k who ≡ true). absurd (other (same_by k who yes)))
    (λ (no : is_same k who ≡ false). is ∙ sym (ap (λ (b : Bool). cond b n (seat k)) no))
    (cases_Bool (is_same k who))

-- one keeps, and another tells of a session
pub split_teller : (by : ℕ) (v : View) → v.tells ≡ true → Forks Agree by v (keeper_of v) (teller_of v)
split_teller by v tells words views h at =
    let keeps = h.0 in let rules = h.1 in let seat = h.2 in let log = h.3 in let born = h.4 in let live = h.5 in let known = h.6 in
    let mine = h.8 by v at in
    let t = mine.2 tells in
    let left = keeper_of v in
    let n = length (set views by left) in
    let seat' = moved v.who n seat in (
      keeps,
      rules,
      seat',
      log,
      born,
      live,
      known,
      h.7,
      fits_fork keeps rules seat' log born live known views by left (teller_of v)
          (λ i y apart there. let its = h.8 i y there in (
            its.0,
            its.1,
            (λ q. let s = its.2 q in (moved_else v.who n seat y.who i (λ same. apart (s.0 ∙ (ap seat same ∙ sym t.0))) s.0, s.1, s.2)),
          ))
          (mine.0, (λ no. absurd (off no)), (λ no. absurd (off no)))
          ((λ no. absurd (off no)), (λ no. absurd (off no)), (λ _. (moved_here v.who n seat, t.1, t.2))),
    )

or_right : (a b : Bool) → b ≡ true → (a || b) ≡ true
or_right true b e = refl
or_right false b e = e

or_left : (a b : Bool) → a ≡ true → (a || b) ≡ true
or_left a b e = rw e refl

-- two names of which one stands in a list and the other does not
apart_by : (k j : WorkerName) (xs : List WorkerName) → has k xs ≡ true → has j xs ≡ false → k ≡ j → ⊥
apart_by k j xs here gone same = off (sym gone ∙ (ap (λ (i : WorkerName). has i xs) (sym same) ∙ here))

not_same : (k j : WorkerName) → (k ≡ j → ⊥) → is_same k j ≡ false
not_same k j other =
    ⊎_elim (λ (yes : is_same k j ≡ true). absurd (other (same_by k j yes))) (λ (no : is_same k j ≡ false). no) (cases_Bool (is_same k j))

begun_sound : (who : WorkerName) (log : List Entry) (born live : List WorkerName) (known : List Past) → has who born ≡ false
    → Sound log born live known → Sound (log ++ Happened (event.Join who.slot) ∷ []) (who ∷ born) (who ∷ live) known
begun_sound who log born live known new s =
    let fresh = s.named who new in
    let e = Happened (event.Join who.slot) in
    record {
      once = (fresh.0, s.once);
      ended = all_named (IsPast log live) (IsPast (log ++ e ∷ []) (who ∷ live)) known s.ended
          (λ p in' q. (
            q.0 ∙ sym (did_same p.who log e refl),
            or_false (is_same p.who who) (has p.who live) (not_same p.who who (apart_by p.who who (map name_of known) in' fresh.1)) q.1,
          ));
      apart = s.apart;
      others = λ k a b. did_same k log e refl ∙ s.others k (or_none (is_same k who) (has k live) a).1 b;
      named = λ k h.
          let n = or_none (is_same k who) (has k born) h in
          let old = s.named k n.1 in
          (or_false (is_same k who) (has k live) n.0 old.0, old.1);
    }

-- a session joins
pub begun : (by : ℕ) (v : View) (who : WorkerName) → v.keeps ≡ true → v.rules ≡ true → has who v.born ≡ false → Forks Agree by v (with_session who v) (teller who [])
begun by v who keeping ruling new words views h at =
    let keeps = h.0 in let rules = h.1 in let seat = h.2 in let log = h.3 in let born = h.4 in let live = h.5 in let known = h.6 in
    let mine = h.8 by v at in
    let kept = mine.0 keeping in
    let r = mine.1 ruling in
    let left = with_session who v in
    let n = length (set views by left) in
    let seat' = moved who n seat in
    let e = Happened (event.Join who.slot) in
    let now = log ++ e ∷ [] in
    let new' : has who born ≡ false = subst (λ (l : List WorkerName). has who l ≡ false) kept.2 new in
    let fresh = h.7.named who new' in (
      keeps,
      rules,
      seat',
      now,
      who ∷ born,
      who ∷ live,
      known,
      begun_sound who log born live known new' h.7,
      fits_fork keeps rules seat' now (who ∷ born) (who ∷ live) known views by left (teller who [])
          (λ i y apart there. let its = h.8 i y there in (
            (λ k. absurd (apart ((its.0 k).0 ∙ sym kept.0))),
            (λ k. absurd (apart ((its.1 k).0 ∙ sym r.0))),
            (λ q. let s = its.2 q in (
              moved_else who n seat y.who i (apart_by y.who who live s.1 fresh.0) s.0,
              or_right (is_same y.who who) (has y.who live) s.1,
              s.2 ∙ sym (did_same y.who log e refl),
            )),
          )) (
            (λ _. (kept.0, ap (λ (l : List Entry). l ++ e ∷ []) kept.1, ap (λ (l : List WorkerName). who ∷ l) kept.2)),
            (λ _. (r.0, omega (arith, r.1), r.2)),
            (λ no. absurd (off no)),
          ) (
            (λ no. absurd (off no)),
            (λ no. absurd (off no)),
            (λ _. (
              moved_here who n seat,
              or_left (is_same who who) (has who live) (eq_self who),
              sym (did_same who log e refl ∙ h.7.others who fresh.0 fresh.1),
            )),
          ),
    )

-- what stood at another place still stands there
stood : (views : List View) (by other : ℕ) (b w : View) → other ≢ by → get_elem? (set views by b) other ≡ some w → get_elem? views other ≡ some w
stood views by other b w apart there =
    ⊎_elim (λ (t : (other ≡ by) × (b ≡ w)). absurd (apart t.0)) (λ (t : (other ≢ by) × (get_elem? views other ≡ some w)). t.1) (at_set views by other b w there)

-- two views, of which one is spent
fits_merge : (keeps rules : ℕ) (seat : WorkerName → ℕ) (log : List Entry) (born live : List WorkerName) (known : List Past) (views : List View) (by other : ℕ) (b : View)
    → ((j : ℕ) (u : View) → j ≢ by → j ≢ other → get_elem? views j ≡ some u → Fits keeps rules seat log born live known j u)
    → Fits keeps rules seat log born live known by b
    → (j : ℕ) (u : View) → get_elem? (set (set views by b) other nobody) j ≡ some u → Fits keeps rules seat log born live known j u
fits_merge keeps rules seat log born live known views by other b others mine =
    fits_set keeps rules seat log born live known (set views by b) other nobody
    (λ j u far e. ⊎_elim
    (λ (x : (j ≡ by) × (b ≡ u)). fits_here keeps rules seat log born live known by j b u x.0 x.1 mine)
    (λ (x : (j ≢ by) × (get_elem? views j ≡ some u)). others j u x.0 far x.1)
    (at_set views by j b u e))
    (fits_nobody keeps rules seat log born live known other)

-- one keeps and has the roster
pub meets_ruler : (by : ℕ) (v : View) (other : ℕ) (w : View) → w.rules ≡ true → Merges Agree by v other w (with_ruler v w) nobody
meets_ruler by v other w ruling words views h at apart there =
    let keeps = h.0 in let rules = h.1 in let seat = h.2 in let log = h.3 in let born = h.4 in let live = h.5 in let known = h.6 in
    let mine = h.8 by v at in
    let b = with_ruler v w in
    let r = (h.8 other w (stood views by other b w apart there)).1 ruling in (
      keeps,
      by,
      seat,
      log,
      born,
      live,
      known,
      h.7,
      fits_merge keeps by seat log born live known views by other b
          (λ j u near far e. let its = h.8 j u e in (its.0, (λ t. absurd (far ((its.1 t).0 ∙ sym r.0))), its.2))
          (mine.0, (λ _. (refl, r.1, r.2)), (λ no. absurd (off no))),
    )

-- one keeps, and tells of a session
pub meets_teller : (by : ℕ) (v : View) (other : ℕ) (w : View) → w.tells ≡ true → Merges Agree by v other w (with_teller v w) nobody
meets_teller by v other w tells words views h at apart there =
    let keeps = h.0 in let rules = h.1 in let seat = h.2 in let log = h.3 in let born = h.4 in let live = h.5 in let known = h.6 in
    let mine = h.8 by v at in
    let b = with_teller v w in
    let t = (h.8 other w (stood views by other b w apart there)).2 tells in
    let seat' = moved w.who by seat in (
      keeps,
      rules,
      seat',
      log,
      born,
      live,
      known,
      h.7,
      fits_merge keeps rules seat' log born live known views by other b
          (λ j u near far e. let its = h.8 j u e in (
            its.0,
            its.1,
            (λ q. let s = its.2 q in (moved_else w.who by seat u.who j (λ same. far (s.0 ∙ (ap seat same ∙ sym t.0))) s.0, s.1, s.2)),
          ))
          (mine.0, (λ no. absurd (off no)), (λ _. (moved_here w.who by seat, t.1, t.2))),
    )

-- who goes on is none of those that have ended
gone_apart : (k : WorkerName) (log : List Entry) (live : List WorkerName) (known : List Past) → has k live ≡ true → AllByRecursion (IsPast log live) known → has k (map name_of known) ≡ false
gone_apart k log live [] is all = refl
gone_apart k log live (p ∷ known) is all =
    or_false (is_same k p.who) (has k (map name_of known)) (not_same k p.who (apart_by k p.who live is all.0.1)) (gone_apart k log live known is all.1)

ended_sound : (who : WorkerName) (did : List Event) (log : List Entry) (born live : List WorkerName) (known : List Past) → has who live ≡ true → did ≡ did_by who log
    → Sound log born live known → Sound log born (without who live) (known ++ past who did ∷ [])
ended_sound who did log born live known is same s =
    let names : map name_of (known ++ past who did ∷ []) ≡ map name_of known ++ who ∷ [] = map-append name_of known (past who did ∷ []) in
    record {
      once = without_once who live s.once;
      ended = all_more (IsPast log (without who live)) known (past who did)
          (all_other (IsPast log live) (IsPast log (without who live)) known s.ended (λ p q. (q.0, without_less p.who who live q.1)))
          (same, without_gone who live s.once);
      apart = subst AreOnce (sym names) (once_more who (map name_of known) s.apart (gone_apart who log live known is s.ended));
      others = λ k a b.
          let b' : (has k (map name_of known) || has k (who ∷ [])) ≡ false = sym (has_append k (map name_of known) (who ∷ [])) ∙ (ap (has k) (sym names) ∙ b) in
          let n = or_none (has k (map name_of known)) (has k (who ∷ [])) b' in
          let ne = (or_none (is_same k who) false n.1).0 in
          s.others k (sym (without_else k who live ne) ∙ a) n.0;
      named = λ k h.
          let old = s.named k h in (
            without_less k who live old.0,
            ap (has k) names ∙ (has_append k (map name_of known) (who ∷ []) ∙ or_false (has k (map name_of known)) (has k (who ∷ [])) old.1
                (or_false (is_same k who) false (not_same k who (λ e. apart_by who k live is old.0 (sym e))) refl)),
          );
    }

-- a session has ended
pub ends : (by : ℕ) (v : View) (other : ℕ) (w : View) → v.rules ≡ true → w.tells ≡ true → Merges Agree by v other w (with_past v w) nobody
ends by v other w ruling tells words views h at apart there =
    let keeps = h.0 in let rules = h.1 in let seat = h.2 in let log = h.3 in let born = h.4 in let live = h.5 in let known = h.6 in
    let mine = h.8 by v at in
    let r = mine.1 ruling in
    let b = with_past v w in
    let t = (h.8 other w (stood views by other b w apart there)).2 tells in
    let live' = without w.who live in
    let known' = known ++ past w.who w.did ∷ [] in (
      keeps,
      rules,
      seat,
      log,
      born,
      live',
      known',
      ended_sound w.who w.did log born live known t.1 t.2 h.7,
      fits_merge keeps rules seat log born live' known' views by other b
          (λ j u near far e. let its = h.8 j u e in (
            its.0,
            (λ q. absurd (near ((its.1 q).0 ∙ sym r.0))),
            (λ q. let s = its.2 q in (
              s.0,
              without_else u.who w.who live (not_same u.who w.who (λ same. far (s.0 ∙ (ap seat same ∙ sym t.0)))) ∙ s.1,
              s.2,
            )),
          )) (
            mine.0,
            (λ _. (r.0, omega (arith, r.1, length_without w.who live t.1), ap (λ (l : List Past). l ++ past w.who w.did ∷ []) r.2)),
            (λ no. absurd (off no)),
          ),
    )

-- who keeps and has the roster finds what the rule says of them
pub finds : (by : ℕ) (v : View) → Turns Agree by v (λ x. x) Finds
finds by v words views h at =
    let keeps = h.0 in let rules = h.1 in let seat = h.2 in let log = h.3 in let born = h.4 in let live = h.5 in let known = h.6 in
    let mine = h.8 by v at in (
      v,
      (keeps, rules, seat, log, born, live, known, h.7, fits_set keeps rules seat log born live known views by v (λ j u apart e. h.8 j u e) mine),
      (
        refl,
        λ keeping ruling.
            let k = mine.0 keeping in
            let r = mine.1 ruling in
            let one : Sound v.log born live known = subst (λ (l : List Entry). Sound l born live known) (sym k.1) h.7 in
            let two : Sound v.log v.born live known = subst (λ (l : List WorkerName). Sound v.log l live known) (sym k.2) one in
            (live, r.1, subst (λ (l : List Past). Sound v.log v.born live l) (sym r.2) two),
      ),
    )

here : (l : List View) (i : ℕ) (v w : View) → get_elem? l i ≡ some v → get_elem? (set l i w) i ≡ some w
here [] i v w e = absurd (some-ne-none v (sym e))
here (x ∷ xs) zero v w e = refl
here (x ∷ xs) (suc i) v w e = here xs i v w e

-- one that keeps, beside one that knows nothing
pub keeper_alone : (by : ℕ) (v : View) → Forks Agree by v (keeper_of v) nobody
keeper_alone by v words views h at =
    let keeps = h.0 in let rules = h.1 in let seat = h.2 in let log = h.3 in let born = h.4 in let live = h.5 in let known = h.6 in (
      keeps,
      rules,
      seat,
      log,
      born,
      live,
      known,
      h.7,
      fits_fork keeps rules seat log born live known views by (keeper_of v) nobody
          (λ i y apart there. h.8 i y there)
          ((h.8 by v at).0, (λ no. absurd (off no)), (λ no. absurd (off no)))
          (fits_nobody keeps rules seat log born live known (length (set views by (keeper_of v)))),
    )

-- an entry of no session is added, by who keeps
pub adds_other : (by : ℕ) (v : View) (e : Entry) → v.keeps ≡ true → ((k : WorkerName) → is_of k e ≡ false) → Forks Agree by v (keeper_of (with_entry e v)) nobody
adds_other by v e keeping none words views h at =
    let may : MayAdd e v = (keeping, (λ k is. absurd (off (sym (none k) ∙ is)))) in
    let w = with_entry e v in
    let there : get_elem? (set views by w) by ≡ some w = here views by v w at in
    subst (λ (l : List View). Agree words (l ++ nobody ∷ [])) (set_twice views by w (keeper_of w)) (keeper_alone by w words (set views by w) (added by v e may words views h at) there)

pub cuts : (by : ℕ) (v : View) → v.keeps ≡ true → Forks Agree by v (keeper_of (with_entry ChapterEnd v)) nobody
cuts by v keeping = adds_other by v ChapterEnd keeping (λ k. refl)

-- an event is added, and the view is cut in two
pub adds_own : (by : ℕ) (v : View) (e : Entry) → MayAdd e v → v.tells ≡ true → Forks Agree by v (keeper_of (with_entry e v)) (teller_of (with_entry e v))
adds_own by v e may tells words views h at =
    let w = with_entry e v in
    let there : get_elem? (set views by w) by ≡ some w = here views by v w at in
    subst (λ (l : List View). Agree words (l ++ teller_of w ∷ [])) (set_twice views by w (keeper_of w)) (split_teller by w tells words (set views by w) (added by v e may words views h at) there)

-- the same of views that are known
may_own : (e : Event) (log : List Entry) (born : List WorkerName) (who : WorkerName) (did : List Event) → is_own who e ≡ true → MayAdd (Happened e) (writer log born who did)
may_own e log born who did own = (refl, (λ k is. (refl, by_one k who e own is)))

pub met_teller : (v a w : View) (log : List Entry) (born : List WorkerName) (who : WorkerName) (did : List Event) → v ≡ with_teller a w → a ≡ keeper log born → w ≡ teller who did → v ≡ writer log born who did
met_teller v a w log born who did is keeps tells = is ∙ (ap (λ (x : View). with_teller x w) keeps ∙ ap (λ (y : View). with_teller (keeper log born) y) tells)

pub met_ruler : (v a w : View) (log : List Entry) (born : List WorkerName) (count : ℕ) (known : List Past)
    → v ≡ with_ruler a w → a ≡ keeper log born → w ≡ ruler count known → v ≡ chief log born count known
met_ruler v a w log born count known is keeps rules = is ∙ (ap (λ (x : View). with_ruler x w) keeps ∙ ap (λ (y : View). with_ruler (keeper log born) y) rules)

pub adds_own_as : (by : ℕ) (v : View) (e : Event) (log : List Entry) (born : List WorkerName) (who : WorkerName) (did : List Event) → v ≡ writer log born who did → is_own who e ≡ true
    → Forks Agree by v (keeper_of (with_entry (Happened e) v)) (teller_of (with_entry (Happened e) v))
adds_own_as by v e log born who did is own =
    subst (λ (x : View). Forks Agree by x (keeper_of (with_entry (Happened e) x)) (teller_of (with_entry (Happened e) x))) (sym is) (adds_own by (writer log born who did) (Happened e) (may_own e log born who did own) refl)

pub begun_as : (by : ℕ) (v : View) (who : WorkerName) (log : List Entry) (born : List WorkerName) (count : ℕ) (known : List Past) → v ≡ chief log born count known → has who born ≡ false
    → Forks Agree by v (with_session who v) (teller who [])
begun_as by v who log born count known is new =
    subst (λ (x : View). Forks Agree by x (with_session who x) (teller who [])) (sym is) (begun by (chief log born count known) who refl refl new)

pub joined_is : (v : View) (who : WorkerName) (log : List Entry) (born : List WorkerName) (count : ℕ) (known : List Past) → v ≡ chief log born count known
    → with_session who v ≡ chief (log ++ Happened (event.Join who.slot) ∷ []) (who ∷ born) (count + 1) known
joined_is v who log born count known is = ap (λ (x : View). with_session who x) is

nothing : (xs : List WorkerName) → 0 ≡ length xs → xs ≡ []
nothing [] h = refl
nothing (x ∷ xs) h = absurd (omega (arith, h))

closed_story : (log : List Entry) (born : List WorkerName) (known : List Past) (live : List WorkerName) → live ≡ [] → Sound log born live known → IsClosed (story log known)
closed_story log born known live none s = record {
  told = all_other (IsPast log live) (λ p. p.did ≡ did_by p.who log) known s.ended (λ p q. q.0);
  once = s.apart;
  others = λ k b. s.others k (ap (has k) none) b;
}

-- a history with no session that goes on is told whole
pub closed : (v w : View) (log : List Entry) (born : List WorkerName) (count : ℕ) (known : List Past) → v ≡ chief log born count known → count ≡ 0 → Finds v [] [] w
    → (closed_of w ≡ story log known) × IsClosed (closed_of w)
closed v w log born count known is none f =
    let same : w ≡ chief log born count known = f.0 ∙ is in
    let all : (true ≡ true → true ≡ true → (live : List WorkerName) × (count ≡ length live) × Sound log born live known) =
    subst (λ (x : View). x.keeps ≡ true → x.rules ≡ true → (live : List WorkerName) × (x.count ≡ length live) × Sound x.log x.born live x.known) is f.1 in
    let s = all refl refl in
    let told : IsClosed (story log known) = closed_story log born known s.0 (nothing s.0 (sym none ∙ s.1)) s.2 in
    (ap closed_of same, subst (λ (x : View). IsClosed (closed_of x)) (sym same) told)
