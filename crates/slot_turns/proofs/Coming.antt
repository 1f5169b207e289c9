-- Slots that come one after the other.
use Rattle.std.proofs.Common.{◌≡◌, ℕ, ◌<◌, List, [], ◌∷◌, ◌++◌, length, get_or, take, drop, refl, sym, ap, ◌∙◌, subst, arith, length-append}
use Rattle.std.specs.List.{range_with_len}
use Rattle.std.specs.List.Sorted.{IsPermutation}
use Rattle.std.proofs.lemmas.List.{append_assoc, append-nil, get_or_append_left}
use Rattle.std.proofs.lemmas.List.Sorted.{All-permutation, IsPermutation-append_comm, IsPermutation-trans}
use Rattle.plan_model.proofs.Ranges.{range-below}
use Rattle.pool_settings.specs.Settings.{Settings}
use Rattle.pool_settings.specs.Slots.{slots}
use Rattle.slot_turns.specs.Law.{AsManyCome, EachComesAgain, EachComesOnce, EachIsASlot, NoneComesTwice, NoneHasCome, NoneIsPassedOver, OneMoreComes}
use Rattle.slot_turns.specs.Turns.{HaveCome, IsEachSlotOnce}
use Rattle.slot_turns.proofs.Order.{all_differ}

-- the first one comes, and goes to the end
pub first_comes : (before now : List ℕ) (slot d : ℕ) → 0 < length before → slot ≡ get_or before 0 d → now ≡ drop 1 before ++ take 1 before → HaveCome (slot ∷ []) before now
first_comes [] now slot d some is moved = absurd (omega (arith, some))
first_comes (x ∷ xs) now slot d some is moved = record {
  others = xs;
  first = ap (λ s. s ∷ xs) (sym is);
  last = moved ∙ ap (λ s. xs ++ s ∷ []) (sym is);
}

pub none_has_come : NoneHasCome
none_has_come coming = record { others = coming; first = refl; last = sym (append-nil coming) }

pub one_more_comes : OneMoreComes
one_more_comes came before between now slot some one few = more some.others some.first some.last
  where
    more : (others : List ℕ) → before ≡ came ++ others → between ≡ others ++ came → HaveCome (came ++ slot ∷ []) before now
    more [] first last = absurd (omega (arith, few, ap length first, ap length (append-nil came)))
    more (x ∷ xs) first last =
        let both : x ∷ (xs ++ came) ≡ slot ∷ one.others = sym last ∙ one.first in
        let same : x ≡ slot = ap (λ ys. get_or ys 0 0) both in
        let rest : xs ++ came ≡ one.others = ap (drop 1) both in
        record {
          others = xs;
          first = first ∙ ap (λ s. came ++ s ∷ xs) same ∙ sym (append_assoc came (slot ∷ []) xs);
          last = one.last ∙ ap (λ ys. ys ++ slot ∷ []) (sym rest) ∙ append_assoc xs came (slot ∷ []);
        }

pub as_many_come : AsManyCome
as_many_come came before now some =
    omega (arith, ap length some.first, ap length some.last, length-append came some.others, length-append some.others came)

-- what has come stood at the beginning
at_first : (came before now : List ℕ) (some : HaveCome came before now) (k d : ℕ) → k < length came → (k < length before) × (get_or before k d ≡ get_or came k d)
at_first came before now some k d below = (
  omega (arith, below, ap length some.first, length-append came some.others),
  ap (λ xs. get_or xs k d) some.first ∙ get_or_append_left came some.others d k below,
)

pub each_is_a_slot : (settings : Settings) → EachIsASlot settings
each_is_a_slot settings came before now some each k d below =
    let first = at_first came before now some k d below in
    let P : ℕ → Type 0 = λ slot. slot < slots settings in
    subst P first.1 (All-permutation P (range_with_len 0 (slots settings)) before each (range-below (slots settings)) k d first.0)

pub each_comes_again : (settings : Settings) → EachComesAgain settings
each_comes_again settings came before now some each =
    let all : List ℕ = range_with_len 0 (slots settings) in
    let moved : IsPermutation all (some.others ++ came) =
    IsPermutation-trans all (came ++ some.others) (some.others ++ came) (subst (λ (xs : List ℕ). IsPermutation all xs) some.first each) (IsPermutation-append_comm came some.others) in
    subst (λ (xs : List ℕ). IsPermutation all xs) (sym some.last) moved

pub none_comes_twice : (settings : Settings) → NoneComesTwice settings
none_comes_twice settings came before now some each i j d early inside same =
    let one = at_first came before now some i d (omega (arith, early, inside)) in
    let other = at_first came before now some j d inside in
    all_differ settings before each i j d early other.0 (one.1 ∙ same ∙ sym other.1)

pub each_comes_once : (settings : Settings) → EachComesOnce settings
each_comes_once settings came before now some as_many each = subst (λ (xs : List ℕ). IsEachSlotOnce settings xs) (all some.others some.first) each
  where
    all : (others : List ℕ) → before ≡ came ++ others → before ≡ came
    all [] first = first ∙ append-nil came
    all (x ∷ xs) first = absurd (omega (arith, as_many, ap length first, length-append came (x ∷ xs)))

pub none_is_passed_over : NoneIsPassedOver
none_is_passed_over first second before between now some next = (
  next.others ++ some.others,
  ap (λ xs. xs ++ xs) some.first
      ∙ append_assoc first some.others (first ++ some.others)
      ∙ ap (λ xs. first ++ xs) (
      sym (append_assoc some.others first some.others)
      ∙ ap (λ xs. xs ++ some.others) (sym some.last ∙ next.first)
      ∙ append_assoc second next.others some.others)
      ∙ sym (append_assoc first second (next.others ++ some.others)),
)
