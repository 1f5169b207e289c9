-- laws of the bisection of levels
use Rattle.std.proofs.Common.{◌≡◌, ℕ, zero, suc, ◌+◌, ◌-◌, ◌*◌, ◌/◌, ◌^◌, ◌<◌, ◌≤◌, Option, None, Some, Bor, List, All, length, sum_by, get_or, refl, sym, ap, ◌∙◌, subst, ltb, arith, inl, inr}
use Rattle.std.specs.List.{range_with_len}
use Rattle.std.proofs.lemmas.List.Sums.{sum_by_push}
use Rattle.round_arena.proofs.Lists.{range_more}
use Rattle.std.proofs.lemmas.Bool.{cases_lt, cond-true, cond-false, lt-ltb, le-ltb}
use Rattle.std.proofs.Math.Nat.{mul-le-mul_left, mul_comm, two-pow-succ}
use Rattle.std.proofs.lemmas.List.Elements.{recursion_from_All}
use Rattle.plan_model.specs.Planning.{Instance, may_do, need, neighbours, LacksWorkers, IsShort, top_level}
use Rattle.plan_model.proofs.Hall.{sum_by-le_each}
use Rattle.plan_model.proofs.Reached.{need-falls}
use Rattle.round_arena.specs.declared.tables.Tables.{Tables}
use Rattle.round_arena.specs.declared.tables.Pairs.{Pairs}
use Rattle.round_arena.specs.Plan.{pair_total, Represents}
use Rattle.round_arena.specs.Round.{IsConsistent, SamePairs, Holds}
use Rattle.augment.specs.declared.serving.Served.{Served}
use Rattle.augment.specs.declared.serving.Served.TheVariants.{All as Full, Short}
use Rattle.augment.specs.Round.{Hires, IsServed, KeepsServed, IsWithinLooks}
use Rattle.augment.proofs.Rounds.{SamePairs-trans}
use Rattle.level_search.specs.Levels.{AreNeeds, ExceedsWorkers, Fits, AreMet}
use Rattle.level_search.specs.Found.{IsProbed, KeepsMet}
use Rattle.level_search.specs.Paid.{passes_at}

-- the needs of one function more
pub sum-more : (g : ℕ → ℕ) (n m : ℕ) → m ≡ suc n → sum_by g (range_with_len 0 m) ≡ sum_by g (range_with_len 0 n) + g n
sum-more g n m e =
    ap (λ k. sum_by g (range_with_len 0 k)) e ∙ ap (sum_by g) (range_more 0 n n (omega arith)) ∙ sum_by_push g (range_with_len 0 n) n

pub SamePairs-refl : (t : Tables) → SamePairs t t
SamePairs-refl t = record { pairs = refl; most = refl; machine = refl; slot = refl; order = refl; staff = refl }

pub Fits-same : (i : Instance) (t u : Tables) → SamePairs t u → Fits i t → Fits i u
Fits-same i t u s h =
    let machine : u.machine.now ≡ t.machine.now = ap (λ m. m.now) s.machine in
    record {
      machines = machine ∙ h.machines;
      most = ap (λ m. m.now) s.most ∙ h.most;
      holds = subst (λ (m : List ℕ). Represents (may_do i) m u.pairs (length i.least)) (sym machine)
          (subst (λ (p : Pairs). Represents (may_do i) t.machine.now p (length i.least)) (sym s.pairs) h.holds);
    }

pub AreMet-kept : (i : Instance) (needs : List ℕ) (level higher : ℕ) (t u : Tables) → AreNeeds i level needs → KeepsServed needs t u
    → level ≤ higher → AreMet i t.owner.now higher → AreMet i u.owner.now higher
AreMet-kept i needs level higher t u e k l met f b =
    omega (arith, need-falls i level higher f l, e.each f b, met f b, k f (omega (arith, e.size, b)))

-- the set that serving gives is short at the level
pub IsShort-served : (i : Instance) (needs set : List ℕ) (level : ℕ) (t : Tables) → AreNeeds i level needs → Fits i t → LacksWorkers (may_do i) t.machine.now (length needs) (λ f. get_or needs f 0) set → IsShort i level set
IsShort-served i needs set level t e fits h =
    let within : All (λ f. f < length i.least) set = λ k d b. omega (arith, h.within k d b, e.size) in
    let fewer : sum_by (λ f. get_or needs f 0) set ≤ sum_by (need i level) set =
    sum_by-le_each (λ f. get_or needs f 0) (need i level) set (recursion_from_All (λ f. get_or needs f 0 ≤ need i level f) set (λ k d b. omega (arith, e.each (get_or set k d) (within k d b)))) in
    record {
      rising = h.rising;
      within = within;
      short = omega (arith, h.short, fewer, ap (λ ms. neighbours (may_do i) ms set) fits.machines);
    }

pub IsProbed-served : (i : Instance) (needs : List ℕ) (level : ℕ) (t : Tables) (served : Served) → AreNeeds i level needs → Fits i t → IsServed needs t served → IsProbed i level t served
IsProbed-served i needs level t Full e fits h = λ f l. omega (arith, h f (omega (arith, l, e.size)), e.each f l)
IsProbed-served i needs level t (Short set) e fits h =
    let by_need : Holds (may_do i) (length needs) t = subst (λ (n : ℕ). Holds (may_do i) n t) (sym e.size) fits.holds in
    IsShort-served i needs set.now level t e fits (h (may_do i) by_need)

-- why a level is not served: a set is short there, or more workers are needed than there are
abbrev pub IsRefused : Instance → ℕ → Option (Bor (List ℕ)) → Type 0
IsRefused i level (Some set) = IsShort i level set.now
IsRefused i level None = ExceedsWorkers i level

-- the looks of the probe that was not made, if more workers are needed one level below than there are
abbrev pub spared : ℕ → ℕ → Option (Bor (List ℕ)) → ℕ
spared looks zero short = 0
spared looks (suc low) (Some set) = 0
spared looks (suc low) None = looks

spared-some : (looks low : ℕ) (set : Bor (List ℕ)) → spared looks low (Some set) ≡ 0
spared-some looks zero set = refl
spared-some looks (suc low) set = refl

spared-none : (looks low : ℕ) → spared looks low None ≤ looks
spared-none looks zero = omega arith
spared-none looks (suc low) = omega arith

spared-all : (looks low : ℕ) → 0 < low → spared looks low None ≡ looks
spared-all looks zero l = absurd (omega (arith, l))
spared-all looks (suc low) l = refl

-- the looks of a probe
abbrev pub probe_looks : Tables → ℕ
probe_looks t = (length t.owner.now + 1) * pair_total t.pairs

-- the looks of the first probe, which was served, and of so many rounds
abbrev pub looks_by : Tables → ℕ → ℕ
looks_by t round = t.looks + length t.owner.now * pair_total t.pairs + round * probe_looks t

-- how far the bisection has come
pub record IsBisecting (i : Instance) (before now : Tables) (low high round : ℕ) (short : Option (Bor (List ℕ))) : Type 0 where
  pub sound : IsConsistent (length i.least) now
  pub same : SamePairs before now
  pub fits : Fits i now
  pub order : low ≤ high
  pub width : high - low < 2 ^ (33 - round)
  pub met : AreMet i now.owner.now high
  pub refused : 0 < low → IsRefused i (low - 1) short
  pub hired : Hires (length i.least) before now
  pub looks : now.looks + spared (probe_looks before) low short ≤ looks_by before round
  -- a probe that was served, below the top level, took one pass fewer
  pub left : high < top_level → now.looks + pair_total before.pairs + spared (probe_looks before) low short ≤ looks_by before round

half_width : (round : ℕ) → round < 33 → 2 ^ (33 - round) ≡ 2 ^ (33 - (round + 1)) + 2 ^ (33 - (round + 1))
half_width round l =
    let next : 33 - round ≡ suc (33 - (round + 1)) = omega arith in
    ap (λ n. 2 ^ n) next ∙ two-pow-succ (33 - (round + 1))

-- the looks of a probe of tables with the same workers and pairs
probe-same : (before now : Tables) → SamePairs before now → probe_looks now ≡ probe_looks before
probe-same before now same =
    let staff : length now.owner.now ≡ length before.owner.now = same.staff in
    let pairs : pair_total now.pairs ≡ pair_total before.pairs = ap pair_total same.pairs in
    ap (λ n. (n + 1) * pair_total now.pairs) staff ∙ ap (λ n. (length before.owner.now + 1) * n) pairs

-- the looks that are left for one probe more
pub looks-left : (i : Instance) (short : Option (Bor (List ℕ))) (before now : Tables) (low high round : ℕ) → IsBisecting i before now low high round short → round < 33
    → now.looks + (length now.owner.now + 1) * pair_total now.pairs ≤ before.looks + 34 * ((length before.owner.now + 1) * pair_total before.pairs)
looks-left i short before now low high round h l =
    let q : ℕ = probe_looks before in
    let rounds : q * round ≤ q * 32 = mul-le-mul_left q (omega arith) in
    let swap : round * q ≡ q * round = mul_comm round q in
    let part : length before.owner.now * pair_total before.pairs ≤ q = omega arith in
    omega (arith, h.looks, probe-same before now h.same)

spent-le : (old new : Tables) (served : Served) → IsWithinLooks old new served → new.looks ≤ old.looks + probe_looks old
spent-le old new Full h = omega arith
spent-le old new (Short set) h = h

-- the looks after one probe more
looks-more : (i : Instance) (short : Option (Bor (List ℕ))) (before now then : Tables) (low high round : ℕ) (served : Served) → IsBisecting i before now low high round short → IsWithinLooks now then served
    → then.looks + spared (probe_looks before) low short ≤ looks_by before (round + 1)
looks-more i short before now then low high round served h w =
    let q : ℕ = probe_looks before in
    let product : (round + 1) * q ≡ round * q + q = omega arith in
    omega (arith, h.looks, spent-le now then served w, probe-same before now h.same)

-- and the pass that is left
left-more : (i : Instance) (short : Option (Bor (List ℕ))) (before now then : Tables) (low high round : ℕ) (served : Served) → IsBisecting i before now low high round short → IsWithinLooks now then served → high < top_level
    → then.looks + pair_total before.pairs + spared (probe_looks before) low short ≤ looks_by before (round + 1)
left-more i short before now then low high round served h w below =
    let q : ℕ = probe_looks before in
    let product : (round + 1) * q ≡ round * q + q = omega arith in
    omega (arith, h.left below, spent-le now then served w, probe-same before now h.same)

left-met : (i : Instance) (short : Option (Bor (List ℕ))) (before now then : Tables) (low high round : ℕ) → IsBisecting i before now low high round short → IsWithinLooks now then Full
    → then.looks + pair_total before.pairs + spared (probe_looks before) low short ≤ looks_by before (round + 1)
left-met i short before now then low high round h w =
    let q : ℕ = probe_looks before in
    let staff : length now.owner.now ≡ length before.owner.now = h.same.staff in
    let pairs : pair_total now.pairs ≡ pair_total before.pairs = ap pair_total h.same.pairs in
    let one : length now.owner.now * pair_total now.pairs ≡ length before.owner.now * pair_total before.pairs = ap (λ n. n * pair_total now.pairs) staff ∙ ap (λ n. length before.owner.now * n) pairs in
    let whole : q ≡ length before.owner.now * pair_total before.pairs + pair_total before.pairs = omega arith in
    let product : (round + 1) * q ≡ round * q + q = omega arith in
    omega (arith, h.looks, w)

-- the passes for which the bound leaves room once the level is found
passes_within : (before : Tables) (high looks : ℕ) → looks ≤ looks_by before 33 → (high < top_level → looks + pair_total before.pairs ≤ looks_by before 33)
    → looks + passes_at high * pair_total before.pairs ≤ before.looks + 34 * probe_looks before
passes_within before high looks all left =
    let p : ℕ = pair_total before.pairs in
    let whole : (length before.owner.now + 1) * p ≡ length before.owner.now * p + p = omega arith in
    elim (cases_lt high top_level) [
      | inl below ↦
          let two : passes_at high * p ≡ 2 * p = ap (λ n. n * p) (cond-true (ltb high top_level) 2 1 (lt-ltb high top_level below)) in
          omega (arith, left below)
      | inr above ↦
          let one : passes_at high * p ≡ 1 * p = ap (λ n. n * p) (cond-false (ltb high top_level) 2 1 (le-ltb high top_level above)) in
          omega (arith, all)
    ]

pub passes-left : (i : Instance) (short : Option (Bor (List ℕ))) (before now : Tables) (low high : ℕ) → IsBisecting i before now low high 33 short
    → now.looks + passes_at high * pair_total before.pairs ≤ before.looks + 34 * ((length before.owner.now + 1) * pair_total before.pairs)
passes-left i short before now low high h =
    passes_within before high now.looks (omega (arith, h.looks)) (λ below. omega (arith, h.left below))

-- the last round, if more workers are needed one level below than there are
pub last-round : (i : Instance) (short : Option (Bor (List ℕ))) (before now : Tables) (low high round : ℕ) → IsBisecting i before now low high round short → round ≡ 33 → short ≡ None
    → IsBisecting i before now low high 33 None
last-round i short before now low high round h last none =
    subst (λ (z : Option (Bor (List ℕ))). IsBisecting i before now low high 33 z) none (subst (λ (n : ℕ). IsBisecting i before now low high n short) last h)

-- what the bound leaves beyond the last round
pub looks_by-few : (before : Tables) → looks_by before 33 ≤ before.looks + 34 * probe_looks before
looks_by-few before =
    let part : probe_looks before ≡ length before.owner.now * pair_total before.pairs + pair_total before.pairs = omega arith in
    omega (arith, part)

-- the probe that was not made may be made at the end
pub last-fits : (i : Instance) (before now : Tables) (low high : ℕ) → IsBisecting i before now low high 33 None → 0 < low
    → now.looks + probe_looks now ≤ looks_by before 33
last-fits i before now low high h l =
    omega (arith, h.looks, spared-all (probe_looks before) low l, probe-same before now h.same)

pub passes-last : (i : Instance) (before now then : Tables) (low high : ℕ) → IsBisecting i before now low high 33 None → 0 < low
    → then.looks ≤ now.looks + probe_looks now
    → then.looks + passes_at high * pair_total before.pairs ≤ before.looks + 34 * ((length before.owner.now + 1) * pair_total before.pairs)
passes-last i before now then low high h l spent =
    let all : spared (probe_looks before) low None ≡ probe_looks before = spared-all (probe_looks before) low l in
    let same : probe_looks now ≡ probe_looks before = probe-same before now h.same in
    passes_within before high then.looks (omega (arith, h.looks, all, same, spent)) (λ below. omega (arith, h.left below, all, same, spent))

-- the middle level was served
pub IsBisecting-met : (i : Instance) (short : Option (Bor (List ℕ))) (before now then : Tables) (low high round middle : ℕ) → IsBisecting i before now low high round short → round < 33 → low < high → middle ≡ low + (high - low) / 2
    → IsConsistent (length i.least) then → SamePairs now then → AreMet i then.owner.now middle → IsWithinLooks now then Full → Hires (length i.least) now then
    → IsBisecting i before then low middle (round + 1) short
IsBisecting-met i short before now then low high round middle h r l m sound same met w more =
    let half : 2 ^ (33 - round) ≡ 2 ^ (33 - (round + 1)) + 2 ^ (33 - (round + 1)) = half_width round r in
    record {
      sound = sound;
      same = SamePairs-trans before now then h.same same;
      fits = Fits-same i now then same h.fits;
      order = omega arith;
      width = omega (arith, h.width);
      met = met;
      refused = λ p. h.refused p;
      hired = omega (arith, h.hired, more);
      looks = looks-more i short before now then low high round Full h w;
      left = λ _. left-met i short before now then low high round h w;
    }

-- the middle level is short
pub IsBisecting-short : (i : Instance) (short : Option (Bor (List ℕ))) (before now then : Tables) (low high round middle : ℕ) (found : Served) (more : Bor (List ℕ)) → IsBisecting i before now low high round short → round < 33 → low < high → middle ≡ low + (high - low) / 2
    → IsConsistent (length i.least) then → SamePairs now then → KeepsMet i middle now then → IsShort i middle more.now → IsWithinLooks now then found → Hires (length i.least) now then
    → IsBisecting i before then (middle + 1) high (round + 1) (Some more)
IsBisecting-short i short before now then low high round middle found more h r l m sound same kept refused w hired =
    let half : 2 ^ (33 - round) ≡ 2 ^ (33 - (round + 1)) + 2 ^ (33 - (round + 1)) = half_width round r in
    let back : middle + 1 - 1 ≡ middle = omega arith in
    let none : spared (probe_looks before) (middle + 1) (Some more) ≡ 0 = spared-some (probe_looks before) (middle + 1) more in
    record {
      sound = sound;
      same = SamePairs-trans before now then h.same same;
      fits = Fits-same i now then same h.fits;
      order = omega arith;
      width = omega (arith, h.width);
      met = kept high (omega arith) h.met;
      refused = λ _. subst (λ (n : ℕ). IsShort i n more.now) (sym back) refused;
      hired = omega (arith, h.hired, hired);
      looks = omega (arith, looks-more i short before now then low high round found h w, none);
      left = λ below. omega (arith, left-more i short before now then low high round found h w below, none);
    }

-- more workers are needed at the middle level than there are
pub IsBisecting-beyond : (i : Instance) (short : Option (Bor (List ℕ))) (before now : Tables) (low high round middle : ℕ) → IsBisecting i before now low high round short → round < 33 → low < high → middle ≡ low + (high - low) / 2
    → ExceedsWorkers i middle
    → IsBisecting i before now (middle + 1) high (round + 1) None
IsBisecting-beyond i short before now low high round middle h r l m beyond =
    let q : ℕ = probe_looks before in
    let half : 2 ^ (33 - round) ≡ 2 ^ (33 - (round + 1)) + 2 ^ (33 - (round + 1)) = half_width round r in
    let back : middle + 1 - 1 ≡ middle = omega arith in
    let product : (round + 1) * q ≡ round * q + q = omega arith in
    let most : spared q (middle + 1) None ≤ q = spared-none q (middle + 1) in
    record {
      sound = h.sound;
      same = h.same;
      fits = h.fits;
      order = omega arith;
      width = omega (arith, h.width);
      met = h.met;
      refused = λ _. subst (λ (n : ℕ). ExceedsWorkers i n) (sym back) beyond;
      hired = h.hired;
      looks = omega (arith, h.looks, most);
      left = λ below. omega (arith, h.left below, most);
    }

-- there is no level between
pub IsBisecting-idle : (i : Instance) (short : Option (Bor (List ℕ))) (before now : Tables) (low high round : ℕ) → IsBisecting i before now low high round short → round < 33 → high ≤ low
    → IsBisecting i before now low high (round + 1) short
IsBisecting-idle i short before now low high round h r l =
    let q : ℕ = probe_looks before in
    let half : 2 ^ (33 - round) ≡ 2 ^ (33 - (round + 1)) + 2 ^ (33 - (round + 1)) = half_width round r in
    let product : (round + 1) * q ≡ round * q + q = omega arith in
    record {
      sound = h.sound;
      same = h.same;
      fits = h.fits;
      order = h.order;
      met = h.met;
      refused = h.refused;
      hired = h.hired;
      width = omega (arith, h.width);
      looks = omega (arith, h.looks);
      left = λ below. omega (arith, h.left below);
    }

pub IsBisecting-is : (i : Instance) (before t u : Tables) (low low' high high' round : ℕ) (short short' : Option (Bor (List ℕ))) → u ≡ t → low' ≡ low → high' ≡ high → short' ≡ short
    → IsBisecting i before t low high round short → IsBisecting i before u low' high' round short'
IsBisecting-is i before t u low low' high high' round short short' et el eh es h =
    subst (λ (z : Tables). IsBisecting i before z low' high' round short') (sym et)
    (subst (λ (z : ℕ). IsBisecting i before t z high' round short') (sym el)
    (subst (λ (z : ℕ). IsBisecting i before t low z round short') (sym eh)
    (subst (λ (z : Option (Bor (List ℕ))). IsBisecting i before t low high round z) (sym es) h)))
