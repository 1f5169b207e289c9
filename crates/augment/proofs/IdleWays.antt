-- laws of the workers whom a search finds idle
use Rattle.std.proofs.Common.{◌≡◌, ℕ, zero, suc, ◌+◌, ◌-◌, ◌<◌, ◌≤◌, List, length, get_or, ap, arith}
use Rattle.augment.specs.declared.search.Tree.{Tree}
use Rattle.augment.specs.Searching.{MayDo}
use Rattle.augment.specs.Tree.{IsTree}
use Rattle.augment.proofs.Totals.{total}
use Rattle.augment.proofs.Trees.{degrees-le}
use Rattle.round_arena.specs.declared.tables.Pairs.{Pairs}
use Rattle.round_arena.specs.Plan.{IsGraph, degree, pair_total, pairs_up_to, staff_of}
use Rattle.round_arena.proofs.Counts.{pairs_up_to-next, pairs_up_to-within}

-- the workers of one machine of a function are not more than may do it
pub staff-le : (pairs : Pairs) (functions staff f m : ℕ) → IsGraph functions staff pairs → f < functions → MayDo pairs m f → staff_of pairs m ≤ degree pairs f
staff-le pairs functions staff f m g l may =
    let k : ℕ = may.listed.0 in
    let end : get_or pairs.machines.first.now (f + 1) 0 ≤ length pairs.machines.items.now = g.machines.ends (f + 1) (omega (arith, l)) in
    let next = pairs_up_to-next pairs functions staff f k g l may.listed.2 in
    let before : pairs_up_to pairs (get_or pairs.machines.first.now f 0) ≤ pairs_up_to pairs k = pairs_up_to-within pairs (get_or pairs.machines.first.now f 0) k may.listed.1 (omega (arith, may.listed.2, end)) in
    omega (arith, next.0, next.1, before, ap (staff_of pairs) may.listed.3)

-- a sum is not less than that of its first terms
total-rises : (a many : ℕ) (g : ℕ → ℕ) → total a g ≤ total (many + a) g
total-rises a zero g =
    let none : 0 + a ≡ a = omega arith in
    let same : total (0 + a) g ≡ total a g = ap (λ (n : ℕ). total n g) none in
    omega (arith, same)
total-rises a (suc many) g =
    let next : suc many + a ≡ suc (many + a) = omega arith in
    let same : total (suc many + a) g ≡ total (suc (many + a)) g = ap (λ (n : ℕ). total n g) next in
    omega (arith, total-rises a many g, same)

-- the pairs of the first functions reached and of a later one are not more than there are
pub degrees-le_later : (pairs : Pairs) (owner count need : List ℕ) (t : Tree) (staff head place : ℕ) → IsGraph (length need) staff pairs → IsTree pairs owner count need t → head ≤ place → place < t.tail
    → total head (λ i. degree pairs (get_or t.reached.now i 0)) + degree pairs (get_or t.reached.now place 0) ≤ pair_total pairs
degrees-le_later pairs owner count need t staff head place g h le l =
    let deg : ℕ → ℕ = λ i. degree pairs (get_or t.reached.now i 0) in
    let rises : total head deg ≤ total ((place - head) + head) deg = total-rises head (place - head) deg in
    let whole : (place - head) + head ≡ place = omega (arith, le) in
    let same : total ((place - head) + head) deg ≡ total place deg = ap (λ (n : ℕ). total n deg) whole in
    omega (arith, rises, same, degrees-le pairs owner count need t staff place g h l)
