-- laws of the pairs that the tables list
use Rattle.std.proofs.Common.{◌≡◌, ℕ, zero, suc, ◌+◌, ◌-◌, ◌<◌, ◌≤◌, length, get_or, sum_by, ap, arith}
use Rattle.std.proofs.lemmas.List.{take_all}
use Rattle.std.proofs.lemmas.List.Sums.{sum_by_more, sum_by-take-le}
use Rattle.round_arena.specs.declared.tables.Pairs.{Pairs}
use Rattle.round_arena.specs.Plan.{IsGraph, pair_total, pairs_up_to, staff_of}

-- one machine more
pub pairs_up_to-more : (pairs : Pairs) (k : ℕ) → k < length pairs.machines.items.now → pairs_up_to pairs (k + 1) ≡ pairs_up_to pairs k + staff_of pairs (get_or pairs.machines.items.now k 0)
pairs_up_to-more pairs k l = sum_by_more (staff_of pairs) pairs.machines.items.now k 0 l

pub pairs_up_to-le : (pairs : Pairs) (k : ℕ) → pairs_up_to pairs k ≤ pair_total pairs
pairs_up_to-le pairs k = sum_by-take-le (staff_of pairs) pairs.machines.items.now k

-- all machines that are listed
pub pairs_up_to-all : (pairs : Pairs) (k : ℕ) → length pairs.machines.items.now ≤ k → pairs_up_to pairs k ≡ pair_total pairs
pairs_up_to-all pairs k l = ap (sum_by (staff_of pairs)) (take_all k pairs.machines.items.now l)

-- the number does not fall
pub pairs_up_to-rises : (pairs : Pairs) (a many : ℕ) → a + many ≤ length pairs.machines.items.now → pairs_up_to pairs a ≤ pairs_up_to pairs (a + many)
pairs_up_to-rises pairs a zero l =
    let same : a + 0 ≡ a = omega arith in
    omega (arith, ap (pairs_up_to pairs) same)
pairs_up_to-rises pairs a (suc many) l =
    let same : a + suc many ≡ a + many + 1 = omega arith in
    omega (arith, pairs_up_to-rises pairs a many (omega arith), pairs_up_to-more pairs (a + many) (omega arith), ap (pairs_up_to pairs) same)

pub pairs_up_to-within : (pairs : Pairs) (a b : ℕ) → a ≤ b → b ≤ length pairs.machines.items.now → pairs_up_to pairs a ≤ pairs_up_to pairs b
pairs_up_to-within pairs a b l k =
    let whole : a + (b - a) ≡ b = omega arith in
    omega (arith, pairs_up_to-rises pairs a (b - a) (omega arith), ap (pairs_up_to pairs) whole)

-- up to the machines of one function and up to those of the next
pub pairs_up_to-step : (pairs : Pairs) (functions staff f : ℕ) → IsGraph functions staff pairs → f < functions
    → pairs_up_to pairs (get_or pairs.machines.first.now f 0) ≤ pairs_up_to pairs (get_or pairs.machines.first.now (f + 1) 0)
pairs_up_to-step pairs functions staff f g l = pairs_up_to-within pairs (get_or pairs.machines.first.now f 0) (get_or pairs.machines.first.now (f + 1) 0) (g.machines.rises f l) (g.machines.ends (f + 1) (omega arith))

-- one machine more of a function
pub pairs_up_to-next : (pairs : Pairs) (functions staff f k : ℕ) → IsGraph functions staff pairs → f < functions → k < get_or pairs.machines.first.now (f + 1) 0
    → (pairs_up_to pairs (k + 1) ≡ pairs_up_to pairs k + staff_of pairs (get_or pairs.machines.items.now k 0)) × (pairs_up_to pairs (k + 1) ≤ pairs_up_to pairs (get_or pairs.machines.first.now (f + 1) 0))
pairs_up_to-next pairs functions staff f k g l b =
    let end = g.machines.ends (f + 1) (omega arith) in
    (pairs_up_to-more pairs k (omega (arith, end)), pairs_up_to-within pairs (k + 1) (get_or pairs.machines.first.now (f + 1) 0) (omega arith) end)

-- all pairs stand up to the end of the last function's machines
pub pairs_up_to-last : (pairs : Pairs) (functions staff : ℕ) → IsGraph functions staff pairs → pairs_up_to pairs (get_or pairs.machines.first.now functions 0) ≡ pair_total pairs
pairs_up_to-last pairs functions staff g = pairs_up_to-all pairs (get_or pairs.machines.first.now functions 0) (omega (arith, g.machines.last))
