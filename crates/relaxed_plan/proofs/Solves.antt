-- What holds before each problem is solved.
use Rattle.std.proofs.Common.{◌≡◌, ℕ, ◌+◌, ◌≤◌, List, [], ◌∷◌, ◌++◌, length, length-append, arith}
use Rattle.plan_model.specs.InputRefusals.{rising_of}
use Rattle.plan_model.specs.Planning.{Instance, IsInstance, IsShort, top_level}
use Rattle.relaxed_plan.specs.Least.{least_count}
use Rattle.relaxed_plan.specs.Relaxed.{LetsOff, let_off_of}
use Rattle.relaxed_plan.specs.Stranded.{served_count, stranded_of}
use Rattle.relaxed_plan.proofs.Turns.{LetsOff-more}
use Rattle.relaxed_plan.proofs.Unserved.{fewer_left, served-left, with_stranded}

-- the sets after the first are as many as problems were solved, or one more; each problem left fewer functions that some live worker may do
pub record GoesOn (i : Instance) (short these : List ℕ) (solves : ℕ) : Type 0 where
  pub later : List (List ℕ)
  pub off : LetsOff i short later these
  pub from : solves ≤ length later
  pub to : length later ≤ solves + 1
  pub served : least_count (let_off_of i these) + solves ≤ served_count i

pub goes_on-first : (i : Instance) (short these : List ℕ) → IsShort i top_level short → these ≡ rising_of (length i.least) (short ++ stranded_of (let_off_of i short)) → GoesOn i short these 0
goes_on-first i short these lacks all =
    let start = with_stranded i short these lacks all in
    record {
      later = start.0;
      off = start.1;
      from = omega arith;
      to = omega (arith, start.2);
      served = omega (arith, served-left i short these all);
    }

pub goes_on-next : (i : Instance) (short these set both : List ℕ) (solves : ℕ) → IsInstance i → GoesOn i short these solves → IsShort (let_off_of i these) top_level set → both ≡ rising_of (length i.least) (these ++ set) → GoesOn i short both (solves + 1)
goes_on-next i short these set both solves valid before lacks joined =
    let one_more = length-append before.later (set ∷ []) in
    record {
      later = before.later ++ set ∷ [];
      off = LetsOff-more i short before.later these set both before.off lacks joined;
      from = omega (arith, one_more, before.from);
      to = omega (arith, one_more, before.to);
      served = omega (arith, before.served, fewer_left i these set both valid lacks joined);
    }
