-- The planning problem of settings, with other greatest numbers.
use Rattle.std.proofs.Common.{◌≡◌, ℕ, ◌<◌, List, Bool, false, length, get_or, All, sym, subst, ap, arith}
use Rattle.std.proofs.lemmas.List.Elements.{All-filter, All-from_get_or}
use Rattle.std.proofs.lemmas.List.FromFn.{get_or-enumerate_from, length-enumerate_from}
use Rattle.plan_model.specs.InputRefusals.{IsTaken, as_given, instance}
use Rattle.plan_model.specs.Planning.{Instance, IsInstance}
use Rattle.pool_report.specs.Law.{IsOf}
use Rattle.pool_settings.proofs.Risen.{rows_same}
use Rattle.pool_settings.proofs.SlotSums.{length-owners_from}
use Rattle.pool_settings.specs.Settings.{Settings}
use Rattle.pool_settings.specs.Slots.{all_workers, live_workers, owners, slots}
use Rattle.live_size.specs.Farms.{with_most}

-- a problem is taken with other greatest numbers, as many as before
pub taken_with : (i : Instance) (most : List ℕ) → IsInstance i → length most ≡ length i.least → IsTaken (as_given i.live i.may i.least most i.waiting)
taken_with i most valid many = record {
  order = valid.slots;
  numbers = record { machines = valid.machines; functions = valid.within; bounded = many; paired = valid.paired };
  limits = valid.limits;
}

-- and keeps its permissions
pub made_with : (i : Instance) (most : List ℕ) → IsInstance i → instance i.live i.may i.least most i.waiting ≡ with_most i most
made_with i most valid =
    ap (λ (rows : List (List ℕ)). record { live = i.live; may = rows; least = i.least; most = most; waiting = i.waiting }) (rows_same (length i.least) i.may valid.rows valid.within)

-- the slots of live workers are those of the settings
module _ (p : Settings) where
  live_below : (live : List Bool) → All (λ w. w.0 < slots p) (live_workers p live)
  live_below live = All-filter (λ w. get_or live w.0 false) (λ w. w.0 < slots p) (all_workers p) (All-from_get_or (λ w. w.0 < slots p) (all_workers p) (0, 0) each)
    where
      each : (k : ℕ) → k < length (all_workers p) → (get_or (all_workers p) k (0, 0)).0 < slots p
      each k below =
          let inside : k < length (owners p) = omega (arith, length-enumerate_from 0 (owners p), below) in
          let at = get_or-enumerate_from 0 (owners p) k (0, 0) inside in
          rw at (omega (arith, inside, length-owners_from 0 p.workers))

  pub slotted : (i : Instance) → IsOf p i → All (λ w. w.0 < slots p) i.live
  slotted i from = subst (λ ws. All (λ w. w.0 < slots p) ws) (sym (ap (λ (j : Instance). j.live) from.2)) (live_below from.0)

  pub of_permissions : (i : Instance) → IsOf p i → i.may ≡ p.may
  of_permissions i from = ap (λ (j : Instance). j.may) from.2
