-- What the map of passes says of the set of workers that have one.
use Rattle.std.proofs.Common.{◌≡◌, ℕ, List, [], ◌∷◌, Bool, true, false, ◌||◌, not, ◌&&◌, cond, Bor, Option, Some, None, IfSome, is_some, refl, ap, sym, subst, ◌∙◌, map}
use Rattle.std.specs.BTreeMap.{BTreeMap, is_at, keys}
use Rattle.std.specs.BTreeMap as tree
use Rattle.std.specs.Cmp.{IsTotalOrder, nat_cmp_total, on_total, then_total, eq_by_cmp_equiv}
use Rattle.std.specs.FinSet as set
use Rattle.std.specs.List.{list_any}
use Rattle.std.specs.Option.{option_copied}
use Rattle.std.specs.Map.{keys_of, lookup}
use Rattle.std.specs.Ordering.{nat_cmp, eq_by_cmp, is_eq}
use Rattle.std.specs.declared.cmp.Ordering.{Ordering}
use Rattle.std.specs.declared.cmp.Ordering.TheVariants.{Less, Equal, Greater}
use Rattle.std.proofs.lemmas.Bool.{false≢true}
use Rattle.std.proofs.lemmas.Map.Lookups.{CmpEqualImpliesEq, exact_pairs, exact_unsigned}
use Rattle.worker_state.specs.declared.slot.WorkerName.{WorkerName}
use Rattle.pool_replay.specs.Passes.{worker_cmp, pair_cmp, key_of, worker_at, workers_at, IsByWorker}

pub workers_total : IsTotalOrder worker_cmp
workers_total = then_total (on_total (λ w. w.slot) nat_cmp_total) (on_total (λ w. w.generation) nat_cmp_total)

pub pairs_exact : CmpEqualImpliesEq pair_cmp
pairs_exact = exact_pairs nat_cmp nat_cmp exact_unsigned exact_unsigned

pub workers_exact : set.IsAntisymmetric worker_cmp
workers_exact a b tied = ap worker_at (pairs_exact (key_of a) (key_of b) tied)

some_or : {A : Type 0} (b : Bool) (x : A) (y : Option A) → (b || is_some y) ≡ is_some (cond b (Some x) y)
some_or true x y = refl
some_or false x y = refl

listed : (es : List ((ℕ × ℕ) × WorkerName)) (q : WorkerName)
    → list_any (eq_by_cmp worker_cmp q) (map worker_at (keys_of es)) ≡ is_some (lookup (is_at (pair_cmp (key_of q))) es)
listed [] q = refl
listed (e ∷ es) q =
    ap (λ b. is_eq (worker_cmp q (worker_at e.0)) || b) (listed es q) ∙ some_or (is_at (pair_cmp (key_of q)) e.0) e.1 _

-- a worker is in the set exactly where the map has its key
pub contained : (m : BTreeMap (ℕ × ℕ) WorkerName) (q : WorkerName)
    → set.contains (workers_at (keys m)) q ≡ is_some (tree.get pair_cmp m (key_of q))
contained m q = set.contains-from_list workers_total (map worker_at (keys m)) q ∙ listed m.entries q

-- the map has one more worker
pub one_more : (m n : BTreeMap (ℕ × ℕ) WorkerName) (w : WorkerName)
    → ((q : ℕ × ℕ) → tree.get pair_cmp n q ≡ cond (is_at (pair_cmp (key_of w)) q) (Some w) (tree.get pair_cmp m q))
    → workers_at (keys n) ≡ set.insert (workers_at (keys m)) w
one_more m n w updated = set.same_set workers_total workers_exact _ _ (λ q.
    contained n q ∙ ap is_some (updated (key_of q))
    ∙ sym (some_or (is_at (pair_cmp (key_of w)) (key_of q)) w (tree.get pair_cmp m (key_of q)))
    ∙ ap (λ b. b || is_some (tree.get pair_cmp m (key_of q))) ((eq_by_cmp_equiv workers_total).symm w q)
    ∙ ap (λ b. eq_by_cmp worker_cmp q w || b) (sym (contained m q))
    ∙ sym (set.contains-insert workers_total (workers_at (keys m)) w q))

none_or : {A : Type 0} (b : Bool) (y : Option A) → is_some (cond b None y) ≡ (not b && is_some y)
none_or true y = refl
none_or false y = refl

-- the map has one worker less
pub one_less : (m n : BTreeMap (ℕ × ℕ) WorkerName) (w : WorkerName)
    → ((q : ℕ × ℕ) → tree.get pair_cmp n q ≡ cond (is_at (pair_cmp (key_of w)) q) None (tree.get pair_cmp m q))
    → workers_at (keys n) ≡ set.remove (workers_at (keys m)) w
one_less m n w updated = set.same_set workers_total workers_exact _ _ (λ q.
    contained n q ∙ ap is_some (updated (key_of q))
    ∙ none_or (is_at (pair_cmp (key_of w)) (key_of q)) (tree.get pair_cmp m (key_of q))
    ∙ ap (λ b. not b && is_some (tree.get pair_cmp m (key_of q))) ((eq_by_cmp_equiv workers_total).symm w q)
    ∙ ap (λ b. not (eq_by_cmp worker_cmp q w) && b) (sym (contained m q))
    ∙ sym (set.contains-remove workers_total (workers_at (keys m)) w q))

kept_by_worker : (b : Bool) (w : WorkerName) (q : ℕ × ℕ) (other : Option WorkerName) → (b ≡ true → w ≡ worker_at q)
    → IfSome other (λ pass. pass ≡ worker_at q) → IfSome (cond b (Some w) other) (λ pass. pass ≡ worker_at q)
kept_by_worker true w q other here there = here refl
kept_by_worker false w q other here there = there

tied_key : (a b : ℕ × ℕ) → is_at (pair_cmp a) b ≡ true → a ≡ b
tied_key a b tied = pairs_exact a b (tied_equal (pair_cmp a b) tied)
  where
    tied_equal : (r : Ordering) → is_eq r ≡ true → r ≡ Equal
    tied_equal Less e = absurd (false≢true e)
    tied_equal Equal e = refl
    tied_equal Greater e = absurd (false≢true e)

pub by_worker_more : (m n : BTreeMap (ℕ × ℕ) WorkerName) (w : WorkerName) → IsByWorker m
    → ((q : ℕ × ℕ) → tree.get pair_cmp n q ≡ cond (is_at (pair_cmp (key_of w)) q) (Some w) (tree.get pair_cmp m q))
    → IsByWorker n
by_worker_more m n w by updated q =
    subst (λ found. IfSome found (λ pass. pass ≡ worker_at q)) (sym (updated q))
    (kept_by_worker (is_at (pair_cmp (key_of w)) q) w q (tree.get pair_cmp m q) (λ tied. ap worker_at (tied_key (key_of w) q tied)) (by q))

kept_without : (b : Bool) (q : ℕ × ℕ) (other : Option WorkerName)
    → IfSome other (λ pass. pass ≡ worker_at q) → IfSome (cond b None other) (λ pass. pass ≡ worker_at q)
kept_without true q other there = tt
kept_without false q other there = there

pub by_worker_less : (m n : BTreeMap (ℕ × ℕ) WorkerName) (w : WorkerName) → IsByWorker m
    → ((q : ℕ × ℕ) → tree.get pair_cmp n q ≡ cond (is_at (pair_cmp (key_of w)) q) None (tree.get pair_cmp m q))
    → IsByWorker n
by_worker_less m n w by updated q =
    subst (λ found. IfSome found (λ pass. pass ≡ worker_at q)) (sym (updated q))
    (kept_without (is_at (pair_cmp (key_of w)) q) q (tree.get pair_cmp m q) (by q))

copied_some : {A : Type 0} (r : Option (Bor A)) → is_some r ≡ is_some (option_copied r)
copied_some None = refl
copied_some (Some x) = refl

if_copied : {A : Type 0} (P : A → Type 0) (r : Option (Bor A)) → IfSome (option_copied r) P → IfSome r (λ x. P x.now)
if_copied P None there = tt
if_copied P (Some x) there = there

-- what a look-up of a worker's key finds: its pass, where it has one
pub finds : (m : BTreeMap (ℕ × ℕ) WorkerName) (w : WorkerName) → IsByWorker m → (found : Option WorkerName)
    → found ≡ tree.get pair_cmp m (key_of w) → IfSome found (λ pass. pass ≡ w)
finds m w by found is = subst (λ f. IfSome f (λ pass. pass ≡ w)) (sym is) (by (key_of w))

pub finds_some : (m : BTreeMap (ℕ × ℕ) WorkerName) (w : WorkerName) (workers : set.FinSet worker_cmp) → workers_at (keys m) ≡ workers → (found : Option WorkerName)
    → found ≡ tree.get pair_cmp m (key_of w) → is_some found ≡ set.contains workers w
finds_some m w workers view found is = ap is_some is ∙ sym (contained m w) ∙ ap (λ s. set.contains s w) view

pub finds_lent : (m : BTreeMap (ℕ × ℕ) WorkerName) (w : WorkerName) → IsByWorker m → (found : Option (Bor WorkerName))
    → option_copied found ≡ tree.get pair_cmp m (key_of w) → IfSome found (λ pass. pass.now ≡ w)
finds_lent m w by found is = if_copied (λ pass. pass ≡ w) found (finds m w by (option_copied found) is)

pub finds_some_lent : (m : BTreeMap (ℕ × ℕ) WorkerName) (w : WorkerName) (workers : set.FinSet worker_cmp) → workers_at (keys m) ≡ workers → (found : Option (Bor WorkerName))
    → option_copied found ≡ tree.get pair_cmp m (key_of w) → is_some found ≡ set.contains workers w
finds_some_lent m w workers view found is = copied_some found ∙ finds_some m w workers view (option_copied found) is
