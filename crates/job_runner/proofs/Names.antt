-- Names of the settings are encoded as they are.
use Rattle.std.proofs.Common.{◌≡◌, ℕ, zero, suc, ◌+◌, ◌<◌, ◌≤◌, ◌^◌, Bool, true, false, ◌&&◌, ◌||◌, List, [], ◌∷◌, ◌++◌, length, Option, Some, None, refl, arith}
use Rattle.std.specs.Prelude.{◌==◌, nat_le, ◌%◌, IfSome, All, slice_get}
use Rattle.std.specs.List.{list_all, AllByRecursion}
use Rattle.std.specs.Fmt.{decimal}
use Rattle.std.proofs.lemmas.Bool.{le-ltb, leb-true, ne_eqb}
use Rattle.std.proofs.lemmas.Fmt.{decimal_by_steps, length-decimal-le}
use Rattle.std.proofs.lemmas.List.{length-append}
use Rattle.gear_packets.specs.Frame.{body_limit}
use Rattle.gear_packets.specs.Request.{can_do, cant_do, set_client_id, has_nul}
use Rattle.gear_packets.specs.Text.{is_same_name}
use Rattle.pool_settings.specs.Names.{name_at, is_name_byte, is_machine_name_byte}
use Rattle.pool_settings.specs.Settings.{Settings, AreSettings}
use Rattle.pool_settings.specs.Slots.{machine_of, worker_number, worker_text, slots}
use Rattle.worker_state.specs.declared.slot.WorkerName.{WorkerName}
use Rattle.job_runner.specs.Course.{IsAccepted, IsFunctionName, name_of, obeying}

and_parts : (a b : Bool) → (a && b) ≡ true → (a ≡ true) × (b ≡ true)
and_parts true b h = (refl, h)
and_parts false b h = absurd cc

or_parts : (a b : Bool) → (a || b) ≡ false → (a ≡ false) × (b ≡ false)
or_parts false b h = (refl, h)
or_parts true b h = absurd cc

-- ---- texts without NUL

nul_append : (xs ys : List ℕ) → has_nul xs ≡ false → has_nul ys ≡ false → has_nul (xs ++ ys) ≡ false
nul_append [] ys a b = b
nul_append (x ∷ xs) ys a b =
    let p = or_parts (x == 0) (has_nul xs) a in
    rw (p.0, nul_append xs ys p.1 b) refl

byte_named : (b : ℕ) → is_name_byte b ≡ true → (b == 0) ≡ false
byte_named b h =
    let least = leb-true 33 b (and_parts (nat_le 33 b) (nat_le b 126) h).0 in
    ne_eqb b 0 (λ e. omega (arith, e, least))

bytes_named : (name : List ℕ) → list_all is_name_byte name ≡ true → has_nul name ≡ false
bytes_named [] h = refl
bytes_named (b ∷ name) h =
    let p = and_parts (is_name_byte b) (list_all is_name_byte name) h in
    rw (byte_named b p.0, bytes_named name p.1) refl

machine_bytes : (name : List ℕ) → list_all is_machine_name_byte name ≡ true → has_nul name ≡ false
machine_bytes [] h = refl
machine_bytes (b ∷ name) h =
    let p = and_parts (is_machine_name_byte b) (list_all is_machine_name_byte name) h in
    rw (byte_named b (and_parts (is_name_byte b) _ p.0).0, machine_bytes name p.1) refl

digit_named : (d : ℕ) → has_nul ((48 + d) ∷ []) ≡ false
digit_named d = rw (ne_eqb (48 + d) 0 (λ e. omega (arith, e))) refl

decimal_named : (n : ℕ) → n < 2 ^ 64 → has_nul (decimal n) ≡ false
decimal_named n small = decimal_by_steps (λ (k : ℕ) (ds : List ℕ). has_nul ds ≡ false) (λ (k : ℕ) (h : k < 10). digit_named k) (λ (k : ℕ) (ds : List ℕ) (h : 10 ≤ k) (ih : has_nul ds ≡ false). nul_append ds ((48 + k % 10) ∷ []) ih (digit_named (k % 10))) n small

-- ---- packets that are accepted

id_accepted : (text : List ℕ) → length text ≤ body_limit → has_nul text ≡ false → IsAccepted (set_client_id text)
id_accepted text short none = rw (le-ltb body_limit (length text) short, none) refl

function_parts : (name : List ℕ) → IsFunctionName name → (length name ≤ body_limit) × (has_nul name ≡ false)
function_parts name h =
    let p = and_parts (nat_le 1 (length name) && nat_le (length name) 64) (list_all is_name_byte name) h in
    let few = leb-true (length name) 64 (and_parts (nat_le 1 (length name)) (nat_le (length name) 64) p.0).1 in
    (omega (arith, few), bytes_named name p.1)

can_accepted : (name : List ℕ) → IsFunctionName name → IsAccepted (can_do name)
can_accepted name h =
    let p = function_parts name h in
    rw (le-ltb body_limit (length name) p.0, p.1) refl

cant_accepted : (name : List ℕ) → IsFunctionName name → IsAccepted (cant_do name)
cant_accepted name h =
    let p = function_parts name h in
    rw (le-ltb body_limit (length name) p.0, p.1) refl

both_accepted : (from to : List ℕ) → IsFunctionName from → IsFunctionName to → (b : Bool) → is_same_name from to ≡ b → AllByRecursion IsAccepted (obeying (Some from) (Some to))
both_accepted from to f t true e = rw e (refl, tt)
both_accepted from to f t false e = rw e (cant_accepted from f, (can_accepted to t, (refl, tt)))

-- all that an order asks for
pub order_accepted : (from to : Option (List ℕ)) → IfSome from IsFunctionName → IfSome to IsFunctionName → AllByRecursion IsAccepted (obeying from to)
order_accepted None None f t = tt
order_accepted None (Some to) f t = (can_accepted to t, (refl, tt))
order_accepted (Some from) None f t = (cant_accepted from f, tt)
order_accepted (Some from) (Some to) f t = both_accepted from to f t (is_same_name from to) refl

at_named : (functions : List (List ℕ)) (f : ℕ) → All IsFunctionName functions → IfSome (slice_get functions f) IsFunctionName
at_named [] f h = tt
at_named (name ∷ functions) zero h = h 0 [] (omega arith)
at_named (name ∷ functions) (suc f) h = at_named functions f (λ k d within. h (suc k) d (omega (arith, within)))

-- the settings' functions have names
pub known_named : (functions : List (List ℕ)) (f : Option ℕ) → All IsFunctionName functions → IfSome (name_of functions f) IsFunctionName
known_named functions None h = tt
known_named functions (Some f) h = at_named functions f h

-- the text that names a worker
pub worker_accepted : (settings : Settings) (worker : WorkerName) → AreSettings settings → worker.slot < slots settings → machine_of settings worker.slot < length settings.machines → worker.generation < 2 ^ 32 → IsAccepted (set_client_id (worker_text settings worker.slot worker.generation))
worker_accepted settings worker valid slot there small =
    let name = name_at settings.machines (machine_of settings worker.slot) in
    let number = decimal (worker_number settings worker.slot) in
    let generation = decimal worker.generation in
    let named = valid.machines_named (machine_of settings worker.slot) [] there in
    let p = and_parts (nat_le 1 (length name) && nat_le (length name) 64) (list_all is_machine_name_byte name) named in
    let short = leb-true (length name) 64 (and_parts (nat_le 1 (length name)) (nat_le (length name) 64) p.0).1 in
    let few : worker_number settings worker.slot < 10 ^ 10 = omega (arith, slot, valid.workers_few) in
    let a = length-decimal-le 10 (worker_number settings worker.slot) (omega arith) few (omega (arith, few)) in
    let b = length-decimal-le 10 worker.generation (omega arith) (omega (arith, small)) (omega (arith, small)) in
    id_accepted (worker_text settings worker.slot worker.generation)
    (omega (arith, short, a, b, length-append name (47 ∷ number), length-append (name ++ 47 ∷ number) (35 ∷ generation)))
    (nul_append (name ++ 47 ∷ number) (35 ∷ generation) (nul_append name (47 ∷ number) (machine_bytes name p.1) (decimal_named (worker_number settings worker.slot) (omega (arith, few)))) (decimal_named worker.generation (omega (arith, small))))
