-- the tables of a round after workers were moved
use Rattle.std.proofs.Common.{◌≡◌, ℕ, List, length, ap, sym, subst, ◌∙◌}
use Rattle.std.specs.List.{range_with_len}
use Rattle.std.specs.List.Sorted.{IsStrictlyIncreasing, IsPermutation}
use Rattle.round_arena.specs.declared.tables.Pairs.{Pairs}
use Rattle.round_arena.specs.declared.tables.Tables.{Tables}
use Rattle.round_arena.specs.Plan.{IsGraph, IsAssigned, IsCounted, AreWithin}
use Rattle.round_arena.specs.Round.{IsConsistent, SamePairs}

-- what stays over two calls
pub SamePairs-trans : (t u v : Tables) → SamePairs t u → SamePairs u v → SamePairs t v
SamePairs-trans t u v a b = record { pairs = b.pairs ∙ a.pairs; most = b.most ∙ a.most; machine = b.machine ∙ a.machine; slot = b.slot ∙ a.slot; order = b.order ∙ a.order; staff = b.staff ∙ a.staff }

-- the tables with other owners and counts
pub IsConsistent-moved : {functions : ℕ} {u : Tables} (t : Tables) (owner count : List ℕ) → IsConsistent functions t → length owner ≡ length t.owner.now → IsAssigned functions t.pairs owner → IsCounted functions owner count
    → AreWithin functions t.most.now owner → SamePairs t u → u.owner.now ≡ owner → u.count.now ≡ count → IsConsistent functions u
IsConsistent-moved {functions = functions} {u = u} t owner count s same_size a c within same eo ec =
    let size : length u.owner.now ≡ length t.owner.now = ap length eo ∙ same_size in
    let graph : IsGraph functions (length u.owner.now) u.pairs =
    subst (λ (p : Pairs). IsGraph functions (length u.owner.now) p) (sym same.pairs)
    (subst (λ (n : ℕ). IsGraph functions n t.pairs) (sym size) s.graph) in
    let assigned : IsAssigned functions u.pairs u.owner.now =
    subst (λ (p : Pairs). IsAssigned functions p u.owner.now) (sym same.pairs)
    (subst (λ (o : List ℕ). IsAssigned functions t.pairs o) (sym eo) a) in
    let counted : IsCounted functions u.owner.now u.count.now =
    subst (λ (o : List ℕ). IsCounted functions o u.count.now) (sym eo) (subst (λ (n : List ℕ). IsCounted functions owner n) (sym ec) c) in
    let most : u.most.now ≡ t.most.now = ap (λ m. m.now) same.most in
    record {
      few = s.few;
      graph = graph;
      assigned = assigned;
      counted = counted;
      limits = ap length most ∙ s.limits;
      within = subst (λ (o : List ℕ). AreWithin functions u.most.now o) (sym eo) (subst (λ (m : List ℕ). AreWithin functions m owner) (sym most) within);
      staff = ap (λ m. length m.now) same.machine ∙ s.staff ∙ sym size;
      slots = ap (λ m. length m.now) same.slot ∙ s.slots ∙ sym size;
      rising = subst (λ (z : List ℕ). IsStrictlyIncreasing z) (sym (ap (λ m. m.now) same.slot)) s.rising;
      order = subst (λ (z : List ℕ). IsPermutation (range_with_len 0 functions) z) (sym (ap (λ m. m.now) same.order)) s.order;
    }
