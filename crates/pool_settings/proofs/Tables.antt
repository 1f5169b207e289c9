-- A table beside its entries.
use Rattle.std.proofs.Common.{◌≡◌, suc, List, [], ◌∷◌, map, length, refl, ap, String, Global}
use Rattle.std.specs.Prelude.{string_bytes}
use Rattle.std.specs.String.{string_cmp}
use Rattle.std.specs.List.{AllByRecursion}
use Rattle.std.specs.List.Sorted.{IsStrictlySortedBy}
use Rattle.std.specs.Cmp.Lexicographic.{slice_cmp}
use Rattle.std.specs.Ordering.{nat_cmp}
use Rattle.std.specs.declared.cmp.Ordering.TheVariants.{Less}
use Rattle.toml.specs.declared.value.Value.{Value}
use Rattle.pool_settings.specs.Entries.{entries_view}
use Rattle.pool_settings.specs.Names.{IsInByteOrder}
use Rattle.pool_settings.specs.Reading.{names_of}

abbrev pub Held : Type 0
Held = String Global × Value

pub length_entries : (es : List Held) → length (entries_view es) ≡ length es
length_entries [] = refl
length_entries (e ∷ es) = ap suc (length_entries es)

abbrev keys_of : List Held → List (String Global)
keys_of es = map (λ e. e.0) es

above : (k : String Global) (es : List Held) → AllByRecursion (λ y. string_cmp k y ≡ Less) (keys_of es) → AllByRecursion (λ y. slice_cmp nat_cmp (string_bytes k) y ≡ Less) (names_of (entries_view es))
above k [] h = tt
above k (e ∷ es) h = (h.0, above k es h.1)

-- keys in the order of texts are names in byte order
pub names_in_order : (es : List Held) → IsStrictlySortedBy string_cmp (keys_of es) → IsInByteOrder (names_of (entries_view es))
unfolding IsStrictlySortedBy
names_in_order [] h = tt
names_in_order (e ∷ es) h = (above e.0 es h.0, names_in_order es h.1)
