-- Each machine of the settings has a URL.
use Rattle.std.proofs.Common.{◌≡◌, suc, List, [], ◌∷◌, not, Option, Some, None, is_some, length, refl, sym, ap}
use Rattle.std.specs.Prelude.{option_map}
use Rattle.std.specs.List.{filter_map, find}
use Rattle.toml.specs.Data.{Members}
use Rattle.pool_settings.specs.Settings.{Settings}
use Rattle.pool_settings.specs.declared.place.Section.TheVariants as section
use Rattle.service_settings.specs.Reading.{at_entry, has_no_url, no_url, services_of, url_for}

-- where none of the elements gives nothing, each gives a value
all_given : {X Y : Type 0} (h : X → Option Y) (xs : List X) → find (λ x. not (is_some (h x))) xs ≡ None → length (filter_map h xs) ≡ length xs
all_given h [] none = refl
all_given {X = X} {Y = Y} h (x ∷ xs) none = by (h x) refl (all_given h xs)
  where
    by : (o : Option Y) → h x ≡ o → (find (λ x. not (is_some (h x))) xs ≡ None → length (filter_map h xs) ≡ length xs)
        → length (filter_map h (x ∷ xs)) ≡ length (x ∷ xs)
    by (Some y) is rest = rw is (ap suc (rest (rw is at none)))
    by None is rest = let found : None ≡ Some x = sym (rw is at none) in absurd (cc)

none_found : {X Y : Type 0} (f : X → Y) (o : Option X) → option_map f o ≡ None → o ≡ None
none_found f None none = refl
none_found f (Some x) none = absurd (cc)

pub all_have_urls : (settings : Settings) (tree : Members) → no_url settings tree ≡ None → length (services_of settings tree).urls ≡ length settings.machines
all_have_urls settings tree none =
    all_given (url_for tree) settings.machines (none_found (at_entry section.Machines) (find (has_no_url tree) settings.machines) none)
