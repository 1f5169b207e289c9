use Rattle.std.proofs.Common.{rules, List, Ok, Err, String, Global, ap, map, sym, subst, ◌∙◌}
use Rattle.std.specs.Prelude.{string_bytes}
use Rattle.std.specs.Cmp.Lexicographic.{slice_cmp}
use Rattle.std.specs.Ordering.{nat_cmp}
use Rattle.std.proofs.lemmas.Fn.{always_returns_same}
use Rattle.pool_settings.specs.Names.{IsInByteOrder, place_of}
use Rattle.pool_settings.proofs.Searches.{place_searched}
use Rattle.pool_settings.proofs.names.Names.place_of.Goals as goal

pub returns-in-Ok-clause-place : goal.returns-in-Ok-clause-place
returns-in-Ok-clause-place c =
    let by_name = c.in-Ok.ensures.position (λ s. slice_cmp nat_cmp (string_bytes s) c.args.name.now) (always_returns_same _ _ _ (λ a r g called. search rules)) in
    let rises = subst (λ (held : List (String Global)). IsInByteOrder (map (λ s. string_bytes s) held)) (sym c.deref.ensures.value) c.self.invariant in
    let found = place_searched c.deref.result.now rises c.args.name.now (Ok c.in-Ok.place) c.in-Ok.ensures.bound by_name in
    found ∙ ap (λ (held : List (String Global)). place_of (map (λ s. string_bytes s) held) c.args.name.now) c.deref.ensures.value ∙ ap (λ names. place_of names c.args.name.now) c.self.view_is

pub returns-in-Err-clause-place : goal.returns-in-Err-clause-place
returns-in-Err-clause-place c =
    let by_name = c.in-Err.ensures.position (λ s. slice_cmp nat_cmp (string_bytes s) c.args.name.now) (always_returns_same _ _ _ (λ a r g called. search rules)) in
    let rises = subst (λ (held : List (String Global)). IsInByteOrder (map (λ s. string_bytes s) held)) (sym c.deref.ensures.value) c.self.invariant in
    let found = place_searched c.deref.result.now rises c.args.name.now (Err c.in-Err.field-0) c.in-Err.ensures.bound by_name in
    found ∙ ap (λ (held : List (String Global)). place_of (map (λ s. string_bytes s) held) c.args.name.now) c.deref.ensures.value ∙ ap (λ names. place_of names c.args.name.now) c.self.view_is
