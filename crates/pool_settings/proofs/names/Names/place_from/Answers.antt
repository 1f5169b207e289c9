use Rattle.std.proofs.Common.{◌≡◌, ◌<◌, length, sym, ◌∙◌, arith}
use Rattle.std.proofs.lemmas.Slice.Eq.{bytes_eq-Decides}
use Rattle.pool_settings.specs.Names.{name_at}
use Rattle.pool_settings.proofs.Searches.{place_is}
use Rattle.pool_settings.proofs.names.Names.place_from.Goals as goal

pub returns-then-eq : goal.returns-then-eq
returns-then-eq c =
    let names = c.args.self.now in
    let below : c.args.guess < length names = omega (arith, c.if-guess-len.true, c.len.ensures.all) in
    let equal : c.as_bytes.result.now ≡ c.args.name.now = (bytes_eq-Decides c.as_bytes.result.now c.args.name.now).0 (sym c.if-eq.ensures) in
    let same : name_at names c.args.guess ≡ c.args.name.now = sym c.at.ensures ∙ sym c.as_bytes.ensures.value ∙ equal in
    sym (place_is names c.args.name.now c.args.guess c.len.ensures.ordered below same)
