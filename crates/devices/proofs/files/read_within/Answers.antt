use Rattle.std.proofs.Common.{◌≡◌, arith, subst, ◌++◌, IfSome, take}
use Rattle.std.specs.Prelude.{option_map}
use Rattle.devices.specs.Whole.{limit}
use Rattle.devices.proofs.Telling.{all_within}
use Rattle.devices.proofs.files.read_within.Goals as goal

pub returns-in-Ok-2-clause-whole : goal.returns-in-Ok-2-clause-whole
returns-in-Ok-2-clause-whole g c =
    let cut = c.take.result.limit in
    let got = c.read_to_end.new.buf.items in
    let prefix = subst (λ held. IfSome (option_map (take cut) (g.R.Read.remaining c.take.result.inner)) (λ xs. got ≡ held ++ xs))
    c.new-bytes.ensures.items c.in-Ok-2.ensures.bytes in
    all_within (g.R.Read.remaining c.args.reader) limit cut got (omega arith) (omega arith)
    (subst (λ reader. IfSome (option_map (take cut) (g.R.Read.remaining reader)) (λ xs. got ≡ xs)) c.take.ensures.inner prefix)
