use Rattle.std.proofs.Common.{◌≡◌, List, ℕ, Ok, Err, map, refl, subst, sym, string_bytes}
use Rattle.plan_commands.proofs.Posing.{meets_nothing, nothing_from}
use Rattle.program.specs.Program.{Obeys, Program, Streams, words_in}
use Rattle.program.proofs.whole.program.Goals as goal

pub returns-in-Ok : goal.returns-in-Ok
returns-in-Ok g c =
    let told = c.obey.ensures.obeys in
    let file = g.F.Folder.file c.args.lent.files.now in
    let old : Streams = record { output = g.W.Device.output c.args.output.now; errors = g.E.Device.output c.args.errors.now } in
    let new : Streams = record { output = g.W.Device.output c.obey.new.output; errors = g.E.Device.output c.obey.new.errors } in record {
      program = (
        told.0,
        told.1,
        subst (λ words. Program c.args.lent.reader file (words_in words) told.0 old new c.obey.result) (sym c.in-Ok.is)
            (subst (λ words. Obeys c.args.lent.reader file (map (λ w. string_bytes w) words) told.0 old new c.obey.result) c.deref.ensures.value told.2),
      );
    }

pub returns-in-Err : goal.returns-in-Err
returns-in-Err g c =
    let side = g.R.Device.input c.args.input.now in
    let file = g.F.Folder.file c.args.lent.files.now in
    let old : Streams = record { output = g.W.Device.output c.args.output.now; errors = g.E.Device.output c.args.errors.now } in
    let new : Streams = record { output = g.W.Device.output c.args.output.now; errors = g.E.Device.output c.no_words.new.errors } in record {
      program = (
        nothing_from side,
        meets_nothing side,
        subst (λ words. Program c.args.lent.reader file (words_in words) (nothing_from side) old new c.no_words.result) (sym c.in-Err.is)
            ((refl, refl, refl), refl, rw c.kind.ensures at c.no_words.ensures),
      );
    }
