use Rattle.std.proofs.Common.{◌≤◌, ◌++◌, Ok, arith, false, length, subst, take, true}
use Rattle.std.proofs.lemmas.List.{length-take-le}
use Rattle.std.proofs.lemmas.Result.{err_from_is_err_and}
use Rattle.byte_io.specs.Pieces.{Came, IsPiece, brought}
use Rattle.byte_io.specs.Sides.{Meets, Met}
use Rattle.gear_status.specs.Stream.{LeadsTo}
use Rattle.gear_status.proofs.Reading.{ended, given_up, goes_on, longer, read_whole, refused}
use Rattle.gear_status.proofs.status.read_status.Goals as goal

pub returns-in_err-count : goal.returns-in_err-count
returns-in_err-count g c =
    let first = g.S.Device.input c.args.source.now in
    let later = g.S.Device.input c.loop-text.source in
    let now = g.S.Device.input c.read.new.source in
    let before = c.loop-text.patience in
    let after = c.read.new.self in
    let text = c.loop-text.text in
    let bytes = c.loop-text.invariant.0 in
    let so_far = c.loop-text.invariant.1 in
    let read = c.in_err-count.ensures.piece in
    let end = given_up first later now before after text bytes read.0 so_far read.1 read.2 in
    let p = err_from_is_err_and c.from_residual.result c.from_residual.ensures.1 in
    record { answers = (end.0, end.1, rw (p.1, p.2) end.2) }

pub returns-in_err-feed : goal.returns-in_err-feed
returns-in_err-feed g c =
    let first = g.S.Device.input c.args.source.now in
    let later = g.S.Device.input c.loop-text.source in
    let now = g.S.Device.input c.read.new.source in
    let before = c.loop-text.patience in
    let after = c.read.new.self in
    let text = c.loop-text.text in
    let bytes = c.loop-text.invariant.0 in
    let so_far = c.loop-text.invariant.1 in
    let count = c.in-Some.count in
    let piece = take count c.read.new.buffer in
    let read =
    subst (λ t. (met : Met) × Meets later met now × IsPiece before met c.read.new.buffer (Ok t) after) c.in-Some.is c.in_ok-count.ensures.piece in
    let fits : (1 ≤ count) × (count ≤ length c.read.new.buffer) × Came before read.0 piece false after = read.2 in
    let came : Came before read.0 piece false after = fits.2 in
    let short : length piece ≤ 4096 = omega (arith, length-take-le count c.read.new.buffer fits.1, fits.1, c.read.auto.buffer) in
    let met = longer first later now before after text bytes read.0 so_far read.1 piece came in
    let answer = refused first later now before after text bytes read.0 so_far read.1 piece came short c.in_err-feed.field-0.0 c.in_err-feed.ensures.verdict c.in_err-feed.ensures.err in
    let p = err_from_is_err_and c.from_residual-in_err-feed.result c.from_residual-in_err-feed.ensures.1 in
    record { answers = (brought (bytes ++ piece) after false, met, rw (p.1, p.2) answer) }

pub returns-then-branch : goal.returns-then-branch
returns-then-branch g c =
    let first = g.S.Device.input c.args.source.now in
    let later = g.S.Device.input c.loop-text.source in
    let now = g.S.Device.input c.read.new.source in
    let before = c.loop-text.patience in
    let after = c.read.new.self in
    let text = c.loop-text.text in
    let bytes = c.loop-text.invariant.0 in
    let so_far = c.loop-text.invariant.1 in
    let count = c.in-Some.count in
    let piece = take count c.read.new.buffer in
    let read =
    subst (λ t. (met : Met) × Meets later met now × IsPiece before met c.read.new.buffer (Ok t) after) c.in-Some.is c.in_ok-count.ensures.piece in
    let fits : (1 ≤ count) × (count ≤ length c.read.new.buffer) × Came before read.0 piece false after = read.2 in
    let came : Came before read.0 piece false after = fits.2 in
    let short : length piece ≤ 4096 = omega (arith, length-take-le count c.read.new.buffer fits.1, fits.1, c.read.auto.buffer) in
    let met = longer first later now before after text bytes read.0 so_far read.1 piece came in
    let done = subst (λ b. LeadsTo text piece c.feed.new.self b) c.if-branch.true c.in_ok-feed.ensures.ok in
    let answer = read_whole first later now before after text bytes read.0 so_far read.1 piece came short c.feed.new.self.load done in
    record { answers = (brought (bytes ++ piece) after false, met, rw c.into_load.ensures answer) }

pub loop-text-preserved : goal.loop-text-preserved
loop-text-preserved g c =
    let first = g.S.Device.input c.args.source.now in
    let later = g.S.Device.input c.loop-text.source in
    let now = g.S.Device.input c.read.new.source in
    let before = c.loop-text.patience in
    let after = c.read.new.self in
    let text = c.loop-text.text in
    let bytes = c.loop-text.invariant.0 in
    let so_far = c.loop-text.invariant.1 in
    let count = c.in-Some.count in
    let piece = take count c.read.new.buffer in
    let read =
    subst (λ t. (met : Met) × Meets later met now × IsPiece before met c.read.new.buffer (Ok t) after) c.in-Some.is c.in_ok-count.ensures.piece in
    let fits : (1 ≤ count) × (count ≤ length c.read.new.buffer) × Came before read.0 piece false after = read.2 in
    let came : Came before read.0 piece false after = fits.2 in
    let on = subst (λ b. LeadsTo text piece c.feed.new.self b) c.if-branch.false c.in_ok-feed.ensures.ok in (
      bytes ++ piece,
      goes_on first later now before after text bytes read.0 so_far read.1 piece came c.feed.new.self c.in_ok-feed.ensures.part on,
    )

pub returns : goal.returns
returns g c =
    let first = g.S.Device.input c.args.source.now in
    let later = g.S.Device.input c.loop-text.source in
    let now = g.S.Device.input c.read.new.source in
    let before = c.loop-text.patience in
    let after = c.read.new.self in
    let text = c.loop-text.text in
    let bytes = c.loop-text.invariant.0 in
    let so_far = c.loop-text.invariant.1 in
    let read =
    subst (λ t. (met : Met) × Meets later met now × IsPiece before met c.read.new.buffer (Ok t) after) c.in_default.is c.in_ok-count.ensures.piece in
    let end = ended first later now before after text bytes read.0 so_far read.1 read.2 in
    record { answers = (brought bytes after true, end.0, end.1) }
