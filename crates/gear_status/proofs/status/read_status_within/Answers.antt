use Rattle.std.proofs.Common.{◌≡◌, ◌≤◌, ◌++◌, IfSome, Ok, arith, false, length, length-append, max, subst, take, true}
use Rattle.std.proofs.Math.Seq.{take-append_seam}
use Rattle.std.proofs.lemmas.List.{length-take-le}
use Rattle.std.proofs.lemmas.Result.{err_from_is_err_and}
use Rattle.byte_io.specs.Pieces.{Came, IsPiece, brought}
use Rattle.byte_io.specs.Sides.{Meets, Met}
use Rattle.gear_status.specs.Stream.{LeadsTo}
use Rattle.gear_status.proofs.Reading.{calm, ended, given_up, goes_on, longer, read_whole, refused}
use Rattle.gear_status.proofs.Stream.{undecided}
use Rattle.gear_status.proofs.status.read_status_within.Goals as goal

pub returns-in_err-count : goal.returns-in_err-count
returns-in_err-count g c =
    let first = g.S.Device.input c.args.source.now in
    let later = g.S.Device.input c.loop-text.source in
    let now = g.S.Device.input c.read_up_to.new.source in
    let before = c.loop-text.patience in
    let after = c.read_up_to.new.patience in
    let text = c.loop-text.text in
    let bytes = c.loop-text.invariant.0 in
    let so_far = c.loop-text.invariant.1 in
    let read = c.in_err-count.ensures.piece in
    let end = given_up first later now before after text bytes read.0 so_far read.1 read.2 in
    let p = err_from_is_err_and c.from_residual.result c.from_residual.ensures.1 in
    let few : length (end.0).bytes ≤ c.args.limit = omega (arith, end.3, c.loop-text.invariant.2) in
    record { answers = (end.0, end.1, rw (p.1, p.2) (end.2, few)) }

pub returns-then-left-eq0 : goal.returns-then-left-eq0
returns-then-left-eq0 g c =
    let first = g.S.Device.input c.args.source.now in
    let later = g.S.Device.input c.loop-text.source in
    let now = g.S.Device.input c.read_up_to.new.source in
    let before = c.loop-text.patience in
    let after = c.read_up_to.new.patience in
    let text = c.loop-text.text in
    let bytes = c.loop-text.invariant.0 in
    let so_far = c.loop-text.invariant.1 in
    let count = c.in-Some.count in
    let piece = take count c.read_up_to.new.buffer in
    let read =
    subst (λ t. (met : Met) × Meets later met now × IsPiece before met c.read_up_to.new.buffer (Ok t) after) c.in-Some.is c.in_ok-count.ensures.piece in
    let fits : (1 ≤ count) × (count ≤ length c.read_up_to.new.buffer) × Came before read.0 piece false after = read.2 in
    let came : Came before read.0 piece false after = fits.2 in
    let short : length piece ≤ 4096 = omega (arith, length-take-le count c.read_up_to.new.buffer fits.1, fits.1, c.read_up_to.auto.buffer) in
    let met = longer first later now before after text bytes read.0 so_far read.1 piece came in
    let most : count ≤ max c.loop-text.left 1 = subst (λ t. IfSome t (λ n. n ≤ max c.loop-text.left 1)) c.in-Some.is c.in_ok-count.ensures.within in
    let all : length bytes ≡ c.args.limit = omega (arith, c.loop-text.invariant.2, c.if-left-eq0.true) in
    let prefix : take c.args.limit (bytes ++ piece) ≡ bytes = subst (λ k. take k (bytes ++ piece) ≡ bytes) all (take-append_seam bytes piece) in
    record {
      answers = (
        brought (bytes ++ piece) after false,
        met,
        (
          omega (arith, length-append bytes piece, length-take-le count c.read_up_to.new.buffer fits.1, fits.0, most, all, c.if-left-eq0.true),
          rw prefix (undecided bytes text so_far.part so_far.ahead),
          omega (arith, so_far.held, all),
          calm first later now before after text bytes read.0 so_far read.1 piece came,
        ),
      );
    }

pub returns-in_err-feed : goal.returns-in_err-feed
returns-in_err-feed g c =
    let first = g.S.Device.input c.args.source.now in
    let later = g.S.Device.input c.loop-text.source in
    let now = g.S.Device.input c.read_up_to.new.source in
    let before = c.loop-text.patience in
    let after = c.read_up_to.new.patience in
    let text = c.loop-text.text in
    let bytes = c.loop-text.invariant.0 in
    let so_far = c.loop-text.invariant.1 in
    let count = c.in-Some.count in
    let piece = take count c.read_up_to.new.buffer in
    let read =
    subst (λ t. (met : Met) × Meets later met now × IsPiece before met c.read_up_to.new.buffer (Ok t) after) c.in-Some.is c.in_ok-count.ensures.piece in
    let fits : (1 ≤ count) × (count ≤ length c.read_up_to.new.buffer) × Came before read.0 piece false after = read.2 in
    let came : Came before read.0 piece false after = fits.2 in
    let short : length piece ≤ 4096 = omega (arith, length-take-le count c.read_up_to.new.buffer fits.1, fits.1, c.read_up_to.auto.buffer) in
    let met = longer first later now before after text bytes read.0 so_far read.1 piece came in
    let most : count ≤ max c.loop-text.left 1 = subst (λ t. IfSome t (λ n. n ≤ max c.loop-text.left 1)) c.in-Some.is c.in_ok-count.ensures.within in
    let within : length (bytes ++ piece) ≤ c.args.limit =
    omega (arith, length-append bytes piece, length-take-le count c.read_up_to.new.buffer fits.1, most, c.loop-text.invariant.2, c.if-left-eq0.false) in
    let answer = refused first later now before after text bytes read.0 so_far read.1 piece came short c.in_err-feed.field-0.0 c.in_err-feed.ensures.verdict c.in_err-feed.ensures.err in
    let p = err_from_is_err_and c.from_residual-in_err-feed.result c.from_residual-in_err-feed.ensures.1 in
    record { answers = (brought (bytes ++ piece) after false, met, rw (p.1, p.2) (answer, within)) }

pub returns-then-branch : goal.returns-then-branch
returns-then-branch g c =
    let first = g.S.Device.input c.args.source.now in
    let later = g.S.Device.input c.loop-text.source in
    let now = g.S.Device.input c.read_up_to.new.source in
    let before = c.loop-text.patience in
    let after = c.read_up_to.new.patience in
    let text = c.loop-text.text in
    let bytes = c.loop-text.invariant.0 in
    let so_far = c.loop-text.invariant.1 in
    let count = c.in-Some.count in
    let piece = take count c.read_up_to.new.buffer in
    let read =
    subst (λ t. (met : Met) × Meets later met now × IsPiece before met c.read_up_to.new.buffer (Ok t) after) c.in-Some.is c.in_ok-count.ensures.piece in
    let fits : (1 ≤ count) × (count ≤ length c.read_up_to.new.buffer) × Came before read.0 piece false after = read.2 in
    let came : Came before read.0 piece false after = fits.2 in
    let short : length piece ≤ 4096 = omega (arith, length-take-le count c.read_up_to.new.buffer fits.1, fits.1, c.read_up_to.auto.buffer) in
    let met = longer first later now before after text bytes read.0 so_far read.1 piece came in
    let most : count ≤ max c.loop-text.left 1 = subst (λ t. IfSome t (λ n. n ≤ max c.loop-text.left 1)) c.in-Some.is c.in_ok-count.ensures.within in
    let within : length (bytes ++ piece) ≤ c.args.limit =
    omega (arith, length-append bytes piece, length-take-le count c.read_up_to.new.buffer fits.1, most, c.loop-text.invariant.2, c.if-left-eq0.false) in
    let done = subst (λ b. LeadsTo text piece c.feed.new.self b) c.if-branch.true c.in_ok-feed.ensures.ok in
    let answer = read_whole first later now before after text bytes read.0 so_far read.1 piece came short c.feed.new.self.load done in
    record { answers = (brought (bytes ++ piece) after false, met, rw c.into_load.ensures (answer, within)) }

pub loop-text-preserved : goal.loop-text-preserved
loop-text-preserved g c =
    let first = g.S.Device.input c.args.source.now in
    let later = g.S.Device.input c.loop-text.source in
    let now = g.S.Device.input c.read_up_to.new.source in
    let before = c.loop-text.patience in
    let after = c.read_up_to.new.patience in
    let text = c.loop-text.text in
    let bytes = c.loop-text.invariant.0 in
    let so_far = c.loop-text.invariant.1 in
    let count = c.in-Some.count in
    let piece = take count c.read_up_to.new.buffer in
    let read =
    subst (λ t. (met : Met) × Meets later met now × IsPiece before met c.read_up_to.new.buffer (Ok t) after) c.in-Some.is c.in_ok-count.ensures.piece in
    let fits : (1 ≤ count) × (count ≤ length c.read_up_to.new.buffer) × Came before read.0 piece false after = read.2 in
    let came : Came before read.0 piece false after = fits.2 in
    let most : count ≤ max c.loop-text.left 1 = subst (λ t. IfSome t (λ n. n ≤ max c.loop-text.left 1)) c.in-Some.is c.in_ok-count.ensures.within in
    let on = subst (λ b. LeadsTo text piece c.feed.new.self b) c.if-branch.false c.in_ok-feed.ensures.ok in (
      bytes ++ piece,
      goes_on first later now before after text bytes read.0 so_far read.1 piece came c.feed.new.self c.in_ok-feed.ensures.part on,
      omega (arith, length-append bytes piece, length-take-le count c.read_up_to.new.buffer fits.1, most, c.loop-text.invariant.2, c.if-left-eq0.false),
    )

pub returns : goal.returns
returns g c =
    let first = g.S.Device.input c.args.source.now in
    let later = g.S.Device.input c.loop-text.source in
    let now = g.S.Device.input c.read_up_to.new.source in
    let before = c.loop-text.patience in
    let after = c.read_up_to.new.patience in
    let text = c.loop-text.text in
    let bytes = c.loop-text.invariant.0 in
    let so_far = c.loop-text.invariant.1 in
    let read =
    subst (λ t. (met : Met) × Meets later met now × IsPiece before met c.read_up_to.new.buffer (Ok t) after) c.in_default.is c.in_ok-count.ensures.piece in
    let end = ended first later now before after text bytes read.0 so_far read.1 read.2 in
    record { answers = (brought bytes after true, end.0, (end.1, omega (arith, c.loop-text.invariant.2))) }
