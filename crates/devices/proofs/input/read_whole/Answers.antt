use Rattle.std.proofs.Common.{◌≤◌, ◌++◌, [], Ok, arith, false, length, length-append, refl, subst, sym, take, true}
use Rattle.std.proofs.lemmas.List.{length-take-le}
use Rattle.std.proofs.lemmas.Result.{err_from_is_err_and}
use Rattle.byte_io.specs.Pieces.{Came, IsPiece, brought}
use Rattle.byte_io.specs.Sides.{Meets, Met}
use Rattle.byte_io.proofs.Pieces.{end_came, gave_up, piece_came}
use Rattle.devices.proofs.input.read_whole.Goals as goal

pub returns-in_err-count : goal.returns-in_err-count
returns-in_err-count g c =
    let so_far = c.loop-bytes.invariant in
    let held = c.loop-bytes.bytes.items in
    let first = g.R.Device.input c.args.source.now in
    let after = g.R.Device.input c.loop-bytes.source in
    let now = g.R.Device.input c.read.new.source in
    let read = c.in_err-count.ensures.piece in
    let end = gave_up first after now held c.loop-bytes.patience after.has_ended read.0 so_far.met read.1 read.2 in
    let p = err_from_is_err_and c.from_residual.result c.from_residual.ensures.1 in
    let few : length (end.0).bytes ≤ 16777216 = subst (λ b. length b ≤ 16777216) (sym end.2) so_far.few in
    record { whole = (end.0, end.1, rw (p.1, p.2) (few, end.3)) }

pub returns-then-len-count-gt-LIMIT : goal.returns-then-len-count-gt-LIMIT
returns-then-len-count-gt-LIMIT g c =
    let so_far = c.loop-bytes.invariant in
    let held = c.loop-bytes.bytes.items in
    let first = g.R.Device.input c.args.source.now in
    let after = g.R.Device.input c.loop-bytes.source in
    let now = g.R.Device.input c.read.new.source in
    let count = c.in-Some.count in
    let piece = take count c.read.new.buffer in
    let read =
    subst (λ t. (met : Met) × Meets after met now × IsPiece c.loop-bytes.patience met c.read.new.buffer (Ok t) c.read.new.self) c.in-Some.is
    c.in_ok-count.ensures.piece in
    let fits : (1 ≤ count) × (count ≤ length c.read.new.buffer) × Came c.loop-bytes.patience read.0 piece false c.read.new.self = read.2 in
    let came : Came c.loop-bytes.patience read.0 piece false c.read.new.self = fits.2 in
    let met : Meets first (brought (held ++ piece) c.read.new.self false) now =
    piece_came first after now held piece c.loop-bytes.patience c.read.new.self after.has_ended false read.0 so_far.met read.1 came in
    let long = length-take-le count c.read.new.buffer fits.1 in
    record {
      whole = (
        brought (held ++ piece) c.read.new.self false,
        met,
        (
          omega (arith, c.if-len-count-gt-LIMIT.true, c.len.ensures, c.loop-bytes.bytes.ok.0, length-append held piece, long),
          omega (arith, so_far.few, length-append held piece, long, fits.1, c.read.auto.buffer),
          (refl, came.4),
        ),
      );
    }

pub returns-in_err-extend_from_slice : goal.returns-in_err-extend_from_slice
returns-in_err-extend_from_slice g c =
    let so_far = c.loop-bytes.invariant in
    let held = c.loop-bytes.bytes.items in
    let first = g.R.Device.input c.args.source.now in
    let after = g.R.Device.input c.loop-bytes.source in
    let now = g.R.Device.input c.read.new.source in
    let count = c.in-Some.count in
    let piece = take count c.read.new.buffer in
    let read =
    subst (λ t. (met : Met) × Meets after met now × IsPiece c.loop-bytes.patience met c.read.new.buffer (Ok t) c.read.new.self) c.in-Some.is
    c.in_ok-count.ensures.piece in
    let fits : (1 ≤ count) × (count ≤ length c.read.new.buffer) × Came c.loop-bytes.patience read.0 piece false c.read.new.self = read.2 in
    let came : Came c.loop-bytes.patience read.0 piece false c.read.new.self = fits.2 in
    let met : Meets first (brought (held ++ piece) c.read.new.self false) now =
    piece_came first after now held piece c.loop-bytes.patience c.read.new.self after.has_ended false read.0 so_far.met read.1 came in
    let p = err_from_is_err_and c.from_residual-in_err-extend_from_slice.result c.from_residual-in_err-extend_from_slice.ensures.1 in
    record { whole = (brought (held ++ piece) c.read.new.self false, met, rw (p.1, p.2) (refl, came.4)) }

pub returns : goal.returns
returns g c =
    let so_far = c.loop-bytes.invariant in
    let held = c.loop-bytes.bytes.items in
    let first = g.R.Device.input c.args.source.now in
    let after = g.R.Device.input c.loop-bytes.source in
    let now = g.R.Device.input c.read.new.source in
    let read =
    subst (λ t. (met : Met) × Meets after met now × IsPiece c.loop-bytes.patience met c.read.new.buffer (Ok t) c.read.new.self) c.in_default.is
    c.in_ok-count.ensures.piece in
    let met = end_came first after now held c.loop-bytes.patience c.read.new.self after.has_ended read.0 so_far.met read.1 read.2 in
    let came : Came c.loop-bytes.patience read.0 [] true c.read.new.self = read.2 in
    record { whole = (brought held c.read.new.self true, met, (refl, (so_far.few, refl, (refl, came.4)))) }
