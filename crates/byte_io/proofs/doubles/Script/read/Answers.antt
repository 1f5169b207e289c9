use Rattle.std.proofs.Common.{◌≡◌, ◌<◌, ◌-◌, ◌∙◌, arith, drop, length, length-drop, subst, sym, take}
use Rattle.byte_io.proofs.Devices.{rest_taken}
use Rattle.byte_io.proofs.Scripts.{due_is, part_read, pieces_count, whole_read}
use Rattle.byte_io.specs.Played.{play_view}
use Rattle.byte_io.specs.Script.{next_piece}
use Rattle.byte_io.proofs.doubles.Script.read.Goals as goal

pub returns-then-count-left : goal.returns-then-count-left
returns-then-count-left c =
    let old = play_view c.self.inside in
    let piece = c.as_slice-piece.result.now in
    let at = c.self.inside.at in
    let within : c.self.inside.next < length c.self.inside.pieces.items = omega (arith, c.if-self-len.false, c.len.ensures, c.self.invariant.followed, pieces_count c.self.inside.pieces.items) in
    let is : next_piece old ≡ piece = due_is c.self.inside.pieces.items c.self.inside.next c.index.result.now within c.index.ensures ∙ sym c.as_slice-piece.ensures.value in
    let some : 0 < length piece = grind (arith, c.is_empty.ensures) in
    let begun = subst (λ p. 0 < at → at < length p) is c.self.invariant.begun in
    let left : 0 < length (take (length piece - at) (drop at piece)) = grind (arith, rest_taken at piece, length-drop, begun, some) in
    rw (← c.self.view_is, c.counted-fails.ensures.less) (record {
      reads =
          part_read old piece (take (length piece - at) (drop at piece)) c.copy_prefix-count.new.into c.copy_prefix-count.result is (rest_taken at piece) (sym c.counted-fails.ensures.fails ∙ c.if-fails.false)
          (omega (arith, c.copy_prefix-count.ensures.count, c.copy_prefix-count.ensures.len)) c.copy_prefix-count.ensures.bytes left (omega (arith, c.requires.room, c.copy_prefix-count.ensures.len)) c.if-count-left.true;
    })

pub returns : goal.returns
returns c =
    let old = play_view c.self.inside in
    let piece = c.as_slice-piece.result.now in
    let at = c.self.inside.at in
    let within : c.self.inside.next < length c.self.inside.pieces.items = omega (arith, c.if-self-len.false, c.len.ensures, c.self.invariant.followed, pieces_count c.self.inside.pieces.items) in
    let is : next_piece old ≡ piece = due_is c.self.inside.pieces.items c.self.inside.next c.index.result.now within c.index.ensures ∙ sym c.as_slice-piece.ensures.value in
    let some : 0 < length piece = grind (arith, c.is_empty.ensures) in
    let begun = subst (λ p. 0 < at → at < length p) is c.self.invariant.begun in
    let left : 0 < length (take (length piece - at) (drop at piece)) = grind (arith, rest_taken at piece, length-drop, begun, some) in
    rw (← c.self.view_is, c.counted-fails.ensures.less) (record {
      reads =
          whole_read old piece (take (length piece - at) (drop at piece)) c.copy_prefix-count.new.into c.copy_prefix-count.result is (rest_taken at piece) (sym c.counted-fails.ensures.fails ∙ c.if-fails.false)
          (omega (arith, c.copy_prefix-count.ensures.count, c.copy_prefix-count.ensures.len)) c.copy_prefix-count.ensures.bytes left (omega (arith, c.requires.room, c.copy_prefix-count.ensures.len)) c.if-count-left.false;
    })
