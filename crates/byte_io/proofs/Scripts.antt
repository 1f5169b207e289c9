-- Devices over memory, over one read.
use Rattle.std.proofs.Common.{◌≡◌, ◌∙◌, ◌+◌, ◌-◌, ◌<◌, ◌≤◌, ℕ, List, [], ◌∷◌, ◌++◌, false, Ok, Err, ap, append_assoc, arith, drop, get_or, inl, inr, length, length-drop, min, refl, slice_index_or, suc, sym, take, zero, add-one}
use Rattle.std.specs.Prelude.{Result, Vec}
use Rattle.std.specs.List.{concat}
use Rattle.std.specs.declared.alloc.Global.{Global}
use Rattle.std.proofs.Math.Seq.{take-add}
use Rattle.std.proofs.lemmas.List.{append-nil, get_or-map, length-map, take_all}
use Rattle.byte_io.specs.Device.{failure_of, is_end, lull_of, taken}
use Rattle.byte_io.specs.Memory.{Read, ReadsText}
use Rattle.byte_io.specs.Played.{pieces_view}
use Rattle.byte_io.specs.Script.{GoesOn, Play, Reads, next_piece, fails, given, read_once}
use Rattle.byte_io.specs.declared.device.DeviceFault.{DeviceFault}
use Rattle.byte_io.specs.declared.device.Took.{Took}
use Rattle.byte_io.specs.declared.device.Took.TheVariants as took

-- what was read of a text is told after what was read before
pub text_bytes : (old : Read) (buffer : List ℕ) (r : Result Took DeviceFault) (new : Read) → ReadsText old buffer r new
    → take new.at new.text ≡ take old.at old.text ++ taken buffer r
text_bytes old buffer (Ok (took.Bytes n)) new h =
    ap (λ (r : Read). take r.at r.text) h.3 ∙ take-add old.at n old.text ∙ ap (λ (t : List ℕ). take old.at old.text ++ t) (sym h.2)
text_bytes old buffer (Ok took.Ended) new h = ap (λ (r : Read). take r.at r.text) h.1 ∙ sym (append-nil (take old.at old.text))
text_bytes old buffer (Ok took.Lull) new h = absurd h
text_bytes old buffer (Err f) new h = absurd h

-- ---- the script

-- one piece more is done
done_more : (ps : List (List ℕ)) (n : ℕ) → concat (take (suc n) ps) ≡ concat (take n ps) ++ get_or ps n []
done_more [] zero = refl
done_more [] (suc n) = refl
done_more (p ∷ ps) zero = append-nil p
done_more (p ∷ ps) (suc n) = ap (λ (t : List ℕ). p ++ t) (done_more ps n) ∙ sym (append_assoc p (concat (take n ps)) (get_or ps n []))

-- two fronts of a piece are all of it
both_parts : (piece : List ℕ) (at n : ℕ) → length piece ≤ at + n → take at piece ++ take n (drop at piece) ≡ piece
both_parts piece at n long = sym (take-add at n piece) ∙ take_all (at + n) piece long

given_done : (p : Play) (n : ℕ) → length (next_piece p) ≤ p.at + n
    → concat (take (p.next + 1) p.pieces) ++ [] ≡ given p ++ take n (drop p.at (next_piece p))
given_done p n long =
    append-nil (concat (take (p.next + 1) p.pieces))
    ∙ ap (λ (k : ℕ). concat (take k p.pieces)) (add-one p.next)
    ∙ done_more p.pieces p.next
    ∙ ap (λ (t : List ℕ). concat (take p.next p.pieces) ++ t) (sym (both_parts (next_piece p) p.at n long))
    ∙ sym (append_assoc (concat (take p.next p.pieces)) (take p.at (next_piece p)) (take n (drop p.at (next_piece p))))

given_on : (p : Play) (n : ℕ) (new : Play) → GoesOn p n new → given new ≡ given p ++ take n (drop p.at (next_piece p))
given_on p n new (inl on) =
    ap given on.1
    ∙ ap (λ (t : List ℕ). concat (take p.next p.pieces) ++ t) (take-add p.at n (next_piece p))
    ∙ sym (append_assoc (concat (take p.next p.pieces)) (take p.at (next_piece p)) (take n (drop p.at (next_piece p))))
given_on p n new (inr done) = ap given done.1 ∙ given_done p n (omega (arith, done.0))

-- what was read is told after what was read before
pub reads_bytes : (old : Play) (buffer : List ℕ) (r : Result Took DeviceFault) (new : Play) → Reads old buffer r new
    → given new ≡ given old ++ taken buffer r
reads_bytes old buffer (Err f) new h = ap given h.1 ∙ sym (append-nil (given old))
reads_bytes old buffer (Ok took.Ended) new h = ap given h.2 ∙ sym (append-nil (given old))
reads_bytes old buffer (Ok took.Lull) new h = ap given h.3 ∙ given_done old 0 (omega (arith, h.2))
reads_bytes old buffer (Ok (took.Bytes n)) new h = given_on (read_once old) n new h.4 ∙ ap (λ (t : List ℕ). given old ++ t) (sym h.3)

-- what else a script tells of a read
pub record Tells (old : Play) (r : Result Took DeviceFault) (new : Play) : Type 0 where
  pub pauses : new.lulls ≡ old.lulls + lull_of r
  pub failures : new.take_failures ≡ old.take_failures + failure_of r
  pub ends : new.has_ended ≡ is_end r
  pub output : new.output ≡ old.output
  pub unwritten : new.give_failures ≡ old.give_failures

went_on : (old : Play) (n : ℕ) (new : Play) → GoesOn (read_once old) n new → Tells old (Ok (took.Bytes n)) new
went_on old n new (inl on) = rw on.1 (record { pauses = omega arith; failures = omega arith; ends = refl; output = refl; unwritten = refl })
went_on old n new (inr done) = rw done.1 (record { pauses = omega arith; failures = omega arith; ends = refl; output = refl; unwritten = refl })

pub reads_tell : (old : Play) (buffer : List ℕ) (r : Result Took DeviceFault) (new : Play) → Reads old buffer r new → Tells old r new
reads_tell old buffer (Err f) new h = rw h.1 (record { pauses = omega arith; failures = refl; ends = refl; output = refl; unwritten = refl })
reads_tell old buffer (Ok took.Ended) new h = rw h.2 (record { pauses = omega arith; failures = omega arith; ends = refl; output = refl; unwritten = refl })
reads_tell old buffer (Ok took.Lull) new h = rw h.3 (record { pauses = refl; failures = omega arith; ends = refl; output = refl; unwritten = refl })
reads_tell old buffer (Ok (took.Bytes n)) new h = went_on old n new h.4

-- ---- a read of some bytes

pub pieces_count : (ps : List (Vec ℕ Global)) → length (pieces_view ps) ≡ length ps
pieces_count ps = length-map ps (λ (p : Vec ℕ Global). p.items)

-- the piece that is due, of the pieces that the code keeps
pub due_is : (ps : List (Vec ℕ Global)) (i : ℕ) (piece : Vec ℕ Global) → i < length ps → piece ≡ slice_index_or ps i piece
    → get_or (pieces_view ps) i [] ≡ piece.items
due_is ps i piece within is = get_or-map (λ (p : Vec ℕ Global). p.items) ps i piece [] within ∙ ap (λ (p : Vec ℕ Global). p.items) (sym is)

-- so many bytes of the piece that is due, with some left
pub part_read : (old : Play) (piece left buffer : List ℕ) (n : ℕ) → next_piece old ≡ piece → left ≡ drop old.at piece → fails old.sound_takes ≡ false
    → n ≡ min (length left) (length buffer) → take n buffer ≡ take n left → 0 < length left → 0 < length buffer → n < length left
    → Reads old buffer (Ok (took.Bytes n)) (record (read_once old) { at = old.at + n })
part_read old piece left buffer n is rest sound most same some room more =
    let long : length left ≡ length piece - old.at = ap length rest ∙ length-drop old.at piece in
    rw (is, ← rest, ← long) (sound, most, omega (arith, most), same, inl (omega (arith, long, more), refl))

-- and with none left
pub whole_read : (old : Play) (piece left buffer : List ℕ) (n : ℕ) → next_piece old ≡ piece → left ≡ drop old.at piece → fails old.sound_takes ≡ false
    → n ≡ min (length left) (length buffer) → take n buffer ≡ take n left → 0 < length left → 0 < length buffer → length left ≤ n
    → Reads old buffer (Ok (took.Bytes n)) (record (read_once old) { next = old.next + 1; at = 0 })
whole_read old piece left buffer n is rest sound most same some room all =
    let long : length left ≡ length piece - old.at = ap length rest ∙ length-drop old.at piece in
    rw (is, ← rest, ← long) (sound, most, omega (arith, most), same, inr (omega (arith, long, some, all, most), refl))
