-- A scripted device as the code keeps it.
use Rattle.std.specs.Prelude.{ℕ, List, map, Vec}
use Rattle.std.specs.declared.alloc.Global.{Global}
use Rattle.byte_io.specs.Script.{Play}
use Rattle.byte_io.specs.declared.doubles.Script.TheInside.{Inside}

abbrev pub pieces_view : List (Vec ℕ Global) → List (List ℕ)
pieces_view = map (λ piece. piece.items)

abbrev pub play_view : Inside → Play
play_view s = record {
  pieces = pieces_view s.pieces.items;
  next = s.next;
  at = s.at;
  lulls = s.lulls;
  has_ended = s.has_ended;
  sound_takes = s.sound_takes;
  take_failures = s.take_failures;
  output = s.output.items;
  widest_give = s.widest_give;
  sound_gives = s.sound_gives;
  give_failures = s.give_failures;
}
