use Rattle.order_board.proofs.board.Board.seat_reader.Given as goal

abbrev pub ghosts-seat_reader_at : goal.ghosts-seat_reader_at
ghosts-seat_reader_at a = record { slot = a.slot }
