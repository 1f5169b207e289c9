-- What contracts see of a board and of its seats.
use Rattle.std.specs.Prelude.{ℕ, List, refl}
use Rattle.std.specs.Coded.{Coded, code_by, coded×, coded_ℕ}
use Rattle.atomic_table.specs.Seated.{TableId, table_id_coded}
use Rattle.worker_state.specs.OrderParts.{OrderParts}
use Rattle.order_board.specs.declared.view.Post.{Post}

-- which board it is, and how many slots it has
pub record BoardParts : Type 0 where
  pub id : TableId
  pub slots : ℕ

-- whose seat it is, and all that was posted
pub record PublisherParts : Type 0 where
  pub board : TableId
  pub posts : List Post

pub record SourceParts : Type 0 where
  pub board : TableId

-- whose seat it is, its slot, and what it has seen of the slot's posts
pub record ReaderParts : Type 0 where
  pub board : TableId
  pub slot : ℕ
  pub seen : List OrderParts

abbrev pub board_code : Coded BoardParts
board_code =
    code_by (TableId × ℕ) (coded× table_id_coded coded_ℕ) (λ b. (b.id, b.slots)) (λ p. record { id = p.0; slots = p.1 }) (λ _. refl)

abbrev pub source_code : Coded SourceParts
source_code = code_by TableId table_id_coded (λ s. s.board) (λ p. record { board = p }) (λ _. refl)
