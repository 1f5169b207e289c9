-- The rule of a board's words, and what its four kinds of step say.
use Rattle.std.specs.Prelude.{◌≡◌, ℕ, ◌<◌, List, [], ◌∷◌, ◌++◌, length, slice_index, replicate}
use lib.ListN.{get_elem?}
use mathlib.Core.Option.{some}
use Rattle.atomic_table.specs.Table.{State, Me, Step}
use Rattle.worker_state.specs.OrderParts.{OrderParts}
use Rattle.worker_state.specs.Orders.{HasWord, word_of}
use Rattle.order_board.specs.declared.view.Post.{Post}
use Rattle.order_board.specs.declared.view.View.{View}
use Rattle.order_board.specs.declared.view.View.TheVariants.{Publisher, Source, Reader, Spent}
use Rattle.order_board.specs.Posts.{post, posts_of, latest, BeginsWith}

-- a table with no slots: a step changes words and views alone
abbrev pub Words : Type 0
Words = State (Unit {0}) View

abbrev pub Seat : Type 0
Seat = Me (Unit {0}) View

abbrev pub publisher : List Post → View
publisher posts = Publisher posts

abbrev pub source : View
source = Source

abbrev pub reader : ℕ → List OrderParts → View
reader slot seen = Reader slot seen

abbrev pub spent : View
spent = Spent

-- all posts, as the publisher knows them
abbrev pub posts_in : View → List Post
posts_in (Publisher posts) = posts
posts_in Source = []
posts_in (Reader slot seen) = []
posts_in Spent = []

-- what a reader has seen of its slot's posts
abbrev pub seen_in : View → List OrderParts
seen_in (Publisher posts) = []
seen_in Source = []
seen_in (Reader slot seen) = seen
seen_in Spent = []

-- the word of a slot after these posts: that of its last order, or 0, which is the word of the order before any
abbrev pub word_at : ℕ → List Post → ℕ
word_at slot posts = word_of (latest (posts_of slot posts))

-- a seat's view fits these posts: the one publisher knows them all in order, and a reader a beginning of its own slot's
abbrev pub FitsPosts : ℕ → List Post → ℕ → View → Type 0
FitsPosts publishes posts seat (Publisher known) = (seat ≡ publishes) × (known ≡ posts)
FitsPosts publishes posts seat Source = Unit {0}
FitsPosts publishes posts seat (Reader slot seen) = BeginsWith (posts_of slot posts) seen
FitsPosts publishes posts seat Spent = Unit {0}

-- The rule of so many words: there is a list of posts such that each slot's word is that of its last post, or 0, and each seat's
-- view fits.
pub record IsKept (words : ℕ) (state : Words) : Type 0 where
  pub publishes : ℕ
  pub posts : List Post
  pub count : length state.words ≡ words
  pub orders : (slot : ℕ) → HasWord (latest (posts_of slot posts))
  pub last : (slot : ℕ) → slot < words → slice_index state.words slot ≡ word_at slot posts
  pub views : (seat : ℕ) (view : View) → get_elem? state.views seat ≡ some view → FitsPosts publishes posts seat view

-- a store by the publisher: it has posted the order whose word is stored
abbrev pub Stores : Step (Unit {0}) → Seat → ℕ → Seat → Type 0
Stores step old found new =
    (order : OrderParts) → HasWord order → word_of order ≡ step.first
    → new ≡ (Publisher (posts_in old.0 ++ post step.word order ∷ []), [])

-- a load by a reader: it has now seen all posts of its slot so far, and the word found is that of the last of them
pub record ReadsSeat (step : Step (Unit {0})) (old : Seat) (found : ℕ) (new : Seat) : Type 0 where
  pub seat : new ≡ (Reader step.word (seen_in new.0), [])
  pub later : BeginsWith (seen_in new.0) (seen_in old.0)
  pub word : found ≡ word_of (latest (seen_in new.0))
  pub order : HasWord (latest (seen_in new.0))

-- a load by the publisher: no view changes, and the word found is that of the last post
pub record Looks (step : Step (Unit {0})) (old : Seat) (found : ℕ) (new : Seat) : Type 0 where
  pub seat : new ≡ old
  pub word : found ≡ word_at step.word (posts_in old.0)
  pub order : HasWord (latest (posts_of step.word (posts_in old.0)))

-- the words of a new board
abbrev pub zeros : ℕ → List ℕ
zeros count = replicate count 0
