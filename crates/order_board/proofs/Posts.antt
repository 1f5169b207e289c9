-- What a new post changes.
use Rattle.std.proofs.Common.{◌≡◌, ◌==◌, ◌≢◌, ℕ, List, [], ◌∷◌, ◌++◌, Option, Some, None, Bool, map, if◌then◌else◌, refl, sym, ap, ◌∙◌, eq-eqb, ne_eqb, append_assoc}
use Rattle.std.specs.Prelude.{unwrap_or}
use Rattle.std.specs.List.{filter, last_or}
use Rattle.std.proofs.lemmas.List.{append-nil, map-append}
use Rattle.std.proofs.lemmas.List.Elements.{filter-append}
use Rattle.worker_state.specs.OrderParts.{OrderParts}
use Rattle.worker_state.specs.Orders.{no_order}
use Rattle.order_board.specs.declared.view.Post.{Post}
use Rattle.order_board.specs.Posts.{post, posts_of, latest, BeginsWith}

pub posts_of-append : (slot : ℕ) (ps qs : List Post) → posts_of slot (ps ++ qs) ≡ posts_of slot ps ++ posts_of slot qs
posts_of-append slot ps qs =
    ap (map (λ p. p.order)) (filter-append (λ p. p.slot == slot) ps qs) ∙ map-append (λ p. p.order) (filter (λ p. p.slot == slot) ps) (filter (λ p. p.slot == slot) qs)

pub posts_of-here : (slot : ℕ) (ps : List Post) (order : OrderParts) → posts_of slot (ps ++ post slot order ∷ []) ≡ posts_of slot ps ++ order ∷ []
posts_of-here slot ps order = posts_of-append slot ps (post slot order ∷ []) ∙ ap (λ (b : Bool). posts_of slot ps ++ map (λ p. p.order) (if b then post slot order ∷ [] else [])) (eq-eqb slot slot refl)

pub posts_of-elsewhere : (slot other : ℕ) (ps : List Post) (order : OrderParts) → slot ≢ other → posts_of other (ps ++ post slot order ∷ []) ≡ posts_of other ps
posts_of-elsewhere slot other ps order apart =
    posts_of-append other ps (post slot order ∷ [])
    ∙ ap (λ (b : Bool). posts_of other ps ++ map (λ p. p.order) (if b then post slot order ∷ [] else [])) (ne_eqb slot other apart) ∙ append-nil (posts_of other ps)

last_or-append : (o : Option OrderParts) (orders : List OrderParts) (order : OrderParts) → last_or o (orders ++ order ∷ []) ≡ Some order
last_or-append o [] order = refl
last_or-append o (x ∷ orders) order = last_or-append (Some x) orders order

pub latest-append : (orders : List OrderParts) (order : OrderParts) → latest (orders ++ order ∷ []) ≡ order
latest-append orders order = ap (λ (o : Option OrderParts). unwrap_or o no_order) (last_or-append None orders order)

pub begins_whole : (orders : List OrderParts) → BeginsWith orders orders
begins_whole orders = ([], sym (append-nil orders))

pub begins_longer : (orders seen more : List OrderParts) → BeginsWith orders seen → BeginsWith (orders ++ more) seen
begins_longer orders seen more h = (h.0 ++ more, ap (λ (l : List OrderParts). l ++ more) h.1 ∙ append_assoc seen h.0 more)
