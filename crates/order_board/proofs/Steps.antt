-- Each of the four kinds of step keeps the rule of a board.
use Rattle.std.proofs.Common.{◌≡◌, ◌≢◌, ℕ, zero, suc, ◌<◌, List, [], ◌∷◌, ◌++◌, length, get_or, set, refl, sym, ap, ◌∙◌, subst, ⊎_elim, arith}
use Rattle.std.specs.Prelude.{slice_index, slice_set}
use Rattle.std.proofs.lemmas.List.{set-get_or, get_or-set_same, get_or-set_other, length-set}
use mathlib.Core.Option.{some, some-ne-none, some-injective}
use mathlib.Core.Logic.{dite}
use native.Mathlib.Decide.{ℕ_discrete}
use lib.ListN.{get_elem?}
use mathlib.Core.Option.{none}
use Rattle.atomic_table.specs.Table.{step, keeps, Allows, Splits, Joins, opening}
use Rattle.atomic_table.proofs.Lists.{at_set, at_snoc, set_again}
use Rattle.worker_state.specs.OrderParts.{OrderParts}
use Rattle.worker_state.specs.Orders.{HasWord, no_order, word_of}
use Rattle.order_board.specs.declared.view.Post.{Post}
use Rattle.order_board.specs.declared.view.View.{View}
use Rattle.order_board.specs.declared.view.View.TheVariants.{Publisher, Source, Reader, Spent}
use Rattle.order_board.specs.Posts.{post, posts_of, latest, BeginsWith}
use Rattle.order_board.specs.Rule.{Seat, word_at, FitsPosts, IsKept, Stores, ReadsSeat, Looks, zeros}
use Rattle.order_board.proofs.Posts.{posts_of-append, posts_of-here, posts_of-elsewhere, latest-append, begins_whole, begins_longer}

-- what other seats know stays true at a new post
others_fit : (publishes : ℕ) (posts : List Post) (p : Post) (seat : ℕ) (view : View) → seat ≢ publishes → FitsPosts publishes posts seat view → FitsPosts publishes (posts ++ p ∷ []) seat view
others_fit publishes posts p seat (Publisher known) apart h = absurd (apart h.0)
others_fit publishes posts p seat Source apart h = tt
others_fit publishes posts p seat (Reader slot seen) apart h =
    subst (λ (l : List OrderParts). BeginsWith l seen) (sym (posts_of-append slot posts (p ∷ []))) (begins_longer (posts_of slot posts) seen (posts_of slot (p ∷ [])) h)
others_fit publishes posts p seat Spent apart h = tt

-- every view fits where one seat's has changed and fits
fit_set : (F : ℕ → View → Type 0) (views : List View) (id : ℕ) (new : View) → ((seat : ℕ) (view : View) → seat ≢ id → get_elem? views seat ≡ some view → F seat view) → F id new
    → (seat : ℕ) (view : View) → get_elem? (set views id new) seat ≡ some view → F seat view
fit_set F views id new others mine seat view e =
    ⊎_elim
    (λ (x : (seat ≡ id) × (new ≡ view)). subst (λ (y : ℕ × View). F y.0 y.1) (λ i. (sym x.0 i, x.1 i)) mine)
    (λ (x : (seat ≢ id) × (get_elem? views seat ≡ some view)). others seat view x.0 x.1)
    (at_set views id seat new view e)

-- the last order of each slot after a post, and with it what is said of it
latest_here : (slot : ℕ) (posts : List Post) (order : OrderParts) → latest (posts_of slot (posts ++ post slot order ∷ [])) ≡ order
latest_here slot posts order = ap latest (posts_of-here slot posts order) ∙ latest-append (posts_of slot posts) order

latest_elsewhere : (slot other : ℕ) (posts : List Post) (order : OrderParts) → slot ≢ other → latest (posts_of other (posts ++ post slot order ∷ [])) ≡ latest (posts_of other posts)
latest_elsewhere slot other posts order apart = ap latest (posts_of-elsewhere slot other posts order apart)

orders_posted : (slot : ℕ) (posts : List Post) (order : OrderParts) → HasWord order → ((k : ℕ) → HasWord (latest (posts_of k posts)))
    → (k : ℕ) → HasWord (latest (posts_of k (posts ++ post slot order ∷ [])))
orders_posted slot posts order h each k =
    dite (ℕ_discrete slot k)
    (λ (e : slot ≡ k). subst (λ (j : ℕ). HasWord (latest (posts_of j (posts ++ post slot order ∷ [])))) e (subst HasWord (sym (latest_here slot posts order)) h))
    (λ (apart : slot ≢ k). subst HasWord (sym (latest_elsewhere slot k posts order apart)) (each k))

words_posted : (words slot : ℕ) (held : List ℕ) (posts : List Post) (order : OrderParts) → slot < words → length held ≡ words → ((k : ℕ) → k < words → slice_index held k ≡ word_at k posts)
    → (k : ℕ) → k < words → slice_index (slice_set held slot (word_of order)) k ≡ word_at k (posts ++ post slot order ∷ [])
words_posted words slot held posts order within long each k below =
    dite (ℕ_discrete slot k)
    (λ (e : slot ≡ k).
    subst (λ (j : ℕ). get_or (set held slot (word_of order)) j 0 ≡ word_at j (posts ++ post slot order ∷ [])) e
    (get_or-set_same held slot (word_of order) 0 (omega (arith, within, long)) ∙ sym (ap word_of (latest_here slot posts order))))
    (λ (apart : slot ≢ k). get_or-set_other held slot k (word_of order) 0 (λ e. apart (sym e)) ∙ each k below ∙ sym (ap word_of (latest_elsewhere slot k posts order apart)))

-- a store
stores : (words slots slot id : ℕ) (posts : List Post) (order : OrderParts) → slot < words → HasWord order
    → ((other : OrderParts) → HasWord other → word_of other ≡ word_of order → other ≡ order)
    → Allows (IsKept words) slots id (Publisher posts, []) slot (λ _. word_of order) (λ _. Stores (step slots slot (word_of order) 0 none) (Publisher posts, []) (word_of order))
stores words slots slot id posts order within has alone state h homes at small =
    let mine : (id ≡ h.publishes) × (posts ≡ h.posts) = h.views id (Publisher posts) at in
    let after = posts ++ post slot order ∷ [] in
    let known : ((k : ℕ) → HasWord (latest (posts_of k posts))) × ((k : ℕ) → k < words → slice_index state.words k ≡ word_at k posts) × ((seat : ℕ) (view : View) → get_elem? state.views seat ≡ some view → FitsPosts h.publishes posts seat view) =
    subst (λ (ps : List Post). ((k : ℕ) → HasWord (latest (posts_of k ps))) × ((k : ℕ) → k < words → slice_index state.words k ≡ word_at k ps) × ((seat : ℕ) (view : View) → get_elem? state.views seat ≡ some view → FitsPosts h.publishes ps seat view)) (sym mine.1) (h.orders, h.last, h.views) in (
      Publisher after,
      keeps,
      tt,
      record {
        publishes = h.publishes;
        posts = after;
        count = length-set state.words slot (word_of order) ∙ h.count;
        orders = orders_posted slot posts order has known.0;
        last = words_posted words slot state.words posts order within h.count known.1;
        views = fit_set (FitsPosts h.publishes after) state.views id (Publisher after) (λ seat view apart e. others_fit h.publishes posts (post slot order) seat view (λ same. apart (same ∙ sym mine.0)) (known.2 seat view e)) (mine.0, refl);
      },
      λ other others same. ap (λ (o : OrderParts). (Publisher (posts ++ post slot o ∷ []), [])) (sym (alone other others same)),
    )

-- a load by a reader
reads : (words slots slot id : ℕ) (seen : List OrderParts) → slot < words
    → Allows (IsKept words) slots id (Reader slot seen, []) slot (λ n. n) (ReadsSeat (step slots slot 0 0 none) (Reader slot seen, []))
reads words slots slot id seen within state h homes at small =
    let same : slice_set state.words slot (slice_index state.words slot) ≡ state.words = set-get_or state.words slot 0 in (
      Reader slot (posts_of slot h.posts),
      keeps,
      tt,
      record {
        publishes = h.publishes;
        posts = h.posts;
        count = ap length same ∙ h.count;
        orders = h.orders;
        last = λ k below. ap (λ (l : List ℕ). slice_index l k) same ∙ h.last k below;
        views = fit_set (FitsPosts h.publishes h.posts) state.views id (Reader slot (posts_of slot h.posts)) (λ seat view apart e. h.views seat view e) (begins_whole (posts_of slot h.posts));
      },
      record { seat = refl; later = h.views id (Reader slot seen) at; word = h.last slot within; order = h.orders slot },
    )

-- a load by the publisher
looks : (words slots slot id : ℕ) (posts : List Post) → slot < words
    → Allows (IsKept words) slots id (Publisher posts, []) slot (λ n. n) (Looks (step slots slot 0 0 none) (Publisher posts, []))
looks words slots slot id posts within state h homes at small =
    let mine : (id ≡ h.publishes) × (posts ≡ h.posts) = h.views id (Publisher posts) at in
    let same : slice_set state.words slot (slice_index state.words slot) ≡ state.words = set-get_or state.words slot 0 in (
      Publisher posts,
      keeps,
      tt,
      record {
        publishes = h.publishes;
        posts = h.posts;
        count = ap length same ∙ h.count;
        orders = h.orders;
        last = λ k below. ap (λ (l : List ℕ). slice_index l k) same ∙ h.last k below;
        views = fit_set (FitsPosts h.publishes h.posts) state.views id (Publisher posts) (λ seat view apart e. h.views seat view e) mine;
      },
      record {
        seat = refl;
        word = h.last slot within ∙ ap (word_at slot) (sym mine.1);
        order = subst (λ (ps : List Post). HasWord (latest (posts_of slot ps))) (sym mine.1) (h.orders slot);
      },
    )

-- a new seat, whose view fits wherever it stands
splits : (words id : ℕ) (view new : View) → ((publishes : ℕ) (posts : List Post) (seat : ℕ) → FitsPosts publishes posts seat new) → Splits (IsKept words) id view view new
splits words id view new fits state h at =
    record {
      publishes = h.publishes;
      posts = h.posts;
      count = h.count;
      orders = h.orders;
      last = h.last;
      views = λ seat w e. ⊎_elim (λ was. h.views seat w (subst (λ (l : List View). get_elem? l seat ≡ some w) (set_again state.views id view at) was))
          (λ (same : new ≡ w). subst (FitsPosts h.publishes h.posts seat) same (fits h.publishes h.posts seat)) (at_snoc (set state.views id view) new w seat e);
    }

pub opens : (words id : ℕ) (view : View) → Splits (IsKept words) id view view Source
opens words id view = splits words id view Source (λ publishes posts seat. tt)

pub seats : (words id slot : ℕ) (view : View) → Splits (IsKept words) id view view (Reader slot [])
seats words id slot view = splits words id view (Reader slot []) (λ publishes posts seat. (posts_of slot posts, refl))

pub retires : (words id other : ℕ) (view gone : View) → Joins (IsKept words) id view other gone view Spent
retires words id other view gone state h at apart there =
    record {
      publishes = h.publishes;
      posts = h.posts;
      count = h.count;
      orders = h.orders;
      last = h.last;
      views = fit_set (FitsPosts h.publishes h.posts) (set state.views id view) other Spent
          (λ seat w ne e. h.views seat w (subst (λ (l : List View). get_elem? l seat ≡ some w) (set_again state.views id view at) e)) tt;
    }

-- the steps, at a seat that is known
pub stores_at : (words slots slot id : ℕ) (me : Seat) (posts : List Post) (order : OrderParts) (word : ℕ) → me ≡ (Publisher posts, []) → word ≡ word_of order → slot < words → HasWord order
    → ((other : OrderParts) → HasWord other → word_of other ≡ word → other ≡ order)
    → Allows (IsKept words) slots id me slot (λ _. word) (λ _. Stores (step slots slot word 0 none) me word)
stores_at words slots slot id me posts order word is e within has alone =
    subst (λ (p : Seat × ℕ). Allows (IsKept words) slots id p.0 slot (λ _. p.1) (λ _. Stores (step slots slot p.1 0 none) p.0 p.1))
    (λ j. (sym is j, sym e j)) (stores words slots slot id posts order within has (λ other h same. alone other h (same ∙ sym e)))

pub reads_at : (words slots slot id : ℕ) (me : Seat) (seen : List OrderParts) → me ≡ (Reader slot seen, []) → slot < words
    → Allows (IsKept words) slots id me slot (λ n. n) (ReadsSeat (step slots slot 0 0 none) me)
reads_at words slots slot id me seen is within =
    subst (λ (p : Seat). Allows (IsKept words) slots id p slot (λ n. n) (ReadsSeat (step slots slot 0 0 none) p)) (sym is) (reads words slots slot id seen within)

pub looks_at : (words slots slot id : ℕ) (me : Seat) (posts : List Post) → me ≡ (Publisher posts, []) → slot < words
    → Allows (IsKept words) slots id me slot (λ n. n) (Looks (step slots slot 0 0 none) me)
looks_at words slots slot id me posts is within =
    subst (λ (p : Seat). Allows (IsKept words) slots id p slot (λ n. n) (Looks (step slots slot 0 0 none) p)) (sym is) (looks words slots slot id posts within)

-- a board to which nothing was posted
zero_at : (count k : ℕ) → slice_index (zeros count) k ≡ 0
zero_at zero k = refl
zero_at (suc count) zero = refl
zero_at (suc count) (suc k) = zero_at count k

length-zeros : (count : ℕ) → length (zeros count) ≡ count
length-zeros zero = refl
length-zeros (suc count) = ap suc (length-zeros count)

none_has_word : HasWord no_order
none_has_word = record { ranges = record { generation = omega arith; function = tt }; round = omega arith }

pub begins : (count : ℕ) → IsKept count (opening (zeros count) [] (Publisher []))
begins count =
    record {
      publishes = 0;
      posts = [];
      count = length-zeros count;
      orders = λ slot. none_has_word;
      last = λ slot below. zero_at count slot;
      views = one;
    }
  where
    one : (seat : ℕ) (view : View) → get_elem? (Publisher [] ∷ []) seat ≡ some view → FitsPosts 0 [] seat view
    one zero view e = subst (FitsPosts 0 [] 0) (some-injective _ _ e) (refl, refl)
    one (suc seat) view e = absurd (some-ne-none view (sym e))
