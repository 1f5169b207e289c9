-- A line cut at its spaces.
use Rattle.std.proofs.Common.{◌≡◌, ◌+◌, ◌-◌, ◌<◌, ◌≤◌, ◌∙◌, ℕ, zero, suc, List, [], ◌∷◌, ◌++◌, true, Option, None, Some, map, ltb, length, take, refl, ap, sym, arith}
use Rattle.std.specs.Option.{option_map_or}
use Rattle.std.proofs.lemmas.Bool.Decides.{nat_tests}
use Rattle.text_pieces.specs.Cuts.{cut_first}
use Rattle.text_pieces.proofs.Cutting.{split_by_first}
use Rattle.gear_status.specs.Status.{Line, put}
use Rattle.pool_commands.specs.Grammar.{load_from}
use Rattle.pool_commands.specs.Words.{count_in, words_after, words_of}

-- the words of a line by its parts
abbrev words_by : List ℕ → Option (List ℕ × List ℕ) → List (List ℕ)
words_by line cut = option_map_or (λ parts. parts.0 ∷ words_of parts.1) cut (line ∷ [])

pub words_some : (line word rest : List ℕ) → Some (word, rest) ≡ cut_first 32 line → words_of line ≡ word ∷ words_of rest
words_some line word rest cut = split_by_first 32 line ∙ ap (words_by line) (sym cut)

pub words_none : (line : List ℕ) → None ≡ cut_first 32 line → words_of line ≡ line ∷ []
words_none line cut = split_by_first 32 line ∙ ap (words_by line) (sym cut)

-- one more word was taken off
pub words_kept :
    {X : Type 0} (f : X → List ℕ) (made next : List X) (w : X) (i : ℕ) (ws all : List (List ℕ)) → next ≡ made ++ w ∷ [] → i < 5
    → map f made ++ take (5 - i) (f w ∷ ws) ≡ all → map f next ++ take (5 - (i + 1)) ws ≡ all
words_kept f made next w i ws all pushed few kept =
    let more : 5 - i ≡ suc (5 - (i + 1)) = omega arith in
    ap (λ l. map f l ++ take (5 - (i + 1)) ws) pushed ∙ (joined f made w (take (5 - (i + 1)) ws)
    ∙ (ap (λ n. map f made ++ take n (f w ∷ ws)) (sym more) ∙ kept))
  where
    joined : {X : Type 0} (f : X → List ℕ) (ws : List X) (w : X) (ls : List (List ℕ)) → map f (ws ++ w ∷ []) ++ ls ≡ map f ws ++ f w ∷ ls
    joined f [] w ls = refl
    joined f (x ∷ xs) w ls = ap (λ l. f x ∷ l) (joined f xs w ls)

-- no words are left
pub words_all : {X : Type 0} (f : X → List ℕ) (made : List X) (n : ℕ) (all : List (List ℕ)) → map f made ++ take n [] ≡ all → map f made ≡ all
words_all f made n all kept = whole (map f made) n ∙ kept
  where
    nothing : (n : ℕ) → take {A = List ℕ} n [] ≡ []
    nothing zero = refl
    nothing (suc n) = refl

    whole : (ls : List (List ℕ)) (n : ℕ) → ls ≡ ls ++ take n []
    whole [] n = sym (nothing n)
    whole (l ∷ ls) n = ap (λ more. l ∷ more) (whole ls n)

-- no more words are wanted
pub words_full : {X : Type 0} (f : X → List ℕ) (made : List X) (i : ℕ) (ws all : List (List ℕ)) → 5 ≤ i
    → map f made ++ take (5 - i) ws ≡ all → map f made ≡ all
words_full f made i ws all enough kept =
    let none : 5 - i ≡ 0 = omega arith in
    whole (map f made) ∙ (ap (λ n. map f made ++ take n ws) (sym none) ∙ kept)
  where
    whole : (ls : List (List ℕ)) → ls ≡ ls ++ []
    whole [] = refl
    whole (l ∷ ls) = ap (λ more. l ∷ more) (whole ls)

-- a name with its numbers is set
entry_set :
    (load : List Line) (name total running : List ℕ) (t r : ℕ) (rest : List (List ℕ)) → 0 < length name
    → Some t ≡ count_in total → Some r ≡ count_in running
    → load_from load (name ∷ total ∷ running ∷ rest) ≡ load_from (put load (name, record { total = t; running = r; workers = 0 })) rest
entry_set load name total running t r rest some is_t is_r =
    let named : ltb 0 (length name) ≡ true = grind (arith, nat_tests) in
    rw (named, sym is_t, sym is_r) refl

-- three words of a text, with what stands after each of them, are a name with its numbers
pub entry_read :
    (load : List Line) (text name total running two three : List ℕ) (second third rest : Option (List ℕ)) (t r : ℕ)
    → words_of text ≡ name ∷ words_after second → second ≡ Some two → words_of two ≡ total ∷ words_after third → third ≡ Some three
    → words_of three ≡ running ∷ words_after rest → 0 < length name → Some t ≡ count_in total → Some r ≡ count_in running
    → load_from load (words_of text) ≡ load_from (put load (name, record { total = t; running = r; workers = 0 })) (words_after rest)
entry_read load text name total running two three second third rest t r cut_1 is_2 cut_2 is_3 cut_3 some is_t is_r =
    let from_three : words_after third ≡ running ∷ words_after rest = ap words_after is_3 ∙ cut_3 in
    let from_two : words_after second ≡ total ∷ running ∷ words_after rest = ap words_after is_2 ∙ (cut_2 ∙ ap (λ ws. total ∷ ws) from_three) in
    ap (load_from load) (cut_1 ∙ ap (λ ws. name ∷ ws) from_two) ∙ entry_set load name total running t r (words_after rest) some is_t is_r
