-- A status text is read back as the jobs that it was written for.
use Rattle.std.proofs.Common.{◌≡◌, ◌∙◌, ℕ, ◌+◌, ◌-◌, ◌<◌, ◌≤◌, ◌^◌, zero, suc, List, [], ◌∷◌, ◌++◌, Bool, true, false, Some, Ok, cond, leb, length, length-append, get_or, map, append_assoc, refl, sym, ap, inl, inr, arith}
use Rattle.std.specs.Prelude.{IsTrue, codes}
use Rattle.std.specs.Char.{is_ascii_digit}
use Rattle.std.specs.Fmt.{decimal}
use Rattle.std.specs.List.{flat_map, list_all, range_with_len, slice_split}
use Rattle.std.specs.Option.{option_map_or}
use Rattle.std.specs.Str.{bytes_eq}
use Rattle.std.proofs.lemmas.Bool.{and_parts, cases_eq, false_from_ne_true, false≢true, leb-true, lt-ltb, ne_eqb}
use Rattle.std.proofs.lemmas.Fmt.{length-decimal-le}
use Rattle.std.proofs.lemmas.List.{ext_get_or, get_or-append_right, get_or-map, length-map}
use Rattle.std.proofs.lemmas.List.Elements.{All-get_or}
use Rattle.std.proofs.lemmas.List.Folds.{list_all-append}
use Rattle.std.proofs.lemmas.Slice.Eq.{bytes_eq-Decides}
use Rattle.gear_status.specs.Status.{Line, counts_of, is_period, line_meaning, meaning_from, number_in, put, waiting, without_return}
use Rattle.gear_status.specs.Stream.{has_no_line_feed}
use Rattle.gear_status.specs.declared.load.Counts.{Counts}
use Rattle.gear_status.proofs.Stream.{feed_line, feed_period}
use Rattle.pool_settings.specs.Names.{is_name, is_name_byte, name_at}
use Rattle.pool_settings.specs.Settings.{AreSettings, Settings}
use Rattle.pool_settings.proofs.Searches.{place_is}
use Rattle.text_pieces.specs.Cuts.{cut_last}
use Rattle.text_pieces.specs.Lines.{is_line_feed}
use Rattle.text_pieces.proofs.Cutting.{last_of_parts, same}
use Rattle.text_pieces.proofs.Digits.{digits, number_decimal, uncut}
use Rattle.farm_notes.specs.Evidence.{IsReadAs, status_line, status_text}

abbrev queued : ℕ → Counts
queued jobs = record { total = jobs; running = 0; workers = 0 }

-- ---- one line

-- what is before the counts that are 0, and the line without its line feed
abbrev prefix : List ℕ → ℕ → List ℕ
prefix name jobs = name ++ 9 ∷ decimal jobs

abbrev body : List ℕ → ℕ → List ℕ
body name jobs = prefix name jobs ++ 9 ∷ 48 ∷ 9 ∷ 48 ∷ []

before_rest : (name rest : List ℕ) (jobs : ℕ) → status_line name jobs ++ rest ≡ body name jobs ++ 10 ∷ rest
before_rest name rest jobs =
    append_assoc (prefix name jobs) (9 ∷ 48 ∷ 9 ∷ 48 ∷ 10 ∷ []) rest ∙ sym (append_assoc (prefix name jobs) (9 ∷ 48 ∷ 9 ∷ 48 ∷ []) (10 ∷ rest))

body_long : (name : List ℕ) (jobs : ℕ) → length (body name jobs) ≡ length (prefix name jobs) + 4
body_long name jobs = length-append (prefix name jobs) (9 ∷ 48 ∷ 9 ∷ 48 ∷ [])

-- its last byte is no carriage return
no_return : (name : List ℕ) (jobs : ℕ) → without_return (body name jobs) ≡ body name jobs
no_return name jobs =
    let zeros : List ℕ = 9 ∷ 48 ∷ 9 ∷ 48 ∷ [] in
    let long = body_long name jobs in
    let place : length (body name jobs) - 1 - length (prefix name jobs) ≡ 3 = omega (arith, long) in
    let last : get_or (body name jobs) (length (body name jobs) - 1) 0 ≡ 48 =
    get_or-append_right (prefix name jobs) zeros (length (prefix name jobs)) (length (body name jobs) - 1) 0 refl (omega (arith, long))
    ∙ ap (λ k. get_or zeros k 0) place in
    rw (lt-ltb 0 (length (body name jobs)) (omega (arith, long)), last) refl

no_period : (name : List ℕ) (jobs : ℕ) → is_period (body name jobs) ≡ false
no_period name jobs =
    ap (λ line. bytes_eq line (46 ∷ [])) (no_return name jobs)
    ∙ false_from_ne_true (bytes_eq (body name jobs) (46 ∷ [])) (λ yes.
    let whole = (bytes_eq-Decides (body name jobs) (46 ∷ [])).0 yes in
    omega (arith, body_long name jobs, ap length whole))

-- a text of bytes of another kind
no_feed_in : (p : ℕ → Bool) (text : List ℕ) → p 10 ≡ false → list_all p text ≡ true → has_no_line_feed text ≡ true
no_feed_in p [] out all = refl
no_feed_in p (b ∷ bs) out all =
    let parts = and_parts (p b) (list_all p bs) all in
    rw (ne_eqb b 10 (λ e. false≢true (sym out ∙ ap p (sym e) ∙ parts.0)), no_feed_in p bs out parts.1) refl

reads_line : (n jobs : ℕ) (name : List ℕ) → jobs < 2 ^ 32 → line_meaning n (body name jobs) ≡ Ok (name, queued jobs)
reads_line n jobs name small =
    let last : cut_last 9 (body name jobs) ≡ Some (prefix name jobs ++ 9 ∷ 48 ∷ [], 48 ∷ []) =
    ap (cut_last 9) (sym (append_assoc (prefix name jobs) (9 ∷ 48 ∷ []) (9 ∷ 48 ∷ [])))
    ∙ last_of_parts 9 (prefix name jobs ++ 9 ∷ 48 ∷ []) (48 ∷ []) refl in
    let middle = last_of_parts 9 (prefix name jobs) (48 ∷ []) refl in
    let first = last_of_parts 9 name (decimal jobs) (uncut 9 jobs (omega arith) refl) in
    let total : number_in (decimal jobs) ≡ Some jobs = number_decimal (2 ^ 32) jobs small (omega arith) in
    rw (last, middle, first, total) refl

module _ (name : List ℕ) (jobs : ℕ) (named : is_name name ≡ true) (small : jobs < 2 ^ 32) where
  no_feed : has_no_line_feed (body name jobs) ≡ true
  no_feed =
      let parts = and_parts _ (list_all is_name_byte name) named in
      let of_name = no_feed_in is_name_byte name refl parts.1 in
      let of_jobs = no_feed_in is_ascii_digit (decimal jobs) refl (digits jobs (omega arith)) in
      rw (list_all-append _ (prefix name jobs) (9 ∷ 48 ∷ 9 ∷ 48 ∷ []), list_all-append _ name (9 ∷ decimal jobs), of_name, of_jobs) refl

  short : length (body name jobs) ≤ 4096
  short =
      let lengths = and_parts (leb 1 (length name)) (leb (length name) 64) (and_parts _ (list_all is_name_byte name) named).0 in
      omega (arith, body_long name jobs, length-append name (9 ∷ decimal jobs), leb-true (length name) 64 lengths.1, length-decimal-le 10 jobs (omega arith) (omega arith) (omega arith))

-- ---- the load

put_same : (load : List Line) (name : List ℕ) (c : Counts) → counts_of (put load (name, c)) name ≡ Some c
put_same [] name c = rw ((bytes_eq-Decides name name).1 refl) refl
put_same (first ∷ rest) name c = by (bytes_eq name first.0) refl (put_same rest name c)
  where
    by : (b : Bool) → bytes_eq name first.0 ≡ b → counts_of (put rest (name, c)) name ≡ Some c → counts_of (put (first ∷ rest) (name, c)) name ≡ Some c
    by true here later = rw (here, here) refl
    by false other later = rw (other, other) later

put_other : (load : List Line) (name other : List ℕ) (c : Counts) → bytes_eq other name ≡ false → counts_of (put load (name, c)) other ≡ counts_of load other
put_other [] name other c differs = rw differs refl
put_other (first ∷ rest) name other c differs = by (bytes_eq name first.0) refl (put_other rest name other c differs)
  where
    by : (b : Bool) → bytes_eq name first.0 ≡ b → counts_of (put rest (name, c)) other ≡ counts_of rest other
        → counts_of (put (first ∷ rest) (name, c)) other ≡ counts_of (first ∷ rest) other
    by true here later =
        let so : bytes_eq other first.0 ≡ false = ap (bytes_eq other) (sym ((bytes_eq-Decides name first.0).0 here)) ∙ differs in
        rw (here, so) refl
    by false away later = rw away (ap (cond (bytes_eq other first.0) (Some first.1)) later)

-- ---- the text

-- The text from the line of function k on, after the lines of this load, means a load with the counts of these functions; those of the
-- functions before them stay.
record IsRead (names : List (List ℕ)) (jobs : List ℕ) (k : ℕ) (before : List Line) (text : List ℕ) : Type 0 where
  load : List Line
  read : meaning_from (k + 1) (slice_split is_line_feed text) before ≡ Ok load
  own : (j : ℕ) → k ≤ j → j < length names → counts_of load (name_at names j) ≡ Some (queued (get_or jobs j 0))
  kept : (j : ℕ) → j < k → counts_of load (name_at names j) ≡ counts_of before (name_at names j)

module _ (settings : Settings) (valid : AreSettings settings) (jobs : List ℕ) (small : (k : ℕ) → get_or jobs k 0 < 2 ^ 32) where
  named : (k : ℕ) → k < length settings.functions → is_name (name_at settings.functions k) ≡ true
  named k below = All-get_or (λ name. IsTrue (is_name name)) settings.functions k [] below valid.functions_named

  differ : (j k : ℕ) → j < k → k < length settings.functions → bytes_eq (name_at settings.functions j) (name_at settings.functions k) ≡ false
  differ j k less below =
      false_from_ne_true _ (λ yes.
      let one = (bytes_eq-Decides (name_at settings.functions j) (name_at settings.functions k)).0 yes in
      let at_j = place_is settings.functions (name_at settings.functions k) j valid.functions_rise (omega arith) one in
      let at_k = place_is settings.functions (name_at settings.functions k) k valid.functions_rise below refl in
      omega (arith, same j k (sym at_j ∙ at_k)))

  read_from : (m k : ℕ) (before : List Line) → k + m ≡ length settings.functions
      → IsRead settings.functions jobs k before
      (flat_map (λ f. status_line (name_at settings.functions f) (get_or jobs f 0)) (range_with_len k m) ++ codes ".\n")
  read_from zero k before all = record {
    load = before;
    read = feed_period (k + 1) (46 ∷ []) [] before refl (omega arith) refl;
    own = λ j from to. absurd (omega arith);
    kept = λ j below. refl;
  }
  read_from (suc m) k before all =
      let name = name_at settings.functions k in
      let count = get_or jobs k 0 in
      let inside : k < length settings.functions = omega arith in
      let more : List ℕ = flat_map (λ f. status_line (name_at settings.functions f) (get_or jobs f 0)) (range_with_len (k + 1) m) in
      let rest : List ℕ = more ++ codes ".\n" in
      let later = read_from m (k + 1) (put before (name, queued count)) (omega arith) in
      let text = append_assoc (status_line name count) more (codes ".\n") ∙ before_rest name rest count in
      record {
        load = later.load;
        read =
            ap (λ t. meaning_from (k + 1) (slice_split is_line_feed t) before) text
            ∙ feed_line (k + 1) (body name count) rest before (no_feed name count (named k inside) (small k)) (short name count (named k inside) (small k))
            (name, queued count) (no_period name count) (omega (arith, valid.functions_few))
            (ap (line_meaning (k + 1)) (no_return name count) ∙ reads_line (k + 1) count name (small k))
            ∙ later.read;
        own = λ j from to. elim (cases_eq j k) [
          | inl here ↦ rw here (later.kept k (omega arith) ∙ put_same before name (queued count))
          | inr after ↦ later.own j (omega arith) to
        ];
        kept = λ j below. later.kept j (omega arith) ∙ put_other before name (name_at settings.functions j) (queued count) (differ j k below inside);
      }

  pub read_back : length jobs ≡ length settings.functions → IsReadAs settings jobs (status_text settings.functions jobs)
  read_back paired =
      let all = read_from (length settings.functions) 0 [] (omega arith) in
      record {
        load = all.load;
        read = all.read;
        waits = ext_get_or 0 (map (waiting all.load) settings.functions) jobs (length-map settings.functions (waiting all.load) ∙ sym paired) (λ k within.
            let below : k < length settings.functions = omega (arith, length-map settings.functions (waiting all.load), within) in
            let none_run : get_or jobs k 0 - 0 ≡ get_or jobs k 0 = omega arith in
            get_or-map (waiting all.load) settings.functions k [] 0 below
            ∙ ap (λ o. option_map_or (λ c. c.total - c.running) o 0) (all.own k (omega arith) below) ∙ none_run);
      }
