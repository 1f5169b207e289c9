-- A packet is read again as it was encoded, whatever follows it, and what is read was encoded so.
use Rattle.std.proofs.Common.{◌≡◌, ℕ, ◌+◌, ◌^◌, ◌<◌, ◌≤◌, Bool, true, false, ◌&&◌, cond, ltb, eqb, List, [], ◌∷◌, ◌++◌, length, get_or, take, drop, refl, sym, ap, ◌∙◌, append_assoc, arith, ◌⊎◌, inl, inr}
use Rattle.std.proofs.lemmas.Bool.{cases_lt, ltb-false, le-ltb, eqb-true, eq-eqb}
use Rattle.std.proofs.lemmas.List.{take_at, drop_at, take-append-drop, length-append, length-take, length-drop, get_or-drop, get_or-take, get_or_past, drop-append-le, take-append-le, drop-drop}
use Rattle.std.proofs.lemmas.List.{append-nil, take_all}
use Rattle.std.proofs.lemmas.List.Elements.{All-get_or}
use Rattle.std.specs.List.{All}
use Rattle.std.proofs.lemmas.Nat.{be_bytes_4}
use Rattle.byteorder.specs.Endian.{big_bytes, big_number}
use Rattle.byteorder.specs.Numbers.{big_number-reads_back, big_from-append, big_from-lt}
use Rattle.gear_packets.specs.Frame.{body_limit, packet, agrees, kind_at, size_at, wrong_magic, too_large, unfinished, framed, prefix, FourBytes}

pub record IsBytes (bytes : List ℕ) : Type 0 where
  pub below : (i : ℕ) → get_or bytes i 0 < 256

pub IsBytes-drop : (n : ℕ) (bytes : List ℕ) → IsBytes bytes → IsBytes (drop n bytes)
IsBytes-drop n bytes h = record { below = λ i. rw get_or-drop (h.below (n + i)) }

pub IsBytes-take : (n : ℕ) (bytes : List ℕ) → IsBytes bytes → IsBytes (take n bytes)
IsBytes-take n bytes h = record {
  below = λ i.
      elim (cases_lt i n) [
        | inl lt ↦ rw (get_or-take n bytes i 0 lt) (h.below i)
        | inr le ↦ rw (get_or_past (take n bytes) i 0 (omega (arith, length-take n bytes))) (omega arith)
      ];
}

byte_at : (bytes : List ℕ) → All (λ b. b < 256) bytes → (i : ℕ) → get_or bytes i 0 < 256
byte_at bytes below i =
    elim (cases_lt i (length bytes)) [
      | inl lt ↦ All-get_or (λ b. b < 256) bytes i 0 lt below
      | inr le ↦ rw (get_or_past bytes i 0 le) (omega arith)
    ]

-- ---- the four bytes of a number

-- four bytes are those of the number that they read as
pub bytes_again : (bytes : List ℕ) → IsBytes bytes → 4 ≤ length bytes → big_bytes 4 (big_number 4 bytes) ≡ take 4 bytes
bytes_again bytes fits long =
    let prefix = IsBytes-take 4 bytes fits in
    let a = get_or-take 4 bytes 0 0 (omega arith) in
    let b = get_or-take 4 bytes 1 0 (omega arith) in
    let c = get_or-take 4 bytes 2 0 (omega arith) in
    let d = get_or-take 4 bytes 3 0 (omega arith) in
    be_bytes_4 (take 4 bytes) (big_number 4 bytes) (omega (arith, length-take 4 bytes)) prefix.below (omega (arith, a, b, c, d))

-- ---- the magic

agrees_self : (magic rest : List ℕ) → agrees magic (magic ++ rest) ≡ true
agrees_self [] rest = refl
agrees_self (m ∷ magic) rest = rw (eq-eqb m m refl) (agrees_self magic rest)

and_parts : (a b : Bool) → (a && b) ≡ true → (a ≡ true) × (b ≡ true)
and_parts true b h = (refl, h)
and_parts false b h = absurd cc

agrees_is : (magic bytes : List ℕ) → agrees magic bytes ≡ true → length magic ≤ length bytes → bytes ≡ magic ++ drop (length magic) bytes
agrees_is [] bytes h long = refl
agrees_is (m ∷ magic) [] h long = absurd (omega arith)
agrees_is (m ∷ magic) (b ∷ bytes) h long =
    let parts = and_parts (eqb m b) (agrees magic bytes) h in
    let same : m ≡ b = eqb-true m b parts.0 in
    let rest = agrees_is magic bytes parts.1 (omega arith) in
    ap (λ (x : ℕ). x ∷ bytes) (sym same) ∙ ap (λ (x : List ℕ). m ∷ x) rest

agrees_more : (magic bytes more : List ℕ) → length magic ≤ length bytes → agrees magic (bytes ++ more) ≡ agrees magic bytes
agrees_more [] bytes more long = refl
agrees_more (m ∷ magic) [] more long = absurd (omega arith)
agrees_more (m ∷ magic) (b ∷ bytes) more long = ap (λ (x : Bool). eqb m b && x) (agrees_more magic bytes more (omega arith))

disagrees_more : (magic bytes more : List ℕ) → agrees magic bytes ≡ false → agrees magic (bytes ++ more) ≡ false
disagrees_more [] bytes more h = absurd cc
disagrees_more (m ∷ magic) [] more h = absurd cc
disagrees_more (m ∷ magic) (b ∷ bytes) more h = by (eqb m b) (agrees magic bytes) (agrees magic (bytes ++ more)) (disagrees_more magic bytes more) h
  where
    by : (e a b : Bool) → (a ≡ false → b ≡ false) → (e && a) ≡ false → (e && b) ≡ false
    by true a b f h = f h
    by false a b f h = refl

-- ---- the places of the parts

pub record Layout (magic kind size body rest : List ℕ) : Type 0 where
  pub later_magic : drop 4 ((magic ++ (kind ++ (size ++ body))) ++ rest) ≡ kind ++ (size ++ (body ++ rest))
  pub later_kind : drop 8 ((magic ++ (kind ++ (size ++ body))) ++ rest) ≡ size ++ (body ++ rest)
  pub later_size : drop 12 ((magic ++ (kind ++ (size ++ body))) ++ rest) ≡ body ++ rest
  pub later_body : drop (12 + length body) ((magic ++ (kind ++ (size ++ body))) ++ rest) ≡ rest
  pub long : length ((magic ++ (kind ++ (size ++ body))) ++ rest) ≡ 12 + length body + length rest
  pub starts : (magic ++ (kind ++ (size ++ body))) ++ rest ≡ magic ++ (kind ++ (size ++ (body ++ rest)))

pub layout : (magic kind size body rest : List ℕ) → length magic ≡ 4 → length kind ≡ 4 → length size ≡ 4 → Layout magic kind size body rest
layout magic kind size body rest m k s =
    let starts : (magic ++ (kind ++ (size ++ body))) ++ rest ≡ magic ++ (kind ++ (size ++ (body ++ rest))) = simp append_assoc in
    let at_kind : (magic ++ (kind ++ (size ++ body))) ++ rest ≡ (magic ++ kind) ++ (size ++ (body ++ rest)) = simp append_assoc in
    let at_size : (magic ++ (kind ++ (size ++ body))) ++ rest ≡ (magic ++ (kind ++ size)) ++ (body ++ rest) = simp append_assoc in
    record {
      later_magic = ap (drop 4) starts ∙ drop_at magic (kind ++ (size ++ (body ++ rest))) 4 m;
      later_kind = ap (drop 8) at_kind ∙ drop_at (magic ++ kind) (size ++ (body ++ rest)) 8 (omega (arith, length-append magic kind));
      later_size = ap (drop 12) at_size ∙ drop_at (magic ++ (kind ++ size)) (body ++ rest) 12 (omega (arith, length-append magic (kind ++ size), length-append kind size));
      later_body = drop_at (magic ++ (kind ++ (size ++ body))) rest (12 + length body) (omega (arith, length-append magic (kind ++ (size ++ body)), length-append kind (size ++ body), length-append size body));
      long = omega (arith, length-append (magic ++ (kind ++ (size ++ body))) rest, length-append magic (kind ++ (size ++ body)), length-append kind (size ++ body), length-append size body);
      starts = starts;
    }

-- ---- a packet at the start

pub prefix_packet : (magic : List ℕ) (kind : ℕ) (body rest : List ℕ) → length magic ≡ 4 → kind < 256 ^ 4 → length body ≤ body_limit → prefix magic (packet magic kind body ++ rest) ≡ framed kind body rest
unfolding prefix
prefix_packet magic kind body rest four low fits =
    let l = layout magic (big_bytes 4 kind) (big_bytes 4 (length body)) body rest four refl refl in
    let agree : agrees magic (packet magic kind body ++ rest) ≡ true = ap (agrees magic) l.starts ∙ agrees_self magic (big_bytes 4 kind ++ (big_bytes 4 (length body) ++ (body ++ rest))) in
    let kind_is : kind_at (packet magic kind body ++ rest) ≡ kind = ap (big_number 4) l.later_magic ∙ big_number-reads_back 4 kind (big_bytes 4 (length body) ++ (body ++ rest)) low in
    let size_is : size_at (packet magic kind body ++ rest) ≡ length body = ap (big_number 4) l.later_kind ∙ big_number-reads_back 4 (length body) (body ++ rest) (omega arith) in
    let long : ltb (length (packet magic kind body ++ rest)) 12 ≡ false = le-ltb _ _ (omega (arith, l.long)) in
    let small : ltb body_limit (length body) ≡ false = le-ltb _ _ fits in
    let enough : ltb (length (packet magic kind body ++ rest)) (12 + length body) ≡ false = le-ltb _ _ (omega (arith, l.long)) in
    let at_body : take (length body) (drop 12 (packet magic kind body ++ rest)) ≡ body = ap (take (length body)) l.later_size ∙ take_at body rest (length body) refl in
    rw (agree, long, size_is, small, enough, kind_is, at_body, l.later_body) refl

-- the way that a test went, where the other answer is not the one given
pub not_first : {A : Type 0} (b : Bool) (x y z : A) → cond b x y ≡ z → (x ≡ z → ⊥) → (b ≡ false) × (y ≡ z)
not_first true x y z h off = absurd (off h)
not_first false x y z h off = (refl, h)

pub not_second : {A : Type 0} (b : Bool) (x y z : A) → cond b x y ≡ z → (y ≡ z → ⊥) → (b ≡ true) × (x ≡ z)
not_second true x y z h off = (refl, h)
not_second false x y z h off = absurd (off h)

pub chosen : {A : Type 0} (b : Bool) (x y z : A) → cond b x y ≡ z → ((b ≡ true) × (x ≡ z)) ⊎ ((b ≡ false) × (y ≡ z))
chosen true x y z h = inl (refl, h)
chosen false x y z h = inr (refl, h)

-- what a whole packet at the start was tested for
pub record Tested (magic bytes : List ℕ) (kind : ℕ) (body rest : List ℕ) : Type 0 where
  pub agree : agrees magic bytes ≡ true
  pub header : 12 ≤ length bytes
  pub small : size_at bytes ≤ body_limit
  pub enough : 12 + size_at bytes ≤ length bytes
  pub kind_is : kind_at bytes ≡ kind
  pub body_is : take (size_at bytes) (drop 12 bytes) ≡ body
  pub rest_is : drop (12 + size_at bytes) bytes ≡ rest

pub tested : (magic bytes : List ℕ) (kind : ℕ) (body rest : List ℕ) → prefix magic bytes ≡ framed kind body rest → Tested magic bytes kind body rest
unfolding prefix
tested magic bytes kind body rest h =
    let agree = not_second (agrees magic bytes) _ wrong_magic (framed kind body rest) h (λ e. cc) in
    let header = not_first (ltb (length bytes) 12) unfinished _ (framed kind body rest) agree.1 (λ e. cc) in
    let small = not_first (ltb body_limit (size_at bytes)) too_large _ (framed kind body rest) header.1 (λ e. cc) in
    let enough = not_first (ltb (length bytes) (12 + size_at bytes)) unfinished _ (framed kind body rest) small.1 (λ e. cc) in
    let e = enough.1 in
    record {
      agree = agree.0;
      header = ltb-false _ _ header.0;
      small = ltb-false _ _ small.0;
      enough = ltb-false _ _ enough.0;
      kind_is = cc;
      body_is = cc;
      rest_is = cc;
    }

pub prefix_tested : (magic bytes : List ℕ) (kind : ℕ) (body rest : List ℕ) → Tested magic bytes kind body rest → prefix magic bytes ≡ framed kind body rest
unfolding prefix
prefix_tested magic bytes kind body rest t =
    rw (t.agree, le-ltb _ _ t.header, le-ltb _ _ t.small, le-ltb _ _ t.enough, t.kind_is, t.body_is, t.rest_is) refl

-- more bytes change nothing of a packet that is whole
pub whole_stays : (magic bytes more : List ℕ) (kind : ℕ) (body rest : List ℕ) → length magic ≡ 4 → prefix magic bytes ≡ framed kind body rest → prefix magic (bytes ++ more) ≡ framed kind body (rest ++ more)
whole_stays magic bytes more kind body rest four h =
    let t = tested magic bytes kind body rest h in
    let len = length-append bytes more in
    let kind_same : kind_at (bytes ++ more) ≡ kind_at bytes = ap (big_number 4) (drop-append-le 4 bytes more (omega (arith, t.header))) ∙ big_from-append 4 (drop 4 bytes) more (omega (arith, t.header, length-drop 4 bytes)) in
    let size_same : size_at (bytes ++ more) ≡ size_at bytes = ap (big_number 4) (drop-append-le 8 bytes more (omega (arith, t.header))) ∙ big_from-append 4 (drop 8 bytes) more (omega (arith, t.header, length-drop 8 bytes)) in
    prefix_tested magic (bytes ++ more) kind body (rest ++ more) (record {
      agree = agrees_more magic bytes more (omega (arith, four, t.header)) ∙ t.agree;
      header = omega (arith, t.header, len);
      small = rw size_same t.small;
      enough = omega (arith, t.enough, size_same, len);
      kind_is = kind_same ∙ t.kind_is;
      body_is = rw (size_same, drop-append-le 12 bytes more t.header, take-append-le (size_at bytes) (drop 12 bytes) more (omega (arith, t.enough, length-drop 12 bytes))) t.body_is;
      rest_is = rw (size_same, drop-append-le (12 + size_at bytes) bytes more t.enough) (ap (λ (x : List ℕ). x ++ more) t.rest_is);
    })

split_as : (n : ℕ) (xs prefix later : List ℕ) → prefix ≡ take n xs → drop n xs ≡ later → xs ≡ prefix ++ later
split_as n xs prefix later f b = rw (f, ← b) (sym (take-append-drop n xs))

-- what is read at the start was encoded so
pub record Encoded (magic bytes : List ℕ) (kind : ℕ) (body rest : List ℕ) : Type 0 where
  pub parts : bytes ≡ packet magic kind body ++ rest
  pub kind_fits : kind < 2 ^ 32
  pub body_fits : length body ≤ body_limit
  pub body_bytes : IsBytes body
  pub rest_bytes : IsBytes rest

pub prefix_encoded : (magic bytes : List ℕ) (kind : ℕ) (body rest : List ℕ) → length magic ≡ 4 → IsBytes bytes → prefix magic bytes ≡ framed kind body rest → Encoded magic bytes kind body rest
prefix_encoded magic bytes kind body rest four fits h =
    let t = tested magic bytes kind body rest h in
    let size = size_at bytes in
    let after_magic : bytes ≡ magic ++ drop 4 bytes = rw (← four) (agrees_is magic bytes t.agree (omega (arith, four, t.header))) in
    let kind_bytes : big_bytes 4 kind ≡ take 4 (drop 4 bytes) = rw (← t.kind_is) (bytes_again (drop 4 bytes) (IsBytes-drop 4 bytes fits) (omega (arith, t.header, length-drop 4 bytes))) in
    let size_bytes : big_bytes 4 (size_at bytes) ≡ take 4 (drop 8 bytes) = bytes_again (drop 8 bytes) (IsBytes-drop 8 bytes fits) (omega (arith, t.header, length-drop 8 bytes)) in
    let body_len : length body ≡ size_at bytes = rw (← t.body_is) (omega (arith, length-take (size_at bytes) (drop 12 bytes), length-drop 12 bytes, t.enough)) in
    let after_kind : drop 4 bytes ≡ big_bytes 4 kind ++ drop 8 bytes = split_as 4 (drop 4 bytes) (big_bytes 4 kind) (drop 8 bytes) kind_bytes (drop-drop 4 4 bytes) in
    let after_size : drop 8 bytes ≡ big_bytes 4 (length body) ++ drop 12 bytes = split_as 4 (drop 8 bytes) (big_bytes 4 (length body)) (drop 12 bytes) (ap (big_bytes 4) body_len ∙ size_bytes) (drop-drop 4 8 bytes) in
    let after_body : drop 12 bytes ≡ body ++ rest = split_as (size_at bytes) (drop 12 bytes) body rest (sym t.body_is) (drop-drop (size_at bytes) 12 bytes ∙ t.rest_is) in
    let whole : bytes ≡ magic ++ (big_bytes 4 kind ++ (big_bytes 4 (length body) ++ (body ++ rest))) =
    after_magic ∙ ap (λ (x : List ℕ). magic ++ x) (after_kind ∙ ap (λ (x : List ℕ). big_bytes 4 kind ++ x) (after_size ∙ ap (λ (x : List ℕ). big_bytes 4 (length body) ++ x) after_body)) in
    let l = layout magic (big_bytes 4 kind) (big_bytes 4 (length body)) body rest four refl refl in
    record {
      parts = whole ∙ sym l.starts;
      kind_fits = rw (← t.kind_is) (big_from-lt 0 4 (drop 4 bytes) (IsBytes-drop 4 bytes fits).below);
      body_fits = rw body_len t.small;
      body_bytes = rw (← t.body_is) (IsBytes-take (size_at bytes) (drop 12 bytes) (IsBytes-drop 12 bytes fits));
      rest_bytes = rw (← t.rest_is) (IsBytes-drop (12 + size_at bytes) bytes fits);
    }

-- a magic that is wrong, and a body that is too large, stay so
pub wrong_stays : (magic bytes more : List ℕ) → prefix magic bytes ≡ wrong_magic → prefix magic (bytes ++ more) ≡ wrong_magic
unfolding prefix
wrong_stays magic bytes more h =
    elim (chosen (agrees magic bytes) _ wrong_magic wrong_magic h) [
      | inr off ↦ rw (disagrees_more magic bytes more off.0) refl
      | inl agree ↦
          let header = not_first (ltb (length bytes) 12) unfinished _ wrong_magic agree.1 (λ e. cc) in
          let small = not_first (ltb body_limit (size_at bytes)) too_large _ wrong_magic header.1 (λ e. cc) in
          let enough = not_first (ltb (length bytes) (12 + size_at bytes)) unfinished _ wrong_magic small.1 (λ e. cc) in
          absurd (let e = enough.1 in cc)
    ]

pub too_large_stays : (magic bytes more : List ℕ) → length magic ≡ 4 → prefix magic bytes ≡ too_large → prefix magic (bytes ++ more) ≡ too_large
unfolding prefix
too_large_stays magic bytes more four h =
    let agree = not_second (agrees magic bytes) _ wrong_magic too_large h (λ e. cc) in
    let header = not_first (ltb (length bytes) 12) unfinished _ too_large agree.1 (λ e. cc) in
    elim (chosen (ltb body_limit (size_at bytes)) too_large _ too_large header.1) [
      | inl large ↦
          let long : 12 ≤ length bytes = ltb-false _ _ header.0 in
          let size_same : size_at (bytes ++ more) ≡ size_at bytes = ap (big_number 4) (drop-append-le 8 bytes more (omega arith)) ∙ big_from-append 4 (drop 8 bytes) more (omega (arith, length-drop 8 bytes)) in
          let header_same : ltb (length (bytes ++ more)) 12 ≡ false = le-ltb _ _ (omega (arith, length-append bytes more)) in
          rw (agrees_more magic bytes more (omega (arith, four)) ∙ agree.0, header_same, size_same, large.0) refl
      | inr small ↦
          let enough = not_first (ltb (length bytes) (12 + size_at bytes)) unfinished _ too_large small.1 (λ e. cc) in
          absurd (let e = enough.1 in cc)
    ]

-- a packet takes bytes away
pub whole_shrinks : (magic bytes : List ℕ) (kind : ℕ) (body rest : List ℕ) → prefix magic bytes ≡ framed kind body rest → length rest < length bytes
whole_shrinks magic bytes kind body rest h =
    let t = tested magic bytes kind body rest h in
    rw (← t.rest_is) (omega (arith, t.enough, length-drop (12 + size_at bytes) bytes))

-- ---- four bytes and their number

pub four_bytes : FourBytes
four_bytes = (
  λ n low. ap (big_number 4) (sym (append-nil (big_bytes 4 n))) ∙ big_number-reads_back 4 n [] (omega (arith, low)),
  λ bytes four below.
      let fits : IsBytes bytes = record { below = λ i. byte_at bytes below i } in
      bytes_again bytes fits (omega (arith, four)) ∙ take_all 4 bytes (omega (arith, four)),
)
