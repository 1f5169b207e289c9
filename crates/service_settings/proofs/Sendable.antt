-- A URL that is read can be sent in a request.
use Rattle.std.proofs.Common.{◌≡◌, ℕ, zero, suc, ◌<◌, ◌≤◌, List, [], ◌∷◌, ◌++◌, Bool, true, false, cond, ◌||◌, length, get_or, refl, ◌∙◌, arith, length-append}
use Rattle.std.specs.Prelude.{codes, nat_le}
use Rattle.std.specs.Char.{is_ascii_graphic}
use Rattle.std.specs.List.{list_all}
use Rattle.std.specs.Str.{IsAscii, IsUtf8}
use Rattle.std.proofs.lemmas.Bool.{and_from, and_parts, false≢true, leb-true}
use Rattle.std.proofs.lemmas.List.Folds.{list_all-append}
use Rattle.std.proofs.lemmas.Str.{IsUtf8-from_ascii}
use Rattle.service_settings.specs.Services.{IsSendable}
use Rattle.file_keys.specs.Hosts.{is_host}
use Rattle.service_settings.specs.Url.{is_authority, is_host_with_port, is_path, is_visible, with_port}

ascii_byte : (b : ℕ) → is_ascii_graphic b ≡ true → b < 128
ascii_byte b h = let below : b ≤ 126 = leb-true b 126 (and_parts (nat_le 33 b) (nat_le b 126) h).1 in omega arith

ascii : (text : List ℕ) → is_visible text ≡ true → IsAscii text
ascii [] h i = omega arith
ascii (b ∷ bs) h i =
    let parts = and_parts (is_ascii_graphic b) (list_all is_ascii_graphic bs) h in
    let later = ascii bs parts.1 in
    elim i as (λ j. get_or (b ∷ bs) j 0 < 128) [ zero ↦ ascii_byte b parts.0 | suc j ↦ later j ]

pub visible_utf8 : (text : List ℕ) → is_visible text ≡ true → IsUtf8 text
visible_utf8 text h = IsUtf8-from_ascii text (ascii text h)

with_port_visible : (authority : List ℕ) → is_visible authority ≡ true → is_visible (with_port authority) ≡ true
with_port_visible authority h = by (is_host authority)
  where
    by : (b : Bool) → is_visible (cond b (authority ++ codes ":80") authority) ≡ true
    by true = list_all-append is_ascii_graphic authority (codes ":80") ∙ and_from _ _ h refl
    by false = h

with_port_some : (authority : List ℕ) → (is_host authority || is_host_with_port authority) ≡ true → 1 ≤ length (with_port authority)
with_port_some [] h = absurd (false≢true h)
with_port_some (b ∷ bs) h = by (is_host (b ∷ bs))
  where
    by : (t : Bool) → 1 ≤ length (cond t ((b ∷ bs) ++ codes ":80") (b ∷ bs))
    by true = omega (arith, length-append (b ∷ bs) (codes ":80"))
    by false = omega arith

pub sendable : (authority path : List ℕ) → is_authority authority ≡ true → is_path path ≡ true → IsSendable (record { host = with_port authority; path = path })
sendable authority path good_authority good_path =
    let parts = and_parts (is_visible authority) _ good_authority in
    record {
      host_some = with_port_some authority parts.1;
      host_visible = with_port_visible authority parts.0;
      path_visible = (and_parts (is_visible path) _ good_path).0;
    }
