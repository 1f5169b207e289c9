-- The ranges of single values.
use Rattle.std.proofs.Common.{◌≡◌, ℕ, zero, suc, ◌≤◌, ℤ, pos, negsuc, List, [], ◌∷◌, Bool, true, false, ◌&&◌, cond, Option, Some, None, is_some, leb, length, refl, sym, subst, arith}
use Rattle.std.specs.Prelude.{unwrap_or, option_and_then}
use Rattle.std.specs.List.{list_all}
use Rattle.std.specs.Option.{option_map_or}
use Rattle.std.proofs.lemmas.Bool.{false≢true, leb-true, and_parts}
use Rattle.toml.specs.Data.{Data, Members, as_integer, as_str, get_member}
use Rattle.file_keys.specs.Keys.{AreInRange, IsInRange, Key, default_of, is_sound, least_in, least_of, most_in, most_of, number_as, number_in, numbers_in, text_in}
use Rattle.file_keys.specs.Tree.{long_between, number_between, text_between, within}
use Rattle.file_keys.specs.declared.keys.Absent.TheVariants as absent
use Rattle.file_keys.specs.declared.keys.KeyValue.{KeyValue}
use Rattle.file_keys.specs.declared.keys.KeyValue.TheVariants as kind

-- a value where there is one is from low to high
abbrev pub IsFrom : ℕ → ℕ → ℕ → Type 0
IsFrom low high n = (low ≤ n) × (n ≤ high)

within_range : (low high : ℕ) (z : ℤ) → is_some (within low high z) ≡ true → IsFrom low high (unwrap_or (within low high z) 0)
within_range low high (negsuc n) h = absurd (false≢true h)
within_range low high (pos n) h = by (leb low n && leb n high) refl h
  where
    by : (b : Bool) → (leb low n && leb n high) ≡ b → is_some (cond b (Some n) None) ≡ true → IsFrom low high (unwrap_or (cond b (Some n) None) 0)
    by true is h = let parts = and_parts (leb low n) (leb n high) is in (leb-true low n parts.0, leb-true n high parts.1)
    by false is h = absurd (false≢true h)

pub number_range : (low high : ℕ) (value : Data) → is_some (number_between low high value) ≡ true → IsFrom low high (unwrap_or (number_between low high value) 0)
number_range low high value h = by (as_integer value) h
  where
    by : (o : Option ℤ) → is_some (option_and_then (within low high) o) ≡ true → IsFrom low high (unwrap_or (option_and_then (within low high) o) 0)
    by None h = absurd (false≢true h)
    by (Some z) h = within_range low high z h

-- ---- the number of a row

-- the default of a sound row, or its least number
good_default : (low high : ℕ) (o : Option ℕ) → (leb low high && option_map_or (λ n. leb low n && leb n high) o true) ≡ true → IsFrom low high (unwrap_or o low)
good_default low high None h = let parts = and_parts (leb low high) true h in (omega arith, leb-true low high parts.0)
good_default low high (Some n) h =
    let parts = and_parts (leb low high) (leb low n && leb n high) h in
    let both = and_parts (leb low n) (leb n high) parts.1 in
    (leb-true low n both.0, leb-true n high both.1)

twice : (o : Option ℕ) (n : ℕ) → unwrap_or o (unwrap_or o n) ≡ unwrap_or o n
twice None n = refl
twice (Some m) n = refl

-- a value that is none falls back to what is in range
taken : (wanted : KeyValue) (value : Data) (n : ℕ) → IsFrom (least_in wanted) (most_in wanted) n → IsFrom (least_in wanted) (most_in wanted) (unwrap_or (number_as wanted value) n)
taken (kind.Number low high) value n good = by (number_between low high value) (number_range low high value)
  where
    by : (o : Option ℕ) → (is_some o ≡ true → IsFrom low high (unwrap_or o 0)) → IsFrom low high (unwrap_or o n)
    by None h = good
    by (Some m) h = h refl
taken kind.Boolean value n good = good
taken kind.Text value n good = good
taken (kind.Bytes low high) value n good = good
taken kind.Texts value n good = good
taken kind.Table value n good = good
taken kind.Address value n good = good
taken kind.Hosts value n good = good

-- the number of a sound row is in its range, whatever the table has there
pub number_in_range : (key : Key) (table : Members) → is_sound key ≡ true → IsInRange key (number_in table key)
number_in_range key table sound = by (get_member key.name table)
  where
    good : IsFrom (least_of key) (most_of key) (unwrap_or (default_of key) (least_of key))
    good = good_default (least_of key) (most_of key) (default_of key) sound

    by : (o : Option Data) → IsFrom (least_of key) (most_of key) (unwrap_or (option_map_or (number_as key.value) o (default_of key)) (unwrap_or (default_of key) (least_of key)))
    by None = subst (IsFrom (least_of key) (most_of key)) (sym (twice (default_of key) (least_of key))) good
    by (Some value) = taken key.value value _ good

-- and so is that of each of some sound rows
pub numbers_in_range : (keys : List Key) (table : Members) → list_all is_sound keys ≡ true → AreInRange keys (numbers_in keys table)
numbers_in_range [] table sound k below = absurd (omega (arith, below))
numbers_in_range (key ∷ keys) table sound zero below = number_in_range key table (and_parts (is_sound key) (list_all is_sound keys) sound).0
numbers_in_range (key ∷ keys) table sound (suc k) below =
    numbers_in_range keys table (and_parts (is_sound key) (list_all is_sound keys) sound).1 k (omega (arith, below))

-- ---- the text of a row

long_range : (low high : ℕ) (text : List ℕ) → is_some (long_between low high text) ≡ true → IsFrom low high (length (unwrap_or (long_between low high text) []))
long_range low high text h = by (leb low (length text) && leb (length text) high) refl h
  where
    by : (b : Bool) → (leb low (length text) && leb (length text) high) ≡ b → is_some (cond b (Some text) None) ≡ true → IsFrom low high (length (unwrap_or (cond b (Some text) None) []))
    by true is h = let parts = and_parts (leb low (length text)) (leb (length text) high) is in (leb-true low (length text) parts.0, leb-true (length text) high parts.1)
    by false is h = absurd (false≢true h)

-- a text of bounded length is in its range if its default is, whatever the table has there
pub text_in_range : (name default help : List ℕ) (low high : ℕ) (table : Members) → IsFrom low high (length default)
    → IsFrom low high (length (text_in table (record { name = name; value = kind.Bytes low high; absent = absent.Text default; help = help })))
text_in_range name default help low high table good = by (get_member name table)
  where
    kept : (text : List ℕ) → IsFrom low high (length (unwrap_or (long_between low high text) default))
    kept text = at (long_between low high text) (long_range low high text)
      where
        at : (o : Option (List ℕ)) → (is_some o ≡ true → IsFrom low high (length (unwrap_or o []))) → IsFrom low high (length (unwrap_or o default))
        at None h = good
        at (Some t) h = h refl

    read : (o : Option (List ℕ)) → IsFrom low high (length (unwrap_or (option_and_then (long_between low high) o) default))
    read None = good
    read (Some text) = kept text

    by : (o : Option Data) → IsFrom low high (length (unwrap_or (option_map_or (text_between low high) o (Some default)) default))
    by None = good
    by (Some value) = read (as_str value)
