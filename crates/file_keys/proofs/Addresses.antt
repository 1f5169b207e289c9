-- What std parses as an address is what the definitions read as one.
use Rattle.std.proofs.Common.{◌≡◌, ℕ, List, [], ◌∷◌, Bool, true, false, ◌||◌, Option, Some, None, Result, Ok, Err, is_some, is_ok, length, refl, sym, ap, subst, ◌∙◌, append-nil, ne_eqb, arith}
use Rattle.std.specs.Net.Addr.{ipv6_segments}
use Rattle.std.specs.Net.Grammar.{IsIpv6Text, IsSocketText, IsSocketV4Text, IsSocketV6Text, Parses}
use Rattle.std.specs.Net.Reader.{read_ipv6, read_socket_v4, read_socket_v6, whole_value}
use Rattle.std.specs.declared.net.ipv6_addr.Ipv6Addr.{Ipv6Addr}
use Rattle.std.specs.declared.net.socket_addr.SocketAddr.{SocketAddr}
use Rattle.std.specs.declared.net.socket_addr.SocketAddr.TheVariants.{V4, V6}
use Rattle.std.specs.declared.net.socket_addr.SocketAddrV4.{SocketAddrV4}
use Rattle.std.specs.declared.net.socket_addr.SocketAddrV6.{SocketAddrV6}
use Rattle.std.proofs.NetLemmas.Ipv6.{EndsGroups-nil, read_ipv6_complete, read_ipv6_sound}
use Rattle.std.proofs.NetLemmas.Sockets.{read_socket_v4_complete, read_socket_v4_sound, read_socket_v6_complete, read_socket_v6_sound}
use Rattle.file_keys.specs.Hosts.{is_ipv6, is_socket}

-- what is read and leaves something is no whole text
left_over : {A : Type 0} (value : A) (c : ℕ) (rest : List ℕ) → is_some (whole_value (Some (value, c ∷ rest))) ≡ false
left_over value c rest = rw (ne_eqb (length (c ∷ rest)) 0 (omega arith)) refl

-- ---- an IPv6 address

no_ipv6 : (text segments rest : List ℕ) → ((a : Ipv6Addr) → ¬ (IsIpv6Text text a)) → read_ipv6 text ≡ Some (segments, rest) → is_some (whole_value (Some (segments, rest))) ≡ false
no_ipv6 text segments [] none read =
    let a : Ipv6Addr = record { segments = segments } in
    let (prefix, split, encoded) = read_ipv6_sound text segments [] read in
    absurd (none a (subst (λ t. IsIpv6Text t a) (sym (split ∙ append-nil prefix)) encoded))
no_ipv6 text segments (c ∷ rest) none read = left_over segments c rest

pub ipv6_parsed : {E : Type 0} (text : List ℕ) (r : Result Ipv6Addr E) → Parses IsIpv6Text text r → is_ok r ≡ is_ipv6 text
ipv6_parsed text (Ok a) encoded =
    let read : read_ipv6 text ≡ Some (ipv6_segments a, []) = rw append-nil at (read_ipv6_complete text (ipv6_segments a) [] encoded EndsGroups-nil) in
    sym (ap (λ o. is_some (whole_value o)) read)
ipv6_parsed text (Err e) none = by (read_ipv6 text) refl
  where
    by : (o : Option (List ℕ × List ℕ)) → read_ipv6 text ≡ o → false ≡ is_some (whole_value o)
    by None is = refl
    by (Some p) is = sym (no_ipv6 text p.0 p.1 none is)

-- ---- an address and a port

no_v4 : (text : List ℕ) (parts : List ℕ × ℕ) (rest : List ℕ) → ((a : SocketAddrV4) → ¬ (IsSocketV4Text text a)) → read_socket_v4 text ≡ Some (parts, rest)
    → is_some (whole_value (Some (parts, rest))) ≡ false
no_v4 text parts [] none read =
    let a : SocketAddrV4 = record { ip = record { octets = parts.0 }; port = parts.1 } in
    let (prefix, split, encoded) = read_socket_v4_sound text [] a read in
    absurd (none a (subst (λ t. IsSocketV4Text t a) (sym (split ∙ append-nil prefix)) encoded))
no_v4 text parts (c ∷ rest) none read = left_over parts c rest

no_v6 : (text : List ℕ) (parts : List ℕ × ℕ × ℕ × ℕ) (rest : List ℕ) → ((a : SocketAddrV6) → ¬ (IsSocketV6Text text a)) → read_socket_v6 text ≡ Some (parts, rest)
    → is_some (whole_value (Some (parts, rest))) ≡ false
no_v6 text parts [] none read =
    let a : SocketAddrV6 = record { ip = record { segments = parts.0 }; port = parts.1; flowinfo = parts.2; scope_id = parts.3 } in
    let (prefix, split, encoded) = read_socket_v6_sound text [] a read in
    absurd (none a (subst (λ t. IsSocketV6Text t a) (sym (split ∙ append-nil prefix)) encoded))
no_v6 text parts (c ∷ rest) none read = left_over parts c rest

whole_v4 : (text : List ℕ) → ((a : SocketAddrV4) → ¬ (IsSocketV4Text text a)) → is_some (whole_value (read_socket_v4 text)) ≡ false
whole_v4 text none = by (read_socket_v4 text) refl
  where
    by : (o : Option ((List ℕ × ℕ) × List ℕ)) → read_socket_v4 text ≡ o → is_some (whole_value o) ≡ false
    by None is = refl
    by (Some p) is = no_v4 text p.0 p.1 none is

whole_v6 : (text : List ℕ) → ((a : SocketAddrV6) → ¬ (IsSocketV6Text text a)) → is_some (whole_value (read_socket_v6 text)) ≡ false
whole_v6 text none = by (read_socket_v6 text) refl
  where
    by : (o : Option ((List ℕ × ℕ × ℕ × ℕ) × List ℕ)) → read_socket_v6 text ≡ o → is_some (whole_value o) ≡ false
    by None is = refl
    by (Some p) is = no_v6 text p.0 p.1 none is

or_true : (x : Bool) → (x || true) ≡ true
or_true true = refl
or_true false = refl

or_false : (x y : Bool) → x ≡ false → y ≡ false → (x || y) ≡ false
or_false x y p q = rw (p, q) refl

pub socket_parsed : {E : Type 0} (text : List ℕ) (r : Result SocketAddr E) → Parses IsSocketText text r → is_ok r ≡ is_socket text
socket_parsed text (Ok (V4 a)) encoded =
    sym (ap (λ o. is_some (whole_value o) || is_some (whole_value (read_socket_v6 text))) (read_socket_v4_complete text a encoded))
socket_parsed text (Ok (V6 a)) encoded =
    let x = is_some (whole_value (read_socket_v4 text)) in
    sym (ap (λ o. x || is_some (whole_value o)) (read_socket_v6_complete text a encoded) ∙ or_true x)
socket_parsed text (Err e) none =
    sym (or_false _ _ (whole_v4 text (λ a. none (V4 a))) (whole_v6 text (λ a. none (V6 a))))
